use Rattle.drv_cc.specs.Levels.{asks_for_records, raised_by}
use Rattle.drv_cc.specs.declared.item.Item.{Item}
use Rattle.std.specs.List.{list_any}
use Rattle.std.specs.Option.{is_some}
use Rattle.std.specs.Prelude.{◌≡◌, List, Option, false, ℕ}

-- What holds of the level of a line (GCC manual, "Debugging Options").
-- For the laws of src/laws.rt.

-- no option of a list names one
abbrev pub NoneNames : {A : Type 0} → (List ℕ → Option A) → List Item → Type 0
NoneNames named items = list_any (λ i. is_some (named i.name)) items ≡ false

-- a level, after options that name none: 2 at least where one of them asks for records
abbrev pub level_after : List Item → ℕ → ℕ
level_after items = raised_by (list_any (λ i. asks_for_records i.name) items)
