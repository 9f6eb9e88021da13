use Rattle.drv_args.specs.declared.items.Item.{Item}
use Rattle.std.specs.List.{starts_with}
use Rattle.std.specs.Prelude.{List, [], ◌∷◌, codes, drop, if◌then◌else◌, length, nat_eq, ℕ}

-- The wrapper of a line: the program under which each of its commands is started (GCC manual, "Overall Options", -wrapper). The front has
-- an item for each word of it, of which the first is the program; a line without such items has no wrapper.
-- For clauses of src/wrapping.rt.

-- how a word of the wrapper begins among the switches
abbrev pub wrapper_mark : List ℕ
wrapper_mark = codes "--gdrv-wrapper="

-- the program of a line's wrapper: the first such word; no text where there is none
abbrev pub wrapper_of : List Item → List ℕ
wrapper_of [] = []
wrapper_of (i ∷ items) = if starts_with nat_eq i.option wrapper_mark then drop (length wrapper_mark) i.option else wrapper_of items
