use Rattle.drv_specs.specs.Builtin.{builtin_pairs, has_no_text}
use Rattle.drv_specs.specs.Sets.{Set, put, with_pair_text}
use Rattle.drv_specs.specs.declared.builtin_specs.Row.{Row}
use Rattle.drv_specs.specs.declared.fault.SpecsFault.{SpecsFault}
use Rattle.std.specs.Prelude.{Err, List, [], ◌∷◌, Ok, Result, filter, not, ℕ}

-- Rows of tables put into a set one after another, for the code alone.
-- Names: `row` is a row of a table of the code: a name or a key, and a text. `set` is a set.

-- a row of a table: a name or a key, and a text
abbrev pub row_shown : Row → List ℕ × List ℕ
row_shown row = (row.name.now, row.text.now)

-- what comes after a change that was not refused
abbrev pub then_set : Result Set SpecsFault → (Set → Result Set SpecsFault) → Result Set SpecsFault
then_set (Ok set) next = next set
then_set (Err fault) next = Err fault

-- texts put into a set in order, up to the first refusal
abbrev pub all_put : Set → List (List ℕ × List ℕ) → Result Set SpecsFault
all_put set [] = Ok set
all_put set (row ∷ rows) = then_set (put set row.0 row.1) (λ next. all_put next rows)

-- pairs added to a set in order, up to the first refusal
abbrev pub all_added : Set → List (List ℕ × List ℕ) → Result Set SpecsFault
all_added set [] = Ok set
all_added set (row ∷ rows) = then_set (with_pair_text set row.0 row.1) (λ next. all_added next rows)

-- the built-in pairs that have a text to run
abbrev pub languages : List (List ℕ × List ℕ)
languages = filter (λ pair. not (has_no_text pair)) builtin_pairs
