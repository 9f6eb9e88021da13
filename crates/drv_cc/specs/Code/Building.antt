use Rattle.drv_cc.specs.Items as items
use Rattle.drv_cc.specs.Items.{Start, items_of, same}
use Rattle.drv_cc.specs.Table.{OptionRow}
use Rattle.drv_cc.specs.declared.item.Item.{Item}
use Rattle.drv_cc.specs.declared.reading.Start.TheVariants as code
use Rattle.drv_cc.specs.declared.reading.Start.{Start as CodeStart}
use Rattle.drv_cc.specs.declared.renaming.Rename.{Rename}
use Rattle.drv_cc.specs.SideFiles.{assembled, compiled, preprocessed, worked}
use Rattle.drv_cc.specs.declared.sources.Count.TheVariants as count
use Rattle.drv_cc.specs.declared.sources.Count.{Count}
use Rattle.drv_cc.specs.declared.sources.Kinds.TheVariants as kinds
use Rattle.drv_cc.specs.declared.sources.Kinds.{Kinds}
use Rattle.drv_cc.specs.declared.table.Row.{Row}
use Rattle.std.specs.Option.{option_map}
use Rattle.std.specs.Prelude.{◌≡◌, Bool, List, [], ◌∷◌, ◌++◌, None, Option, Some, codes, false, if◌then◌else◌, true, ℕ}

-- The code's values without their references, and how the code goes over a line. Only private clauses of src/sources.rt, src/reading.rt and
-- others cite them.
-- Names: `r` is a row of the code's table. `known` is the names beyond the table. `wanting` is a row that waits for its argument before a
-- word, and `next` after it. `old` and `new` are the items before the word and after it. `so_far` is what was counted. `name` and `other`
-- are names.

-- a row of the code, as the definitions have it
abbrev pub shown : Row → OptionRow
shown r = record { option = r.option.now; takes = r.takes; name = r.name.now; spelling = r.spelling; role = r.role }

-- a row that was found or not, as the definitions have it
abbrev pub row_shown : Option Row → Option OptionRow
row_shown found = option_map shown found

-- how a word begins, as the definitions have it
abbrev pub start_shown : CodeStart → Start
start_shown (code.Whole i) = items.Whole i
start_shown (code.Wants r) = items.Wants (shown r)

-- the two beginnings of a long name's other name
abbrev pub pair_shown : Rename → List ℕ × List ℕ
pair_shown r = (r.from.now, r.to.now)

-- the code has noted a word: the items so far and those of the rest of the line are what they would have been with that word before it
abbrev pub Notes : List ℕ → List Item → List Item → Option OptionRow → List ℕ → Option Row → Type 0
Notes known old new wanting word next = (rest : List (List ℕ))
    → new ++ items_of known (row_shown next) rest ≡ old ++ items_of known wanting (word ∷ rest)

-- the suffixes and languages that a value of Kinds means
abbrev pub kinds_shown : Kinds → List ℕ × List ℕ
kinds_shown kinds.Compiled = compiled
kinds_shown kinds.Assembled = assembled
kinds_shown kinds.Preprocessed = preprocessed
kinds_shown kinds.Worked = worked

-- what there is of something: none, one alone, or more
pub data Counted : Type 0 where
  Zero : Counted
  Single : List ℕ → Counted
  Many : Counted

-- what the code counted, as the definitions have it
abbrev pub count_shown : Count → Counted
count_shown count.Nothing = Zero
count_shown (count.One name) = Single name.now
count_shown count.Several = Many

-- one more name: a second one makes many, whatever its name
abbrev pub counted : Counted → List ℕ → Counted
counted Zero name = Single name
counted (Single other) name = Many
counted Many name = Many

-- the count after all of these names
abbrev pub all_counted : Counted → List (List ℕ) → Counted
all_counted so_far [] = so_far
all_counted so_far (name ∷ names) = all_counted (counted so_far name) names

-- the count of a list: it says all that the words need to know of the sources
abbrev pub count_of : List (List ℕ) → Counted
count_of names = all_counted Zero names

-- whether any was counted
abbrev pub is_counted : Counted → Bool
is_counted Zero = false
is_counted (Single name) = true
is_counted Many = true

-- whether several were counted
abbrev pub is_many : Counted → Bool
is_many Zero = false
is_many (Single name) = false
is_many Many = true

-- the only name that was counted, if there is one alone
abbrev pub counted_only : Counted → Option (List ℕ)
counted_only Zero = None
counted_only (Single name) = Some name
counted_only Many = None

-- one more name, where a name that is there already doesn't count again
abbrev pub noted : Counted → List ℕ → Counted
noted Zero name = Single name
noted (Single other) name = if same other name then Single other else Many
noted Many name = Many

-- how many different names there are, after all of these
abbrev pub all_noted : Counted → List (List ℕ) → Counted
all_noted so_far [] = so_far
all_noted so_far (name ∷ names) = all_noted (noted so_far name) names

-- the words for the suffixes of several sources, by how many different ones there are
abbrev pub suffixes_words : Counted → List (List ℕ)
suffixes_words Zero = []
suffixes_words (Single end) = (codes "--gdrv-suffix=" ++ end) ∷ []
suffixes_words Many = codes "--gdrv-suffixes" ∷ []
