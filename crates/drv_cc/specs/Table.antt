use Rattle.drv_options.specs.declared.lists.TheConstants.{CLASSES, IGNORED}
use Rattle.drv_options.specs.declared.rows.TheConstants as rows
use Rattle.drv_options.specs.declared.option.Spelling.{Spelling}
use Rattle.drv_options.specs.declared.option.Role.{Role}
use Rattle.drv_options.specs.declared.option.Takes.{Takes}
use Rattle.drv_words.specs.Bytes.{space}
use Rattle.std.specs.List.{flat_map, slice_split}
use Rattle.std.specs.Prelude.{◌==◌, List, [], ◌∷◌, codes, map, ℕ}

-- The option table (GCC manual, "Option Summary"; "GCC Internals", "Option Files": which forms an option has and which other it is an alias
-- of). Its rows are those of drv_options (src/rows.rt), part by part. The first row that fits a word decides.
-- The values of Takes, Spelling and Role are explained there, in src/option.rt: Attached takes the word's rest, which isn't empty, and Rest
-- one that may be; Either takes the next word where the rest is empty. Newer takes none, and newer compilers alone call the option by its
-- name.
-- Each value of -std= ("C Dialect Options") and of -fdiagnostics-color= is an option of its own.
-- For clauses of src/classes.rt, src/reading.rt, src/renaming.rt and src/checks.rt. drv_compile cites it too.

-- an option, how it takes its argument, the name that it is called by, how that is spelled, and what it is on the line
pub record OptionRow : Type 0 where
  pub option : List ℕ
  pub takes : Takes
  pub name : List ℕ
  pub spelling : Spelling
  pub role : Role

-- in a text of names each blank is between two
abbrev pub texts : List ℕ → List (List ℕ)
texts text = slice_split (λ b. b == space) text

-- a name, or the option itself where it is called by no other name
abbrev pub or_itself : List ℕ → List ℕ → List ℕ
or_itself [] option = option
or_itself (b ∷ name) option = b ∷ name

-- a row by its five parts
abbrev pub row_by : List ℕ → Takes → List ℕ → Spelling → Role → OptionRow
row_by option takes name spelling role =
    record { option = option; takes = takes; name = or_itself name option; spelling = spelling; role = role }

-- the rows of long names, to those of --i
unfoldable pub long_names : List OptionRow
long_names = map (λ row. row_by row.0.now row.1 row.2.now row.3 row.4) rows.LONG_NAMES

-- those of the other long names
unfoldable pub later_long_names : List OptionRow
later_long_names = map (λ row. row_by row.0.now row.1 row.2.now row.3 row.4) rows.LATER_LONG_NAMES

-- those of -W
unfoldable pub warnings : List OptionRow
warnings = map (λ row. row_by row.0.now row.1 row.2.now row.3 row.4) rows.WARNINGS

-- those of -f
unfoldable pub features : List OptionRow
features = map (λ row. row_by row.0.now row.1 row.2.now row.3 row.4) rows.FEATURES

-- those of -g and -m
unfoldable pub machines : List OptionRow
machines = map (λ row. row_by row.0.now row.1 row.2.now row.3 row.4) rows.MACHINES

-- those of the other capital letters
unfoldable pub capitals : List OptionRow
capitals = map (λ row. row_by row.0.now row.1 row.2.now row.3 row.4) rows.CAPITALS

-- those of the other small letters, to -o
unfoldable pub letters : List OptionRow
letters = map (λ row. row_by row.0.now row.1 row.2.now row.3 row.4) rows.LETTERS

-- those of the letters after them
unfoldable pub later_letters : List OptionRow
later_letters = map (λ row. row_by row.0.now row.1 row.2.now row.3 row.4) rows.LATER_LETTERS

-- all rows, in the order in which a word tries them
abbrev pub table : List OptionRow
table = flat_map (λ part. part)
    (long_names ∷ later_long_names ∷ warnings ∷ features ∷ machines ∷ capitals ∷ letters ∷ later_letters ∷ [])

-- the options that other long names mean: their beginnings, and those of the options (GCC, "opts-common.cc", the map of options)
abbrev pub renames : List (List ℕ × List ℕ)
renames =
    (codes "--debug=", codes "-g") ∷ (codes "--machine-", codes "-m") ∷ (codes "--machine=", codes "-m") ∷ (codes "--optimize=", codes "-O")
    ∷ (codes "--std=", codes "-std=") ∷ (codes "--warn-", codes "-W") ∷ (codes "--", codes "-f") ∷ []

-- options that gcc 12 takes and does nothing for, in both signs (drv_options, src/lists.rt)
unfoldable pub ignored : List (List ℕ)
ignored = map (λ name. name.now) IGNORED

-- options with their classes, where it is not that of an option and its opposite (drv_options, src/lists.rt)
unfoldable pub classes : List (List ℕ × List ℕ)
classes = map (λ row. (row.0.now, row.1.now)) CLASSES
