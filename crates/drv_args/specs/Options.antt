use Rattle.drv_args.specs.declared.option_table.Effect.{Effect}
use Rattle.drv_args.specs.declared.option_table.Form.TheVariants.{Either, Exact, Joined, Separate}
use Rattle.drv_args.specs.declared.option_table.Form.{Form}
use Rattle.drv_args.specs.declared.rows.TheConstants.{CAPITALS, PASSING, SMALL_LETTERS}
use Rattle.std.specs.Cmp.Lexicographic.{pointwise}
use Rattle.std.specs.List.{starts_with}
use Rattle.std.specs.Prelude.{◌++◌, Bool, List, Option, find, map, nat_eq, ℕ}

-- The option table (GCC manual, "Overall Options", "Directory Options", "Preprocessor Options", "Link Options"; the forms of an option are
-- this project's profile). Its rows are those of src/rows.rt. The first row that fits a word decides.

-- a row of the table: an option, its form, and its effect on the line
pub record OptionRow : Type 0 where
  pub option : List ℕ
  pub form : Form
  pub effect : Effect

-- the same, as the table writes it
abbrev pub row : List ℕ → Form → Effect → OptionRow
row option form effect = record { option = option; form = form; effect = effect }

-- all rows, in the order in which a word tries them
unfoldable pub option_table : List OptionRow
option_table = map (λ r. row r.0.now r.1 r.2) (PASSING ++ CAPITALS ++ SMALL_LETTERS)

-- whether a row fits a word
abbrev pub form_fits : Form → List ℕ → List ℕ → Bool
form_fits Exact option word = pointwise nat_eq option word
form_fits Separate option word = pointwise nat_eq option word
form_fits Joined option word = starts_with nat_eq word option
form_fits Either option word = starts_with nat_eq word option

-- whether the option of a row fits a word
abbrev pub row_fits : List ℕ → OptionRow → Bool
row_fits word r = form_fits r.form r.option word

-- the row that decides about a word
abbrev pub first_row : List ℕ → Option OptionRow
first_row word = find (row_fits word) option_table
