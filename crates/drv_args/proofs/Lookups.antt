use Rattle.drv_args.specs.Fronts.{by_row, start_of}
use Rattle.drv_args.specs.Code.Lookup.{is_in, may_be_in, part_of}
use Rattle.drv_args.specs.Options.{OptionRow, form_fits, option_table, row_fits}
use Rattle.drv_args.specs.declared.option_table.Form.TheVariants.{Either, Exact, Joined, Separate}
use Rattle.drv_args.specs.declared.option_table.Form.{Form}
use Rattle.drv_words.specs.Bytes.{hyphen}
use Rattle.std.proofs.Common.{◌≡◌, ◌==◌, ◌&&◌, ◌≤◌, Bool, List, [], ◌∷◌, Option, ap, arith, cond, false, find, get_or, length, refl}
use Rattle.std.proofs.Common.{subst, sym, take, true, ◌∙◌, ℕ}
use Rattle.std.proofs.lemmas.Bool.{eq-eqb, eqb-true}
use Rattle.std.specs.Cmp.Lexicographic.{pointwise}
use Rattle.std.specs.List.{filter}
use Rattle.std.specs.Prelude.{nat_eq}

-- For the look-up of options: the first row that fits a word is in the part of the table for its second byte.
-- Names: `option` is the option of a row of the table. `letter` is the byte after the hyphen. `rows` is rows of the table. `option_table`
-- is the table of the options. `part_of letter` is the number of its part, and `is_in part row` says whether the row can be in it.
-- `row_fits word row` says whether the option of the row fits the word. `start_of` says how a word begins a front.

-- the second of three tests that hold together
second_true : (a b c : Bool) → (a && (b && c)) ≡ true → b ≡ true
second_true true true c e = refl
second_true true false c e = e
second_true false b c e = absurd cc

-- a second byte that is the letter is of its part
same_part : (letter b : ℕ) → (b == letter) ≡ true → (part_of b == part_of letter) ≡ true
same_part letter b e = eq-eqb _ _ (ap part_of (eqb-true b letter e))

-- an option that is a word is in the part of the word's letter
same_begins : (letter : ℕ) (option rest : List ℕ) → pointwise nat_eq option (hyphen ∷ letter ∷ rest) ≡ true
    → may_be_in (part_of letter) option ≡ true
same_begins letter [] rest e = refl
same_begins letter (a ∷ []) rest e = refl
same_begins letter (a ∷ b ∷ option) rest e =
    same_part letter b (second_true (a == hyphen) (b == letter) (pointwise nat_eq option rest) e)

-- so is one that a word begins with
prefix_begins : (letter : ℕ) (option rest : List ℕ) → pointwise nat_eq option (take (length option) (hyphen ∷ letter ∷ rest)) ≡ true
    → may_be_in (part_of letter) option ≡ true
prefix_begins letter [] rest e = refl
prefix_begins letter (a ∷ []) rest e = refl
prefix_begins letter (a ∷ b ∷ option) rest e =
    same_part letter b (second_true (a == hyphen) (b == letter) (pointwise nat_eq option (take (length option) rest)) e)

-- in each form an option that fits is
fits_begins : (form : Form) (letter : ℕ) (option rest : List ℕ) → form_fits form option (hyphen ∷ letter ∷ rest) ≡ true
    → may_be_in (part_of letter) option ≡ true
fits_begins Exact letter option rest e = same_begins letter option rest e
fits_begins Separate letter option rest e = same_begins letter option rest e
fits_begins Joined letter option rest e = prefix_begins letter option rest e
fits_begins Either letter option rest e = prefix_begins letter option rest e

-- if one test implies another, the first item that passes it can be found among those that pass the other
find_among : (p q : OptionRow → Bool) → ((r : OptionRow) → p r ≡ true → q r ≡ true) → (rows : List OptionRow)
    → find p (filter q rows) ≡ find p rows
find_among p q passes [] = refl
find_among p q passes (r ∷ rows) = by (p r) (q r) refl refl (find_among p q passes rows)
  where
    by : (a b : Bool) → p r ≡ a → q r ≡ b → find p (filter q rows) ≡ find p rows → find p (filter q (r ∷ rows)) ≡ find p (r ∷ rows)
    by a true ep eq ih = rw eq (ap (cond (p r) _) ih)
    by true false ep eq ih = absurd (let both : true ≡ false = sym (passes r ep) ∙ eq in cc)
    by false false ep eq ih = rw (eq, ep) ih

-- how a word begins a front, by the row that was found in the part of its letter
at_dash : (letter : ℕ) (rest : List ℕ) (rows : List OptionRow) (found : Option OptionRow)
    → rows ≡ filter (is_in (part_of letter)) option_table → found ≡ find (row_fits (hyphen ∷ letter ∷ rest)) rows
    → by_row found (hyphen ∷ letter ∷ rest) ≡ start_of (hyphen ∷ letter ∷ rest)
at_dash letter rest rows found are sought =
    ap (λ f. by_row f (hyphen ∷ letter ∷ rest)) (sought ∙ ap (find (row_fits (hyphen ∷ letter ∷ rest))) are
    ∙ find_among (row_fits (hyphen ∷ letter ∷ rest)) (is_in (part_of letter)) (λ r. fits_begins r.form letter r.option rest) option_table)

-- how a word begins a front, by the row that was found for it
pub looked_up : (word : List ℕ) (rows : List OptionRow) (found : Option OptionRow) → 2 ≤ length word → get_or word 0 0 ≡ hyphen
    → rows ≡ filter (is_in (part_of (get_or word 1 0))) option_table → found ≡ find (row_fits word) rows → by_row found word ≡ start_of word
looked_up [] rows found long first are sought = absurd (omega arith)
looked_up (a ∷ []) rows found long first are sought = absurd (omega arith)
looked_up (a ∷ b ∷ rest) rows found long first are sought =
    let P : ℕ → Type 0 = λ d. found ≡ find (row_fits (d ∷ b ∷ rest)) rows → by_row found (d ∷ b ∷ rest) ≡ start_of (d ∷ b ∷ rest) in
    subst P (sym first) (at_dash b rest rows found are) sought

-- the rows of one part are those of the table that can be in it
pub rows_of : (part letter : ℕ) (rows : List OptionRow) → part_of letter ≡ part → rows ≡ filter (is_in part) option_table
    → rows ≡ filter (is_in (part_of letter)) option_table
rows_of part letter rows is same = same ∙ ap (λ p. filter (is_in p) option_table) (sym is)
