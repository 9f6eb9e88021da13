use Rattle.drv_cc.specs.Code.Parts.{are_of, last_byte, part_of, second}
use Rattle.drv_cc.specs.Items.{begins, first_row, fits, option_fits, same}
use Rattle.drv_cc.specs.Table.{OptionRow, capitals, features, later_letters, later_long_names, letters, long_names, machines, warnings}
use Rattle.drv_options.specs.declared.option.Takes.TheVariants.{Attached, Either, Newer, Next, Nothing, Rest}
use Rattle.drv_options.specs.declared.option.Takes.{Takes}
use Rattle.std.proofs.Common.{arith, ◌≡◌, ◌==◌, ◌&&◌, ◌∙◌, ◌++◌, ◌<◌, ◌-◌, ◌⊎◌, Bool, List, [], ◌∷◌, None, Option, Some, ap}
use Rattle.std.proofs.Common.{false, find, get_or, inl, inr, length, not, refl, sym, take, true, ℕ}
use Rattle.std.proofs.lemmas.Bool.{eq-eqb, eqb-true}
use Rattle.std.proofs.lemmas.List.Folds.{find-append}
use Rattle.std.proofs.lemmas.List.{get_or-take}
use Rattle.std.specs.List.{filter, flat_map, list_all}
use Rattle.std.specs.Option.{option_or}
use Rattle.std.specs.Prelude.{if◌then◌else◌, nat_lt}

-- For the look-up of options (src/table.rt): the first row of the table that fits a word is in the part that has the word's second byte.
-- Names: `word` is a word of the line. `option` is the text of a row. `takes` is how its option takes an argument. `rows` is some rows of
-- the table, and `later` those after them. `part` is the number of a part, and `some` is some parts. `p` is a test of rows, or a part. `a`
-- and `b` are bytes where a word is cut into bytes. `x`, `y` and `t` are values of tests, so that `by` can go by both. `found` is what the
-- code found. `fits` says that a row fits a word, `option_fits` the same of an option by how it takes its argument. `begins option word`
-- says that the word begins with the option. `first_row` is the row that decides a word. `part_of` is the part of a second byte, and
-- `are_of` says that rows are of a part (specs/Code/Parts).

-- Two texts that `same` finds equal are one, so what holds of an option holds of the word.
pub same_is : (a b : List ℕ) → same a b ≡ true → a ≡ b
same_is [] [] e = refl
same_is [] (y ∷ b) e = absurd cc
same_is (x ∷ a) [] e = absurd cc
same_is (x ∷ a) (y ∷ b) e = by (x == y) refl (same_is a b) e
  where
    -- Plan: `by` goes by both answers of `x == y`.
    by : (t : Bool) → (x == y) ≡ t → (same a b ≡ true → a ≡ b) → (t && same a b) ≡ true → x ∷ a ≡ y ∷ b
    by true ex rest e = ap (λ z. z ∷ a) (eqb-true x y ex) ∙ ap (λ l. y ∷ l) (rest e)
    by false ex rest e = absurd cc

-- Of the three tests of a beginning of two bytes and more, the second one is that of the second byte.
second_true : (a b c : Bool) → (a && (b && c)) ≡ true → b ≡ true
second_true true true c e = refl
second_true true false c e = e
second_true false b c e = absurd cc

-- A word of one byte begins with no option of two.
never : (a : Bool) → (a && false) ≡ true → ⊥
never true e = absurd cc
never false e = absurd cc

-- An option of two bytes and more with which a word begins has its second byte.
begins_alike : (option word : List ℕ) → nat_lt 1 (length option) ≡ true → begins option word ≡ true → second option ≡ second word
begins_alike [] word two e = absurd cc
begins_alike (a ∷ []) word two e = absurd cc
begins_alike (a ∷ b ∷ option) [] two e = absurd cc
begins_alike (a ∷ b ∷ option) (x ∷ []) two e = absurd (never (a == x) e)
begins_alike (a ∷ b ∷ option) (x ∷ y ∷ word) two e = eqb-true b y (second_true (a == x) (b == y) (begins option word) e)

-- So has one that fits a word.
fits_alike : (takes : Takes) (option word : List ℕ) → nat_lt 1 (length option) ≡ true → option_fits takes word option ≡ true
    → second option ≡ second word
fits_alike Nothing option word two e = ap second (same_is option word e)
fits_alike Newer option word two e = ap second (same_is option word e)
fits_alike Next option word two e = ap second (same_is option word e)
fits_alike Attached option word two e = begins_alike option word two e
fits_alike Rest option word two e = begins_alike option word two e
fits_alike Either option word two e = begins_alike option word two e

-- Two tests that hold together hold each.
both : (s t : Bool) → (s && t) ≡ true → (s ≡ true) × (t ≡ true)
both true t e = (refl, e)
both false t e = absurd cc

-- A word of another part fits no row of this one.
none_fits : (part : ℕ) (word : List ℕ) (rows : List OptionRow) → are_of part rows ≡ true → (part_of (second word) == part) ≡ false
    → find (fits word) rows ≡ None
none_fits part word [] of other = refl
none_fits part word (r ∷ rows) of other = by (fits word r) refl (none_fits part word rows here.1 other)
  where
    here : ((nat_lt 1 (length r.option) && part_of (second r.option) == part) ≡ true) × (are_of part rows ≡ true)
    here = both (nat_lt 1 (length r.option) && part_of (second r.option) == part) (are_of part rows) of

    -- Plan: `by` goes by both answers of `fits word r`.
    by : (t : Bool) → fits word r ≡ t → find (fits word) rows ≡ None → find (fits word) (r ∷ rows) ≡ None
    by false e rest = rw e rest
    by true e rest =
        let own = both (nat_lt 1 (length r.option)) (part_of (second r.option) == part) here.0 in
        absurd (let clash : true ≡ false = sym own.1
        ∙ ap (λ b. part_of b == part) (fits_alike r.takes r.option word own.0 e) ∙ other in cc)

-- the parts of the table by their numbers: two have the long names
abbrev parts : List (ℕ × List OptionRow)
parts =
    (0, long_names) ∷ (0, later_long_names) ∷ (1, warnings) ∷ (2, features) ∷ (3, machines) ∷ (4, capitals) ∷ (5, letters)
    ∷ (6, later_letters) ∷ []

-- all rows of some parts
abbrev rows_of : List (ℕ × List OptionRow) → List OptionRow
rows_of some = flat_map (λ p. p.1) some

-- Each part has the rows of its second bytes. The table is computed to see it.
each_of : list_all (λ p. are_of p.0 p.1) parts ≡ true
unfolding capitals features later_letters later_long_names letters long_names machines warnings
each_of = refl

-- So the parts of the word's second byte have the row that decides it.
in_part : (word : List ℕ) (some : List (ℕ × List OptionRow)) → list_all (λ p. are_of p.0 p.1) some ≡ true
    → find (fits word) (rows_of (filter (λ p. part_of (second word) == p.0) some)) ≡ find (fits word) (rows_of some)
in_part word [] of = refl
in_part word (p ∷ some) of = by (part_of (second word) == p.0) refl (in_part word some here.1)
  where
    here : (are_of p.0 p.1 ≡ true) × (list_all (λ q. are_of q.0 q.1) some ≡ true)
    here = both (are_of p.0 p.1) (list_all (λ q. are_of q.0 q.1) some) of

    chosen : List (ℕ × List OptionRow)
    chosen = filter (λ q. part_of (second word) == q.0) some

    -- Plan: `by` goes by both answers of `part_of (second word) == p.0`.
    by : (t : Bool) → (part_of (second word) == p.0) ≡ t → find (fits word) (rows_of chosen) ≡ find (fits word) (rows_of some)
        → find (fits word) (rows_of (filter (λ q. part_of (second word) == q.0) (p ∷ some))) ≡ find (fits word) (rows_of (p ∷ some))
    by true e rest = rw e (find-append (fits word) p.1 (rows_of chosen) ∙ ap (option_or (find (fits word) p.1)) rest
        ∙ sym (find-append (fits word) p.1 (rows_of some)))
    by false e rest = rw e (rest ∙ sym (find-append (fits word) p.1 (rows_of some)
        ∙ ap (λ r. option_or r (find (fits word) (rows_of some))) (none_fits p.0 word p.1 here.0 e)))

-- For `first_row` (src/table.rt), by the part of the word's second byte.
pub among : (word : List ℕ) (part : ℕ) (rows : List OptionRow) → part_of (second word) ≡ part
    → rows_of (filter (λ p. part == p.0) parts) ≡ rows → find (fits word) rows ≡ first_row word
among word part rows is at =
    ap (find (fits word)) (sym at) ∙ ap (λ k. find (fits word) (rows_of (filter (λ p. k == p.0) parts))) (sym is)
    ∙ in_part word parts each_of

-- The part of -g and of -m is one.
pub machine_part : (b : ℕ) → (b ≡ 103) ⊎ (b ≡ 109) → part_of b ≡ 3
machine_part b (inl is) = ap part_of is
machine_part b (inr is) = ap part_of is

-- The part of a letter that none of the first has.
pub later_part : (b : ℕ) (capital letter : Bool) → (b == 45) ≡ false → (b == 87) ≡ false → (b == 102) ≡ false → (b == 103) ≡ false
    → (b == 109) ≡ false → nat_lt b 91 ≡ capital → nat_lt b 112 ≡ letter → part_of b ≡ (if capital then 4 else if letter then 5 else 6)
later_part b capital letter long warns feature debug machine here there = rw (long, warns, feature, debug, machine, here, there) refl

-- For `long_name` (src/table.rt), where the first of two parts has a row that fits.
pub found_early : (p : OptionRow → Bool) (rows later : List OptionRow) (row : OptionRow) → Some row ≡ find p rows
    → Some row ≡ find p (rows ++ later)
found_early p rows later row found = sym (find-append p rows later ∙ ap (λ r. option_or r (find p later)) (sym found))

-- For `long_name`, where it has none.
pub found_later : (p : OptionRow → Bool) (rows later : List OptionRow) (found : Option OptionRow) → None ≡ find p rows
    → found ≡ find p later → found ≡ find p (rows ++ later)
found_later p rows later found none is = is ∙ sym (find-append p rows later ∙ ap (λ r. option_or r (find p later)) (sym none))

-- A test joined with one that fails fails, whatever the first gives.
and_false : (t : Bool) → (t && false) ≡ false
and_false true = refl
and_false false = refl

-- an option that is longer than a word doesn't fit it
longer_begins : (option word : List ℕ) → length word < length option → begins option word ≡ false
longer_begins [] word less = absurd (omega (arith, less))
longer_begins (a ∷ option) [] less = refl
longer_begins (a ∷ option) (x ∷ word) less = ap (λ t. (a == x) && t) (longer_begins option word (omega (arith, less))) ∙ and_false (a == x)

-- Nor is an option equal to a word that is shorter.
longer_same : (option word : List ℕ) → length word < length option → same option word ≡ false
longer_same [] word less = absurd (omega (arith, less))
longer_same (a ∷ option) [] less = refl
longer_same (a ∷ option) (x ∷ word) less = ap (λ t. (a == x) && t) (longer_same option word (omega (arith, less))) ∙ and_false (a == x)

-- For `Takes::fits` (src/table.rt), which compares lengths before bytes.
pub longer_fits : (takes : Takes) (word option : List ℕ) → length word < length option → option_fits takes word option ≡ false
longer_fits Nothing word option less = longer_same option word less
longer_fits Newer word option less = longer_same option word less
longer_fits Next word option less = longer_same option word less
longer_fits Attached word option less = longer_begins option word less
longer_fits Rest word option less = longer_begins option word less
longer_fits Either word option less = longer_begins option word less

-- a byte of an option is at its place in a word that begins with it
own_place : (option word : List ℕ) (i : ℕ) → i < length option → begins option word ≡ true → get_or word i 0 ≡ get_or option i 0
own_place option word i less e =
    sym (get_or-take (length option) word i 0 less) ∙ ap (λ l. get_or l i 0) (sym (same_is option (take (length option) word) e))

-- For `differs` (src/table.rt): a word with another byte where an option ends does not begin with it.
pub end_differs : (option word : List ℕ) (own other : ℕ) (differs : Bool) → own ≡ last_byte option
    → other ≡ get_or word (length option - 1) 0 → (length option == 0) ≡ false
    → differs ≡ not (own == other) → differs ≡ true → begins option word ≡ false
end_differs [] word own other differs is are some so here = absurd cc
end_differs (a ∷ option) word own other differs is are some so here = by (begins (a ∷ option) word) refl
  where
    -- Plan: `by` goes by both answers of `begins (a ∷ option) word`.
    by : (t : Bool) → begins (a ∷ option) word ≡ t → t ≡ false
    by false e = refl
    by true e =
        let at : get_or word (length (a ∷ option) - 1) 0 ≡ last_byte (a ∷ option) =
        own_place (a ∷ option) word (length (a ∷ option) - 1) (omega arith) e in
        let same : (own == other) ≡ true = eq-eqb own other (is ∙ sym at ∙ sym are) in
        absurd (let clash : true ≡ false = sym here ∙ so ∙ ap not same in cc)
