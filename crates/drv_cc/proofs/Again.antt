use Rattle.drv_cc.proofs.LongNames.{no_rename}
use Rattle.drv_cc.specs.Code.Known.{again}
use Rattle.drv_cc.specs.Items.{Start, Wants, Whole, accepts, begins, beyond, by_row, first_row, head_of, is_file, is_known}
use Rattle.drv_cc.specs.Items.{is_longer, is_number, is_open, is_passed_over, item, items_of, judges, known_item, leaves, machine_item}
use Rattle.drv_cc.specs.Items.{meant_option, passed_item, plain, positive_form, renamed_by}
use Rattle.drv_cc.specs.Items.{start_of, start_option, start_renamed, takes_value, turns_off, value_of, with_rest, with_start}
use Rattle.drv_cc.specs.Table.{OptionRow, renames, table}
use Rattle.drv_cc.specs.Table.{capitals, features, later_letters, later_long_names, letters, long_names, machines, warnings}
use Rattle.drv_cc.specs.UnknownWords.{is_unknown}
use Rattle.drv_cc.specs.declared.item.Item.{Item}
use Rattle.drv_options.specs.declared.option.Role.TheVariants.{Question, Switch, Unknown}
use Rattle.drv_options.specs.declared.option.Spelling.TheVariants.{Alone}
use Rattle.drv_options.specs.declared.option.Takes.TheVariants.{Attached, Either, Newer, Next, Nothing, Rest}
use Rattle.drv_options.specs.declared.option.Takes.{Takes}
use Rattle.drv_words.specs.Bytes.{equals}
use Rattle.std.proofs.Common.{Err, IfOk, Ok, Result, ◌≡◌, ◌==◌, ◌&&◌, ◌||◌, ◌∙◌, ◌<◌, ◌++◌, Bool, List, [], ◌∷◌, None, Option, Some, ap}
use Rattle.std.proofs.Common.{arith, codes, cond, drop, false, find, if◌then◌else◌, length, map, nat_eq, nat_lt, not, refl, sym, true, ℕ}
use Rattle.std.proofs.lemmas.Bool.{eqb-true}
use Rattle.std.proofs.lemmas.Bool.Decides.{nat_tests}
use Rattle.std.proofs.lemmas.List.{append-nil, length-drop}
use Rattle.std.specs.Bool.{⊤}
use Rattle.std.specs.List.{list_any}

-- For `Items::with_names` (src/items.rt): reading a line again by names of options changes only the unknown words.
-- Names: `known` is the text of the names beyond the table, a line each; `[]` in its place is no names. `word` is a word of the line, and
-- `name` what it is read as, of which `b` is the first byte. `r` is a row of the option table. `i` is an item. `result` is what the code's
-- call gives. `t`, `u` and `v` are values of tests, so that `by` can go by both. `first_row` is the row that decides a word. `meant_option`
-- is the name that a word without a row is read as. `beyond` is the item of a word that no row fits. `again` is an item read once more by
-- names. `start_of` is how a word begins: an item, or a row that takes the next word. `is_known` says that a text has a name, `accepts`
-- that the compiler takes it, `judges` that gcc's driver judges its argument. `turns_off` is for a -Wno- that is left to the compiler.
-- `is_passed_over` is for what newer compilers ignore. `item name argument spelling role` makes an item. `again` is in specs/Code/Known,
-- the others in specs/Items.

-- No row of the option table is for an unknown word, so an option of the table is never asked again. The table is computed to see it.
no_row : list_any (λ r. is_unknown r.role) table ≡ false
unfolding capitals features later_letters later_long_names letters long_names machines warnings
no_row = refl

-- A row whose name newer compilers alone give has no name: none is so.
abbrev is_nameless : Takes → List ℕ → Bool
is_nameless Nothing name = false
is_nameless Newer name = not (nat_lt 0 (length name))
is_nameless Attached name = false
is_nameless Rest name = false
is_nameless Next name = false
is_nameless Either name = false

-- The table is computed to see it.
all_named : list_any (λ r. is_nameless r.takes r.name) table ≡ false
unfolding capitals features later_letters later_long_names letters long_names machines warnings
all_named = refl

-- Parts the test of a list into that of its first row and that of the others.
both_false : (a b : Bool) → (a || b) ≡ false → (a ≡ false) × (b ≡ false)
both_false true b e = absurd cc
both_false false b e = (refl, e)

-- what is found in a list passes the test, and is one that none of the list is
found_passes : {A : Type 0} (p q : A → Bool) (rows : List A) (r : A) → find p rows ≡ Some r → list_any q rows ≡ false
    → (p r ≡ true) × (q r ≡ false)
found_passes p q [] r e missed = absurd cc
found_passes p q (x ∷ rows) r e missed = by (p x) refl e (both_false (q x) (list_any q rows) missed)
    (λ found none. found_passes p q rows r found none)
  where
    -- Plan: `by` goes by both answers of `p x`.
    by : (t : Bool) → p x ≡ t → cond t (Some x) (find p rows) ≡ Some r → (q x ≡ false) × (list_any q rows ≡ false)
        → (find p rows ≡ Some r → list_any q rows ≡ false → (p r ≡ true) × (q r ≡ false)) → (p r ≡ true) × (q r ≡ false)
    by true is e missed ih = let same_one : x ≡ r = cc in (ap p (sym same_one) ∙ is, ap q (sym same_one) ∙ missed.0)
    by false is e missed ih = ih e missed.1

-- A row that `first_row` finds (specs/Items.antt) is none of an unknown word.
row_known : (word : List ℕ) (r : OptionRow) → first_row word ≡ Some r → is_unknown r.role ≡ false
row_known word r e = (found_passes _ (λ r. is_unknown r.role) table r e no_row).1

-- Nor does it lack the name that newer compilers alone give.
row_named : (word : List ℕ) (r : OptionRow) → first_row word ≡ Some r → is_nameless r.takes r.name ≡ false
row_named word r e = (found_passes _ (λ r. is_nameless r.takes r.name) table r e all_named).1

-- So an option of the table stays as it is when the line is asked again.
row_again : (known : List ℕ) (r : OptionRow) (argument : List ℕ) → is_unknown r.role ≡ false
    → again known (by_row r argument) ≡ by_row r argument
row_again known r argument e = rw e refl

-- How a word begins, once what is unknown of it is asked again by names.
abbrev start_again : List ℕ → Start → Start
start_again known (Whole i) = Whole (again known i)
start_again known (Wants r) = Wants r

-- A row that waits for its argument is none of an unknown word: its item comes later, and must stay too.
abbrev IsFit : Start → Type 0
IsFit (Whole i) = ⊤
IsFit (Wants r) = is_unknown r.role ≡ false

-- What a word begins with no names known, asked again, is what it begins with these names.
abbrev Begun : List ℕ → Start → Start → Type 0
Begun known before after = (start_again known before ≡ after) × IsFit before

-- what is not false is true
not_false : (t : Bool) → not t ≡ false → t ≡ true
not_false true e = refl
not_false false e = absurd cc

-- A word that a row of the table fits is read alike with and without names, in each way that an option takes its argument. One to which
-- newer compilers alone give its name is asked again.
rest_begun : (known : List ℕ) (takes : Takes) (r : OptionRow) (rest : List ℕ) → is_unknown r.role ≡ false → is_nameless takes r.name ≡ false
    → Begun known (with_rest [] takes r rest) (with_rest known takes r rest)
rest_begun known Nothing r rest e named = (ap Whole (row_again known r [] e), tt)
rest_begun known Newer r rest e named = (rw (not_false (nat_lt 0 (length r.name)) named) refl, tt)
rest_begun known Next r rest e named = (refl, e)
rest_begun known Attached r [] e named = (refl, tt)
rest_begun known Attached r (b ∷ rest) e named = (ap Whole (row_again known r (b ∷ rest) e), tt)
rest_begun known Rest r rest e named = (ap Whole (row_again known r rest e), tt)
rest_begun known Either r [] e named = (refl, e)
rest_begun known Either r (b ∷ rest) e named = (ap Whole (row_again known r (b ∷ rest) e), tt)

-- nothing is known by an empty text but the empty name
unknown_some : (name : List ℕ) → 0 < length name → is_known [] name ≡ false
unknown_some [] some = absurd (omega (arith, some))
unknown_some (b ∷ name) some = refl

-- An option's name up to its `=` is not empty, so `unknown_some` says that no name is known that begins with it.
some_head : (b : ℕ) (name more : List ℕ) → 0 < length (head_of (b ∷ name) ++ more)
some_head b name more = by (b == equals)
  where
    -- Plan: `by` goes by both answers of `b == equals`.
    by : (t : Bool) → 0 < length (cond t (b ∷ []) (b ∷ head_of name) ++ more)
    by true = omega arith
    by false = omega arith

-- Without names no option is known by its name up to `=` (`takes_value`, specs/Items.antt).
no_value : (b : ℕ) (name : List ℕ) → takes_value [] (b ∷ name) ≡ false
no_value b name =
    let head : is_known [] (head_of (b ∷ name)) ≡ false =
    ap (is_known []) (sym (append-nil (head_of (b ∷ name)))) ∙ unknown_some (head_of (b ∷ name) ++ []) (some_head b name []) in
    rw (head, by (is_number (value_of (b ∷ name))) head) refl
  where
    -- Plan: `by` goes by both answers of `is_number (value_of (b ∷ name))`.
    by : (t : Bool) → is_known [] (head_of (b ∷ name)) ≡ false
        → is_known [] (cond t (head_of (b ∷ name) ++ codes "#") (head_of (b ∷ name))) ≡ false
    by true head = unknown_some (head_of (b ∷ name) ++ codes "#") (some_head b name (codes "#"))
    by false head = head

-- Nor is an option known in any other way: the code asks no further where it has no names.
none_accepted : (b : ℕ) (name : List ℕ) → accepts [] (b ∷ name) ≡ false
none_accepted b name = by (is_open (b ∷ name))
  where
    -- Plan: `by` goes by both answers of `is_open (b ∷ name)`.
    by : (t : Bool) → cond t (takes_value [] (b ∷ name)) (takes_value [] (b ∷ name)) ≡ false
    by true = no_value b name
    by false = no_value b name

-- And the compiler's driver judges the argument of none.
none_judged : (b : ℕ) (name : List ℕ) → judges [] (b ∷ name) ≡ false
none_judged b name =
    rw (
      unknown_some (head_of (b ∷ name) ++ codes "?") (some_head b name (codes "?")),
      unknown_some (head_of (b ∷ name) ++ codes "#") (some_head b name (codes "#")),
    ) refl

-- For `accepts` (src/values.rt), which returns early where there are no names.
pub no_names_accept : (known name : List ℕ) → (length known == 0) ≡ true → (length name == 0) ≡ false → false ≡ accepts known name
no_names_accept known [] none some = absurd cc
no_names_accept (k ∷ known) (b ∷ name) none some = absurd (omega (arith, eqb-true (length (k ∷ known)) 0 none))
no_names_accept [] (b ∷ name) none some = sym (none_accepted b name)

-- For `judges` (src/values.rt), which returns early too.
pub no_names_judge : (known name : List ℕ) → (length known == 0) ≡ true → (length name == 0) ≡ false → false ≡ judges known name
no_names_judge known [] none some = absurd cc
no_names_judge (k ∷ known) (b ∷ name) none some = absurd (omega (arith, eqb-true (length (k ∷ known)) 0 none))
no_names_judge [] (b ∷ name) none some = sym (none_judged b name)

-- an option of warnings is none of machines
other_begins : (name : List ℕ) → begins (codes "-Wno-") name ≡ true → begins (codes "-mcpu=") name ≡ false
other_begins [] e = refl
other_begins (a ∷ []) e = by (45 == a)
  where
    -- Plan: `by` goes by both answers of `45 == a`.
    by : (t : Bool) → (t && false) ≡ false
    by true = refl
    by false = refl
other_begins (a ∷ b ∷ name) e = by (45 == a) (109 == b) (87 == b) refl refl e
  where
    -- Plan: `by` goes by the cases of `45 == a`, `109 == b` and `87 == b`.
    by : (t u v : Bool) → (109 == b) ≡ u → (87 == b) ≡ v → (t && (v && begins (codes "no-") name)) ≡ true
        → (t && (u && begins (codes "cpu=") name)) ≡ false
    by false u v m w e = refl
    by true false v m w e = refl
    by true u false m w e = absurd cc
    by true true true m w e = absurd (omega (arith, eqb-true 109 b m, eqb-true 87 b w))

-- what turns a warning off without names does so with any names, and is no long name
off_alone : (b e : Bool) → (b && (not e || false)) ≡ true → (b ≡ true) × (e ≡ false)
off_alone true false is = (refl, refl)
off_alone true true is = absurd cc
off_alone false e is = absurd cc

-- A word that turns a warning off begins with one hyphen, so it is no long name.
off_begins : (word : List ℕ) → begins (codes "-Wno-") word ≡ true → false ≡ begins (codes "--") word
off_begins [] e = absurd cc
off_begins (a ∷ []) e = by (45 == a)
  where
    -- Plan: `by` goes by both answers of `45 == a`.
    by : (t : Bool) → false ≡ (t && false)
    by true = refl
    by false = refl
off_begins (a ∷ b ∷ word) e = by (45 == a) (45 == b) (87 == b) refl refl e
  where
    -- Plan: `by` goes by the cases of `45 == a`, `45 == b` and `87 == b`.
    by : (t u v : Bool) → (45 == b) ≡ u → (87 == b) ≡ v → (t && (v && begins (codes "no-") word)) ≡ true → false ≡ (t && (u && true))
    by false u v m w e = refl
    by true false v m w e = refl
    by true u false m w e = absurd cc
    by true true true m w e = absurd (omega (arith, eqb-true 45 b m, eqb-true 87 b w))

-- So `meant_option` leaves it as it is (LongNames.antt has the look-up of long names).
off_named : (word : List ℕ) → begins (codes "-Wno-") word ≡ true → meant_option word ≡ word
off_named word e = ap (renamed_by word) (sym (no_rename word false (off_begins word e) refl))

-- A word that turns a warning off without names is a switch with any names, by its own name.
off_again : (known word : List ℕ) (b : ℕ) (name : List ℕ) → meant_option word ≡ b ∷ name → turns_off [] word ≡ true
    → (turns_off known word ≡ true) × (begins (codes "-mcpu=") (b ∷ name) ≡ false)
off_again known word b name is off =
    let (begun, alone) = off_alone (begins (codes "-Wno-") word) (list_any (nat_eq equals) word) off in
    (rw (begun, alone) refl, ap (begins (codes "-mcpu=")) (sym is ∙ off_named word begun) ∙ other_begins word begun)

-- what a word is that no row fits, by what is known of it
abbrev chosen : Bool → Bool → Bool → Item → Item → Item → Item
chosen off taken judged known question unknown = cond (off || taken) known (cond judged question unknown)

-- what a word is that no row fits, by whether it is passed over
abbrev passed_or : List ℕ → List ℕ → List ℕ → Bool → Item
passed_or known word name passed = cond passed (passed_item known word name)
    (chosen (turns_off known word) (accepts known name) (judges known name) (known_item known name)
    (plain Question word) (plain Unknown word))

-- Without names a word that no row fits, that is not passed over and turns no warning off, is unknown.
unknown_first : (word : List ℕ) (b : ℕ) (name : List ℕ) → is_passed_over (b ∷ name) ≡ false → turns_off [] word ≡ false
    → beyond [] word (b ∷ name) ≡ plain Unknown word
unknown_first word b name e off =
    ap (passed_or [] word (b ∷ name)) e
    ∙ ap (λ t. chosen t (accepts [] (b ∷ name)) (judges [] (b ∷ name)) (known_item [] (b ∷ name)) (plain Question word)
    (plain Unknown word)) off
    ∙ ap (λ t. chosen false t (judges [] (b ∷ name)) (known_item [] (b ∷ name)) (plain Question word) (plain Unknown word))
    (none_accepted b name)
    ∙ ap (λ t. chosen false false t (known_item [] (b ∷ name)) (plain Question word) (plain Unknown word)) (none_judged b name)

-- A word that turns a warning off, is not passed over and names no machine is a switch of its name.
off_item : (known word : List ℕ) (b : ℕ) (name : List ℕ) → is_passed_over (b ∷ name) ≡ false → turns_off known word ≡ true
    → begins (codes "-mcpu=") (b ∷ name) ≡ false → beyond known word (b ∷ name) ≡ item (b ∷ name) [] Alone Switch
off_item known word b name e off other =
    ap (passed_or known word (b ∷ name)) e
    ∙ ap (λ t. chosen t (accepts known (b ∷ name)) (judges known (b ∷ name)) (known_item known (b ∷ name)) (plain Question word)
    (plain Unknown word)) off
    ∙ ap (λ t. if t then machine_item known (drop (length (codes "-mcpu=")) (b ∷ name)) else item (b ∷ name) [] Alone Switch) other

-- a word that no row fits
beyond_again : (known word : List ℕ) (b : ℕ) (name : List ℕ) → meant_option word ≡ b ∷ name
    → again known (beyond [] word (b ∷ name)) ≡ beyond known word (b ∷ name)
beyond_again known word b name is = by (is_passed_over (b ∷ name)) (turns_off [] word) refl refl
  where
    -- Plan: `by` goes by the cases of `is_passed_over (b ∷ name)` and `turns_off [] word`.
    by : (t u : Bool) → is_passed_over (b ∷ name) ≡ t → turns_off [] word ≡ u
        → again known (beyond [] word (b ∷ name)) ≡ beyond known word (b ∷ name)
    by true u e e' = ap (again known) (ap (passed_or [] word (b ∷ name)) e) ∙ ap (beyond known word) is
    by false true e e' =
        let (off, other) = off_again known word b name is e' in
        ap (again known) (off_item [] word b name e e' other) ∙ sym (off_item known word b name e off other)
    by false false e e' = ap (again known) (unknown_first word b name e e') ∙ ap (beyond known word) is

-- A long name goes on after its beginning, so something of the word is left.
some_left : (n : ℕ) (word : List ℕ) → n < length word → (b : ℕ) × (rest : List ℕ) × (drop n word ≡ b ∷ rest)
some_left n word less = by (drop n word) refl
  where
    -- Plan: `by` goes by whether `drop n word` is empty; it isn't, since n is less than the length of the word.
    by : (left : List ℕ) → drop n word ≡ left → (b : ℕ) × (rest : List ℕ) × (drop n word ≡ b ∷ rest)
    by [] e = absurd (omega (arith, less, sym (length-drop n word) ∙ ap length e))
    by (b ∷ rest) e = (b, rest, e)

-- What begins an option, and that rest, is not empty together.
appended : (some more : List ℕ) → (b : ℕ) × (rest : List ℕ) × (more ≡ b ∷ rest) → (b : ℕ) × (rest : List ℕ) × (some ++ more ≡ b ∷ rest)
appended [] more (b, rest, e) = (b, rest, e)
appended (x ∷ some) more e = (x, some ++ more, refl)

-- Of two tests that both pass the second passes: `is_longer` asks first how a word begins, and then its length.
two_true : (a b : Bool) → (a && b) ≡ true → b ≡ true
two_true true b e = e
two_true false b e = absurd cc

-- the name of a word that is not empty is not empty
some_named : (b : ℕ) (word : List ℕ) → (c : ℕ) × (rest : List ℕ) × (meant_option (b ∷ word) ≡ c ∷ rest)
some_named b word = by (find (is_longer (b ∷ word)) renames) refl
  where
    -- Plan: `none` says that a test that always fails finds nothing; `by` goes by what `find (is_longer (b ∷ word)) renames` gives.
    none : (rows : List (List ℕ × List ℕ)) → list_any (λ r. false) rows ≡ false
    none [] = refl
    none (x ∷ rows) = none rows

    by : (found : Option (List ℕ × List ℕ)) → find (is_longer (b ∷ word)) renames ≡ found
        → (c : ℕ) × (rest : List ℕ) × (renamed_by (b ∷ word) found ≡ c ∷ rest)
    by None e = (b, word, refl)
    by (Some r) e =
        let longer : nat_lt (length r.0) (length (b ∷ word)) ≡ true =
        two_true (begins r.0 (b ∷ word)) _ (found_passes (is_longer (b ∷ word)) (λ r. false) renames r e (none renames)).0 in
        let less : length r.0 < length (b ∷ word) = grind (arith, nat_tests) in
        appended r.1 (drop (length r.0) (b ∷ word)) (some_left (length r.0) (b ∷ word) less)

-- The same as `begun` for a word that no row fits: its long name may have a row, and else names decide.
renamed_begun : (known word : List ℕ) (b : ℕ) (name : List ℕ) → meant_option word ≡ b ∷ name
    → Begun known (start_renamed [] word (b ∷ name) (first_row (b ∷ name))) (start_renamed known word (b ∷ name) (first_row (b ∷ name)))
renamed_begun known word b name is = by (first_row (b ∷ name)) refl
  where
    -- Plan: `by` goes by whether `first_row (b ∷ name)` finds one.
    by : (found : Option OptionRow) → first_row (b ∷ name) ≡ found
        → Begun known (start_renamed [] word (b ∷ name) found) (start_renamed known word (b ∷ name) found)
    by None e = (ap Whole (beyond_again known word b name is), tt)
    by (Some r) e = rest_begun known r.takes r (drop (length r.option) (b ∷ name)) (row_known (b ∷ name) r e) (row_named (b ∷ name) r e)

-- The same for a word that is an option.
option_begun : (known : List ℕ) (b : ℕ) (word : List ℕ)
    → Begun known (start_option [] (b ∷ word) (first_row (b ∷ word))) (start_option known (b ∷ word) (first_row (b ∷ word)))
option_begun known b word = by (first_row (b ∷ word)) refl
  where
    -- Plan: `by` goes by whether `first_row (b ∷ word)` finds one.
    by : (found : Option OptionRow) → first_row (b ∷ word) ≡ found
        → Begun known (start_option [] (b ∷ word) found) (start_option known (b ∷ word) found)
    by None e =
        let (c, name, is) = some_named b word in
        rw is (renamed_begun known (b ∷ word) c name is)
    by (Some r) e = rest_begun known r.takes r (drop (length r.option) (b ∷ word)) (row_known (b ∷ word) r e) (row_named (b ∷ word) r e)

-- Each word begins as it would with names, once it is asked again. `items_again` goes on from here to the next word.
begun : (known word : List ℕ) → Begun known (start_of [] word) (start_of known word)
begun known [] = (refl, tt)
begun known (b ∷ word) = by (is_file (b ∷ word)) refl
  where
    -- Plan: `by` goes by both answers of `is_file (b ∷ word)`.
    by : (t : Bool) → is_file (b ∷ word) ≡ t → Begun known (start_of [] (b ∷ word)) (start_of known (b ∷ word))
    by true e = rw e (refl, tt)
    by false e = rw e (option_begun known b word)

-- An option that waits for its argument before the next word is none of an unknown word.
abbrev IsFitting : Option OptionRow → Type 0
IsFitting None = ⊤
IsFitting (Some r) = is_unknown r.role ≡ false

-- All items of a line, by induction on its words.
items_again : (known : List ℕ) (wanting : Option OptionRow) (words : List (List ℕ)) → IsFitting wanting
    → map (again known) (items_of [] wanting words) ≡ items_of known wanting words
items_again known None [] fit = refl
items_again known (Some r) [] fit = refl
items_again known (Some r) (word ∷ words) fit = rw (row_again known r word fit, items_again known None words tt) refl
items_again known None (word ∷ words) fit = by (start_of [] word) (start_of known word) (begun known word)
    (λ w h. items_again known w words h)
  where
    -- Plan: `by` goes by the cases of `start_of [] word` and `start_of known word`.
    by : (before after : Start) → Begun known before after
        → ((w : Option OptionRow) → IsFitting w → map (again known) (items_of [] w words) ≡ items_of known w words)
        → map (again known) (with_start before (λ wanting. items_of [] wanting words))
        ≡ with_start after (λ wanting. items_of known wanting words)
    by (Whole i) after (is, fit) ih = rw (sym is, ih None tt) refl
    by (Wants r) after (is, fit) ih = rw (sym is, ih (Some r) fit) refl

-- For `Items::with_names` (src/items.rt): its loop asks each item again, and so gives the line as names read it.
pub all_again : (known : List ℕ) (args : List (List ℕ)) (before after : List Item) → before ≡ items_of [] None args
    → after ≡ map (again known) before
    → after ≡ items_of known None args
all_again known args before after is are = are ∙ ap (map (again known)) is ∙ items_again known None args tt

-- For `by_own_name` (src/reading.rt), where the word is no long name.
pub unrenamed_named : {E : Type 0} (known word : List ℕ) (result : Result Item E) → meant_option word ≡ word
    → IfOk result (λ found. found ≡ beyond known word word) → IfOk result (λ found. found ≡ beyond known word (meant_option word))
unrenamed_named known word (Ok found) same is = is ∙ ap (beyond known word) (sym same)
unrenamed_named known word (Err e) same is = tt

-- For `by_own_name`, where the word is a long name.
pub renamed_named : {E : Type 0} (known word name : List ℕ) (result : Result Item E) → name ≡ meant_option word
    → IfOk result (λ found. found ≡ beyond known word name) → IfOk result (λ found. found ≡ beyond known word (meant_option word))
renamed_named known word name (Ok found) same is = is ∙ ap (beyond known word) same
renamed_named known word name (Err e) same is = tt

-- For `is_own_switch` (src/reading.rt): a word that is no long name, names no machine and is not passed over is a switch of its name, once
-- names have it.
pub own_switch : (known word : List ℕ) (machine passed off taken : Bool) → meant_option word ≡ word
    → machine ≡ begins (codes "-mcpu=") word → machine ≡ false → passed ≡ is_passed_over word → passed ≡ false
    → off ≡ turns_off known word → taken ≡ accepts known word → (off || taken) ≡ true
    → beyond known word (meant_option word) ≡ item word [] Alone Switch
own_switch known word machine passed off taken same machine_is other passed_is stays off_is taken_is either =
    let none : begins (codes "-mcpu=") word ≡ false = sym machine_is ∙ other in
    let found : (turns_off known word || accepts known word) ≡ true =
    ap (λ t. t || accepts known word) (sym off_is) ∙ ap (λ t. off || t) (sym taken_is) ∙ either in
    ap (beyond known word) same ∙ ap (passed_or known word word) (sym passed_is ∙ stays)
    ∙ by (turns_off known word || accepts known word) found ∙ ap
    (λ t. if t then machine_item known (drop (length (codes "-mcpu=")) word) else item word [] Alone Switch) none
  where
    -- Plan: `by` goes by both answers of `turns_off known word || accepts known word`.
    by : (t : Bool) → t ≡ true
        → (if t then known_item known word else if judges known word then plain Question word else plain Unknown word)
        ≡ known_item known word
    by true e = refl
    by false e = absurd cc

-- nothing of an empty argument is left
none_left : (argument : List ℕ) → (length argument == 0) ≡ true → nat_lt 0 (length argument) ≡ false
none_left [] e = refl
none_left (b ∷ argument) e = absurd (omega (arith, eqb-true (length (b ∷ argument)) 0 e))

-- For `ask_again` (src/items.rt), where the unknown word has no argument and is such a switch.
pub switched_again : {E : Type 0} (known : List ℕ) (i : Item) (word : List ℕ) (unknown own : Bool) (result : Result Item E)
    → unknown ≡ is_unknown i.role → unknown ≡ true → (length i.argument == 0) ≡ true → word ≡ i.name
    → (own ≡ true → beyond known word (meant_option word) ≡ item word [] Alone Switch) → own ≡ true
    → IfOk result (λ made. made ≡ item i.name [] Alone Switch) → IfOk result (λ found. found ≡ again known i)
switched_again known i word unknown own (Ok made) unknown_is here alone word_is switch so is =
    let named : beyond known i.name (meant_option i.name) ≡ item i.name [] Alone Switch =
    ap (λ w. beyond known w (meant_option w)) (sym word_is) ∙ switch so ∙ ap (λ w. item w [] Alone Switch) word_is in
    let asked : is_unknown i.role ≡ true = sym unknown_is ∙ here in
    is ∙ sym named ∙ sym (rw (asked, none_left i.argument alone) refl)
switched_again known i word unknown own (Err e) unknown_is here alone word_is switch so is = tt

-- For `beyond` (src/reading.rt), where no names are known: a word that turns no warning off is unknown.
pub none_named : {E : Type 0} (known word name : List ℕ) (off : Bool) (result : Result Item E) → (length known == 0) ≡ true
    → (length name == 0) ≡ false → off ≡ begins (codes "-Wno-") word → off ≡ false → IfOk result (λ made. made ≡ plain Unknown word)
    → IfOk result (λ found. found ≡ beyond known word name)
none_named known word name off (Err e) none some off_is not_off is = tt
none_named known word name off (Ok made) none some off_is not_off is = is ∙ sym (by (is_passed_over name) refl)
  where
    -- Plan: `by` goes by both answers of `is_passed_over name`.
    by : (t : Bool) → is_passed_over name ≡ t → beyond known word name ≡ plain Unknown word
    by true e = rw (e, none_left known none) refl
    by false e =
        ap (passed_or known word name) e
        ∙ ap (λ t. chosen (t && (not (list_any (nat_eq equals) word) || leaves known (positive_form word))) (accepts known name)
        (judges known name) (known_item known name) (plain Question word) (plain Unknown word)) (sym off_is ∙ not_off)
        ∙ ap (λ t. chosen false t (judges known name) (known_item known name) (plain Question word) (plain Unknown word))
        (sym (no_names_accept known name none some))
        ∙ ap (λ t. chosen false false t (known_item known name) (plain Question word) (plain Unknown word))
        (sym (no_names_judge known name none some))

-- For `accepts_near` (src/values.rt), where an option is known by its name or by that up to its `=`.
pub near_accepted : (known name head : List ℕ) (opens found begun : Bool) → opens ≡ is_open name → opens ≡ false → head ≡ head_of name
    → (found ≡ true → is_known known name ≡ true) → (begun ≡ true → is_known known head ≡ true) → (found || begun) ≡ true
    → accepts known name ≡ true
near_accepted known name head opens true begun opens_is closed head_is here there either = rw (sym opens_is ∙ closed, here refl) refl
near_accepted known name head opens false begun opens_is closed head_is here there either =
    rw (sym opens_is ∙ closed, ap (is_known known) (sym head_is) ∙ there either) (second (is_known known name))
  where
    -- Plan: `second` goes by both answers of `is_known known name`.
    second : (t : Bool) → (t || true) ≡ true
    second true = refl
    second false = refl

-- For `is_own_switch` (src/reading.rt), where lines of the names tell that the word is an option.
pub found_switch : (known word : List ℕ) (machine passed found : Bool) → meant_option word ≡ word
    → machine ≡ begins (codes "-mcpu=") word → machine ≡ false → passed ≡ is_passed_over word → passed ≡ false
    → (found ≡ true → accepts known word ≡ true) → found ≡ true
    → beyond known word (meant_option word) ≡ item word [] Alone Switch
found_switch known word machine passed found same machine_is other passed_is stays known_is so =
    own_switch known word machine passed (turns_off known word) (accepts known word) same machine_is other passed_is stays refl refl
    (either (turns_off known word) (accepts known word) (known_is so))
  where
    -- Plan: `either` goes by the cases of `turns_off known word` and `accepts known word`.
    either : (a b : Bool) → b ≡ true → (a || b) ≡ true
    either true b is = refl
    either false b is = is
