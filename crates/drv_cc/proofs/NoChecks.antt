use Rattle.drv_cc.proofs.Parts.{same_is}
use Rattle.drv_cc.specs.Items.{same}
use Rattle.drv_cc.specs.Kept.{has}
use Rattle.drv_cc.specs.Levels.{check_words, checked_by, checked_from, is_checked, library_word, needs_leak_library}
use Rattle.drv_cc.specs.Levels.{needs_undefined_library, speaks_of, ubsan_checks}
use Rattle.drv_cc.specs.Table.{texts}
use Rattle.drv_cc.specs.declared.item.Item.{Item}
use Rattle.std.proofs.Common.{◌≡◌, ◌∙◌, ◌&&◌, ◌||◌, ◌++◌, Bool, List, [], ◌∷◌, ap, codes, false, if◌then◌else◌, refl, sym, true, ℕ}
use Rattle.std.proofs.lemmas.List.{append-nil}
use Rattle.std.specs.List.{list_any}

-- For the libraries of checks (src/checks.rt): a line that turns no check on needs none.
-- Names: `check` is the name of a check, such as address. `items` is the items of the line. `i` is one of them. `has name items` says that
-- an option of this name is there. `is_checked items check` says that a check is on after all items, `checked_by` after one. `library_word`
-- is the word for a library, if it is needed.

-- The option that turns checks on. A line without it is what the code asks for first (`add_check_words`, src/checks.rt).
abbrev turns_on : List ℕ
turns_on = codes "-fsanitize="

-- The code and the definition compare the two names in other orders.
differs : (name : List ℕ) → same turns_on name ≡ false → same name turns_on ≡ false
differs name other = by (same name turns_on) refl
  where
    -- Plan: `by` goes by both answers of `same name turns_on`.
    by : (b : Bool) → same name turns_on ≡ b → b ≡ false
    by true e = absurd (let both : false ≡ true = sym other ∙ ap (same turns_on) (same_is name turns_on e) in cc)
    by false e = refl

-- an option that turns none on leaves each off
stays_off : (check : List ℕ) (i : Item) → same i.name turns_on ≡ false → checked_by check i false ≡ false
stays_off check i e = rw e (by (same i.name (codes "-fno-sanitize=") && speaks_of check i.argument))
  where
    -- Plan: `by` goes by both answers of `same i.name (codes "-fno-sanitize=") && speaks_of check i.argument`.
    by : (off : Bool) → (if off then false else false) ≡ false
    by true = refl
    by false = refl

-- So each check is off at the end of the line.
off : (check : List ℕ) (items : List Item) → has turns_on items ≡ false → checked_from false check items ≡ false
off check [] e = refl
off check (i ∷ items) e = by (same turns_on i.name) refl e (off check items)
  where
    -- Plan: `by` goes by both answers of `same turns_on i.name`.
    by : (b : Bool) → same turns_on i.name ≡ b → (b || has turns_on items) ≡ false
        → (has turns_on items ≡ false → checked_from false check items ≡ false)
        → checked_from false check (i ∷ items) ≡ false
    by true is e rest = absurd cc
    by false is e rest = ap (λ on. checked_from on check items) (stays_off check i (differs i.name is)) ∙ rest e

-- And so is each of those that need the library of undefined behaviour.
all_off : (items : List Item) (checks : List (List ℕ)) → has turns_on items ≡ false → list_any (is_checked items) checks ≡ false
all_off items [] e = refl
all_off items (check ∷ checks) e = rw (off check items e) (all_off items checks e)

-- A library that a check needs under a further condition is not needed where that check is off.
first_off : (a b : Bool) → a ≡ false → (a && b) ≡ false
first_off a b e = rw e refl

-- Where none of the five libraries is needed, no word is added.
no_library : (address hardware thread leak undefined : Bool) → address ≡ false → hardware ≡ false → thread ≡ false → leak ≡ false
    → undefined ≡ false → library_word address (codes "asan") ++ library_word hardware (codes "hwasan")
    ++ library_word thread (codes "tsan") ++ library_word leak (codes "lsan") ++ library_word undefined (codes "ubsan") ≡ []
no_library address hardware thread leak undefined ea eh et el eu = rw (ea, eh, et, el, eu) refl

-- For `add_check_words`: without -fsanitize= it adds nothing.
pub none_needed : (words : List (List ℕ)) (items : List Item) → has (codes "-fsanitize=") items ≡ false → words ≡ words ++ check_words items
none_needed words items e = sym (ap (λ more. words ++ more) none ∙ append-nil words)
  where
    -- Plan: `none` says that the definition adds no word: each of the five checks is off.
    none : check_words items ≡ []
    none =
        no_library (is_checked items (codes "address")) (is_checked items (codes "hwaddress")) (is_checked items (codes "thread"))
        (needs_leak_library items)
        (needs_undefined_library items) (off (codes "address") items e) (off (codes "hwaddress") items e) (off (codes "thread") items e)
        (first_off (is_checked items (codes "leak")) _ (off (codes "leak") items e))
        (first_off (list_any (is_checked items) (texts ubsan_checks)) _ (all_off items (texts ubsan_checks) e))
