use Rattle.drv_check.specs.Checks.{with_number}
use Rattle.drv_specs.proofs.Changes.{filled_body}
use Rattle.drv_specs.specs.Blanks.{is_white}
use Rattle.drv_specs.specs.Sets.{Set, append, appended_text, appends, begins_with_at, by_tree, ends_with_backslash, is_key, is_name}
use Rattle.drv_specs.specs.Sets.{is_no_text, pair_text, put, text_of, with_body, with_name, with_pair, with_pair_body}
use Rattle.drv_specs.specs.Sets.{with_pair_text, with_text}
use Rattle.drv_specs.specs.declared.fault.SpecsFault.TheVariants.{AliasOfAlias, BadName, RenameMissing, RenameTaken, TrailingBackslash}
use Rattle.drv_specs.specs.declared.fault.SpecsFault.{SpecsFault}
use Rattle.drv_syntax.specs.Outcome.{parsed}
use Rattle.drv_syntax.specs.Tree.{Items}
use Rattle.drv_syntax.specs.declared.fault.SyntaxFault.{SyntaxFault}
use Rattle.std.proofs.Common.{◌≡◌, ◌&&◌, Bool, Err, List, [], ◌∷◌, Ok, Result, false, if◌then◌else◌, is_some, nat_eq, not, refl, subst, sym}
use Rattle.std.proofs.Common.{true, ℕ}
use Rattle.std.specs.Cmp.Lexicographic.{pointwise}
use Rattle.std.specs.List.{list_all}
use Rattle.std.specs.Map.{set_key}
use Rattle.std.specs.Prelude.{⊤}

-- For first_fault_is_refusal (src/laws.rt): the faults of a directive have no number of a line, unless the line is none.
-- Names: `n` is the number of a line. `set` is the set that a directive changes. `name` is the name of a text, `key` that of a pair, and
-- `body` what follows the colon. `x` and `y` are results. `Same n result`: the number changes nothing of the result's fault. `with_body`
-- and its like are the changes of the driver (drv_specs).

-- A refusal stays as it is when it gets the number of a line.
abbrev pub Same : ℕ → {X : Type 0} → Result X SpecsFault → Type 0
Same n (Ok x) = ⊤
Same n (Err fault) = with_number n fault ≡ fault

-- The refusal of a text by the grammar has no number.
tree_same : (n : ℕ) {X : Type 0} (name : List ℕ) (x : X) (tree : Result Items SyntaxFault) → Same n (by_tree name x tree)
tree_same n name x (Ok tree) = tt
tree_same n name x (Err fault) = refl

-- Of two results that have none, the one that a test chooses has none.
if_same : (n : ℕ) {X : Type 0} (test : Bool) (x y : Result X SpecsFault) → Same n x → Same n y → Same n (if test then x else y)
if_same n true x y first second = first
if_same n false x y first second = second

-- A body that is put or added has none.
body_same : (n : ℕ) (set : Set) (name body : List ℕ) → Same n (with_body set name body)
body_same n set name [] = tt
body_same n set name (b ∷ text) =
    subst (Same n) (sym (filled_body set name b text))
    (if_same n (appends (b ∷ text)) (append set name text) (put set name (b ∷ text))
    (if_same n (list_all is_white text) (Ok set) (put set name (appended_text (text_of set name) text)) tt
    (tree_same n name _ (parsed (appended_text (text_of set name) text))))
    (tree_same n name _ (parsed (b ∷ text))))

-- A named text has none, whatever is wrong with it.
pub text_same : (n : ℕ) (set : Set) (name body : List ℕ) → Same n (with_text set name body)
text_same n set name body =
    if_same n (not (is_name name)) (Err (BadName name)) _ refl
    (if_same n (ends_with_backslash body) (Err (TrailingBackslash name)) (with_body set name body) refl (body_same n set name body))

-- The text of a pair has none.
pair_same : (n : ℕ) (set : Set) (key text : List ℕ) → Same n (with_pair_text set key text)
pair_same n set key text =
    if_same n (ends_with_backslash text) (Err (TrailingBackslash key)) _ refl
    (if_same n (begins_with_at key && begins_with_at text) (Err (AliasOfAlias key)) _ refl
    (if_same n (is_no_text text) (Ok (with_pair set key text)) (by_tree key (with_pair set key text) (parsed text)) tt
    (tree_same n key (with_pair set key text) (parsed text))))

-- A pair has none, whatever is wrong with its key.
pub pair_body_same : (n : ℕ) (set : Set) (key body : List ℕ) → Same n (with_pair_body set key body)
pair_body_same n set key body =
    if_same n (is_key key) (with_pair_text set key (pair_text body)) (Err (BadName key)) (pair_same n set key (pair_text body)) refl

-- A name that changes has none.
pub name_same : (n : ℕ) (set : Set) (old new : List ℕ) → Same n (with_name set old new)
name_same n set old new =
    if_same n (not (is_name old)) (Err (BadName old)) _ refl
    (if_same n (not (is_name new)) (Err (BadName new)) _ refl
    (if_same n (not (is_some (text_of set old))) (Err (RenameMissing old)) _ refl
    (if_same n (pointwise nat_eq old new) (Ok set) _ tt
    (if_same n (is_some (text_of set new)) (Err (RenameTaken new))
    (Ok (record set { named = set_key (pointwise nat_eq old) set.named new })) refl tt))))
