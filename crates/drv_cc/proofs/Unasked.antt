use Rattle.drv_cc.proofs.Parts.{same_is}
use Rattle.drv_cc.specs.Asked.{asks, is_asked, is_question, is_stabs, is_xcoff, numeric, tells}
use Rattle.drv_cc.specs.Code.Asking.{is_judged, is_speaking, may_ask}
use Rattle.drv_cc.specs.Items.{is_among, same}
use Rattle.drv_cc.specs.Kept.{has}
use Rattle.drv_cc.specs.Table.{texts}
use Rattle.drv_cc.specs.declared.item.Item.{Item}
use Rattle.drv_options.specs.declared.option.Role.TheVariants.{Input, Lacking, Library, Piece, Question, Refused, Switch, Tells, Unknown}
use Rattle.drv_options.specs.declared.option.Role.{Role}
use Rattle.std.proofs.Common.{◌≡◌, ◌∙◌, ◌&&◌, ◌||◌, Bool, List, [], ◌∷◌, ap, codes, false, refl, sym, true, ℕ}
use Rattle.std.specs.List.{list_all, list_any}

-- For `is_asked` (src/asking.rt): a line whose items may not ask is no question for gcc.
-- Names: `items` is the items of the line. `i` is one of them. `r` is its role. `name` is its name, and `n` a name that gcc judges. `a`,
-- `b`, `t` and the variables of `none_of_seven` are values of tests. `may_ask` says that an item may make its line a question, `is_judged`
-- that gcc judges options of this name (specs/Code/Asking). `asks` says that one item is a question, and `is_asked` that the line is.

-- Parts a test of two into each of them.
both_false : (a b : Bool) → (a || b) ≡ false → (a ≡ false) × (b ≡ false)
both_false true b e = absurd cc
both_false false b e = (refl, e)

-- Parts the test of a whole list into that of its first name and that of the others.
both_true : (a b : Bool) → (a && b) ≡ true → (a ≡ true) × (b ≡ true)
both_true true b e = (refl, e)
both_true false b e = absurd cc

-- An item that speaks for itself is a question, or one where there is no input; others are neither.
not_speaking : (r : Role) → is_speaking r ≡ false → (is_question r ≡ false) × (tells r ≡ false)
not_speaking Question e = absurd cc
not_speaking Tells e = absurd cc
not_speaking Input e = (refl, refl)
not_speaking Library e = (refl, refl)
not_speaking Piece e = (refl, refl)
not_speaking Switch e = (refl, refl)
not_speaking Refused e = (refl, refl)
not_speaking Unknown e = (refl, refl)
not_speaking Lacking e = (refl, refl)

-- A name that gcc doesn't judge is no name that it judges.
other_name : (n name : List ℕ) → is_judged n ≡ true → is_judged name ≡ false → same n name ≡ false
other_name n name judged not_judged = by (same n name) refl
  where
    -- Plan: `by` goes by both answers of `same n name`.
    by : (t : Bool) → same n name ≡ t → t ≡ false
    by false e = refl
    by true e = absurd (let clash : true ≡ false = sym judged ∙ ap is_judged (same_is n name e) ∙ not_judged in cc)

-- Nor is it in a list of such names.
in_no_list : (names : List (List ℕ)) (name : List ℕ) → list_all is_judged names ≡ true → is_judged name ≡ false
    → is_among names name ≡ false
in_no_list [] name all none = refl
in_no_list (other ∷ names) name all none =
    by (same name other) refl (both_true (is_judged other) (list_all is_judged names) all) (λ more. in_no_list names name more none)
  where
    -- Plan: `by` goes by both answers of `same name other`.
    by : (t : Bool) → same name other ≡ t → (is_judged other ≡ true) × (list_all is_judged names ≡ true)
        → (list_all is_judged names ≡ true → is_among names name ≡ false) → (t || is_among names name) ≡ false
    by false e (first, more) rest = rest more
    by true e (first, more) rest =
        absurd (let clash : true ≡ false = sym first ∙ ap is_judged (sym (same_is name other e)) ∙ none in cc)

-- What holds of no item that may not ask holds of none on such a line.
of_none : (f : Item → Bool) → ((i : Item) → may_ask i ≡ false → f i ≡ false) → (items : List Item) → list_any may_ask items ≡ false
    → list_any f items ≡ false
of_none f each [] e = refl
of_none f each (i ∷ items) e =
    let both = both_false (may_ask i) (list_any may_ask items) e in
    rw (each i both.0) (of_none f each items both.1)

-- Its name is none that gcc judges.
name_of : (i : Item) → may_ask i ≡ false → is_judged i.name ≡ false
name_of i e = (both_false (is_speaking i.role) (is_judged i.name) e).1

-- And it is neither kind of question by its role.
role_of : (i : Item) → may_ask i ≡ false → (is_question i.role ≡ false) × (tells i.role ≡ false)
role_of i e = not_speaking i.role (both_false (is_speaking i.role) (is_judged i.name) e).0

-- So it has no argument that gcc refuses, and is no question.
asks_not : (i : Item) → may_ask i ≡ false → asks i ≡ false
asks_not i e =
    by (is_question i.role) (is_among (texts (codes "-fsanitize= -fno-sanitize=")) i.name) (is_among numeric i.name) _ _ (role_of i e).0
    (in_no_list (texts (codes "-fsanitize= -fno-sanitize=")) i.name refl (name_of i e)) (in_no_list numeric i.name refl (name_of i e))
  where
    -- Plan: `by` says that none of the three questions is there: by the role, by the check of an argument, by a number.
    by : (q check number refused none : Bool) → q ≡ false → check ≡ false → number ≡ false
        → (q || ((check && refused) || (number && none))) ≡ false
    by q check number refused none eq ec en = rw (eq, ec, en) refl

-- On such a line no option of a name that gcc judges is there.
has_none : (n : List ℕ) (items : List Item) → is_judged n ≡ true → list_any may_ask items ≡ false → has n items ≡ false
has_none n items judged e = of_none (λ i. same n i.name) (λ i quiet. other_name n i.name judged (name_of i quiet)) items e

-- The seven questions of `is_asked` (specs/Asked.antt), each of which fails.
none_of_seven : (a t params stabs xcoff v n t' params' stabs' xcoff' v' n' : Bool) → a ≡ false → t ≡ false → params ≡ false
    → stabs ≡ false → xcoff ≡ false → v ≡ false → n ≡ false
    → (((a || (t && t')) || (params && params')) || ((((stabs && stabs') || (xcoff && xcoff')) || (v && v')) || (n && n'))) ≡ false
none_of_seven a t params stabs xcoff v n t' params' stabs' xcoff' v' n' ea et ep es ex ev en = rw (ea, et, ep, es, ex, ev, en) refl

-- `is_asked` asks this first.
pub none_asks : (items : List Item) → list_any may_ask items ≡ false → false ≡ is_asked items
none_asks items e = sym (none_of_seven (list_any asks items) (list_any (λ i. tells i.role) items) (has (codes "--param=") items)
    (list_any is_stabs items) (list_any is_xcoff items) (has (codes "-gvms") items) (has (codes "-gctf") items) _ _ _ _ _ _
    (of_none asks asks_not items e) (of_none (λ i. tells i.role) (λ i quiet. (role_of i quiet).1) items e)
    (has_none (codes "--param=") items refl e)
    (of_none is_stabs (λ i quiet. in_no_list (texts (codes "-gstabs -gstabs+")) i.name refl (name_of i quiet)) items e)
    (of_none is_xcoff (λ i quiet. in_no_list (texts (codes "-gxcoff -gxcoff+")) i.name refl (name_of i quiet)) items e)
    (has_none (codes "-gvms") items refl e) (has_none (codes "-gctf") items refl e))
