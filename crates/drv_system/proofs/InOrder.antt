use Rattle.drv_system.proofs.AnswerMaps.{pair_elsewhere, pair_here, same_key}
use Rattle.drv_system.specs.Code.Ordered.{SameAnswers, in_order, in_order_from}
use Rattle.drv_system.specs.Facts.{answer_to, with_answer, with_pair}
use Rattle.std.proofs.Common.{◌≡◌, ◌∙◌, ◌++◌, Bool, List, [], ◌∷◌, None, Some, ap, false, refl, sym, true, ℕ}
use Rattle.std.proofs.lemmas.Cmp.{nat_list_eq_equiv}
use Rattle.indexmap.proofs.MapLemmas.{absent_from_lookup, insert_entry-absent}
use Rattle.indexmap.specs.IndexMap.{insert_entry}
use Rattle.std.specs.BTreeMap.{is_at}
use Rattle.std.specs.Cmp.Lexicographic.{pointwise, slice_cmp, texts_ties}
use Rattle.std.specs.Map.{lookup}
use Rattle.std.specs.Ordering.{nat_cmp}
use Rattle.std.specs.Prelude.{cond, nat_eq}

-- For the kinds of paths: a table in the order of the questions, seen as a map in the order of its keys.
-- Names: `Y` is the type of the answers in a map. `pairs` is the pairs in the order of the questions. `key` is the path or name that is
-- asked. `other` is another path or name. `path` is a path. `answer` is an answer. `answer_to es key` is the answer that a map has for the
-- key. `with_pair es key y` puts a pair at its place in the order of keys. `in_order`: the pairs, ordered by their keys. `SameAnswers`: the
-- table answers as the finite map.

-- pairs put into a map one by one, and one more after them
from_more : {Y : Type 0} (done pairs : List (List ℕ × Y)) (key : List ℕ) (answer : Y)
    → in_order_from done (pairs ++ (key, answer) ∷ []) ≡ with_pair (in_order_from done pairs) key answer
from_more done [] key answer = refl
from_more done (pair ∷ pairs) key answer = from_more (with_pair done pair.0 pair.1) pairs key answer

-- what the table knows, the map knows
pub in_order_unknown : {Y : Type 0} (pairs : List (List ℕ × Y)) (path : List ℕ) → SameAnswers pairs
    → None ≡ lookup (pointwise nat_eq path) pairs
    → None ≡ answer_to (in_order pairs) path
in_order_unknown pairs path same none = none ∙ same path

-- an answer in the table is the map's answer
pub in_order_known : {Y : Type 0} (pairs : List (List ℕ × Y)) (path : List ℕ) (answer : Y) → SameAnswers pairs
    → Some answer ≡ lookup (pointwise nat_eq path) pairs → answer_to (in_order pairs) path ≡ Some answer
in_order_known pairs path answer same is = sym (is ∙ same path)

-- a key that wasn't there goes to the end
pub appended : {Y : Type 0} (pairs room more : List (List ℕ × Y)) (key path : List ℕ) (answer : Y) → key ≡ path
    → None ≡ lookup (pointwise nat_eq path) pairs → room ≡ pairs → more ≡ insert_entry (pointwise nat_eq) room key answer
    → more ≡ pairs ++ (key, answer) ∷ []
appended pairs room more key path answer is none same grows =
    let absent : lookup (pointwise nat_eq key) pairs ≡ None = ap (λ k. lookup (pointwise nat_eq k) pairs) is ∙ sym none in
    grows ∙ ap (λ es. insert_entry (pointwise nat_eq) es key answer) same
    ∙ insert_entry-absent (pointwise nat_eq) key answer pairs (absent_from_lookup (pointwise nat_eq key) pairs absent)

-- A table with one more pair, of a path that it lacked: the map in order has one more pair too.
module _ {Y : Type 0} (pairs more : List (List ℕ × Y)) (key path : List ℕ) (answer : Y) (same : SameAnswers pairs) (is : key ≡ path)
    (none : None ≡ lookup (pointwise nat_eq path) pairs) (grows : more ≡ pairs ++ (key, answer) ∷ []) where
  pub ordered_more : in_order more ≡ with_pair (in_order pairs) path answer
  ordered_more = ap in_order grows ∙ from_more [] pairs key answer ∙ ap (λ k. with_pair (in_order pairs) k answer) is

  -- so it is the map with one more answer, as the definition puts it
  pub ordered_with : in_order more ≡ with_answer (in_order pairs) path answer
  ordered_with = let unknown : None ≡ answer_to (in_order pairs) path = in_order_unknown pairs path same none in ordered_more
      ∙ rw (← unknown) refl

  -- and it answers for the path
  pub ordered_here : answer_to (in_order more) path ≡ Some answer
  ordered_here = ap (λ es. answer_to es path) ordered_more ∙ pair_here (in_order pairs) path answer

  -- what the table answers with the new pair, the map answers: by whether the path is the new one
  answers_by : (other : List ℕ) (b : Bool) → is_at (slice_cmp nat_cmp other) path ≡ b
      → cond b (Some answer) (lookup (pointwise nat_eq other) pairs) ≡ answer_to (with_pair (in_order pairs) path answer) other
  answers_by other true at =
      sym (ap (answer_to (with_pair (in_order pairs) path answer)) (same_key other path at) ∙ pair_here (in_order pairs) path answer)
  answers_by other false at = same other ∙ sym (pair_elsewhere (in_order pairs) path other answer at)

  -- two ways to compare a path with the new one give the same
  same_test : (other : List ℕ) → pointwise nat_eq key other ≡ is_at (slice_cmp nat_cmp other) path
  same_test other = ap (λ k. pointwise nat_eq k other) is ∙ nat_list_eq_equiv.symm path other ∙ texts_ties other path

  -- so the table answers as the map again
  pub answers_more : ((other : List ℕ) → lookup (pointwise nat_eq other) more
      ≡ cond (pointwise nat_eq key other) (Some answer) (lookup (pointwise nat_eq other) pairs))
      → SameAnswers more
  answers_more updates other =
      updates other ∙ ap (λ b. cond b (Some answer) (lookup (pointwise nat_eq other) pairs)) (same_test other)
      ∙ answers_by other (is_at (slice_cmp nat_cmp other) path) refl ∙ sym (ap (λ es. answer_to es other) ordered_more)
