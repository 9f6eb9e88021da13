use Rattle.drv_system.specs.Facts.{answer_to, with_answer, with_pair}
use Rattle.std.proofs.Common.{refl, ap, sym, ◌∙◌}
use Rattle.std.proofs.lemmas.Map.Lookups.{exact_bytes}
use Rattle.std.specs.BTreeMap.{is_at}
use Rattle.std.specs.Cmp.{Equal-is, tied_itself}
use Rattle.std.specs.Cmp.Lexicographic.{nat_list_cmp_total, slice_cmp}
use Rattle.std.specs.Map.{remove_entry, set_value}
use Rattle.std.specs.Option.{option_or}
use Rattle.std.specs.Ordering.{nat_cmp}
use Rattle.std.specs.declared.cmp.Ordering.{Ordering}
use Rattle.std.specs.declared.cmp.Ordering.TheVariants.{Less, Equal, Greater}
use Rattle.std.specs.Prelude.{◌≡◌, Bool, IsSome, List, [], ◌∷◌, None, Option, Some, false, if◌then◌else◌, is_some, true, ℕ}

-- For `FactTable`: the effect of one more pair on a map of answers. Each lemma goes by how the new key compares with the first key.
-- Names: `Y` is the type of the answers in a map. `es` is the pairs of a map: a path or name, and its answer. `e` is the first pair. `key`
-- is the path or name that is asked. `other` is another path or name. `blank` is the answer that the code puts first, before it has the
-- real one. `answer` is the answer to the key. `w` is how the key compares with the first key. `full` is the map with the real answer.
-- `answer_to es key` is the answer that a map has for the key. `with_pair es key y` puts a pair at its place in the order of keys.
-- `with_answer` keeps the first answer to a key.

-- the map has the answer that was put: the case of a first pair
here_first : {Y : Type 0} (e : List ℕ × Y) (es : List (List ℕ × Y)) (key : List ℕ) (answer : Y) (w : Ordering)
    → slice_cmp nat_cmp key e.0 ≡ w → answer_to (with_pair es key answer) key ≡ Some answer
    → answer_to (with_pair (e ∷ es) key answer) key ≡ Some answer
here_first e es key answer Less is rest = rw (is, tied_itself nat_list_cmp_total key)
here_first e es key answer Equal is rest = rw (is, is)
here_first e es key answer Greater is rest = rw (is, is) rest

-- the map has the answer that was put
pub pair_here : {Y : Type 0} (es : List (List ℕ × Y)) (key : List ℕ) (answer : Y) → answer_to (with_pair es key answer) key ≡ Some answer
pair_here [] key answer = rw (tied_itself nat_list_cmp_total key)
pair_here (e ∷ es) key answer = here_first e es key answer (slice_cmp nat_cmp key e.0) refl (pair_here es key answer)

-- any other key keeps its answer
same_rest : {Y : Type 0} (e : List ℕ × Y) (es fs : List (List ℕ × Y)) (other : List ℕ)
    → answer_to es other ≡ answer_to fs other → answer_to (e ∷ es) other ≡ answer_to (e ∷ fs) other
same_rest e es fs other same = ap (λ rest. if is_at (slice_cmp nat_cmp other) e.0 then Some e.1 else rest) same

-- a pair that was put changes no other answer: the case of a first pair
elsewhere_first : {Y : Type 0} (e : List ℕ × Y) (es : List (List ℕ × Y)) (key other : List ℕ) (answer : Y) (w : Ordering)
    → slice_cmp nat_cmp key e.0 ≡ w → is_at (slice_cmp nat_cmp other) key ≡ false
    → answer_to (with_pair es key answer) other ≡ answer_to es other
    → answer_to (with_pair (e ∷ es) key answer) other ≡ answer_to (e ∷ es) other
elsewhere_first e es key other answer Less is apart rest = rw (is, apart)
elsewhere_first e es key other answer Equal is apart rest = rw (is, ← exact_bytes key e.0 is, apart)
elsewhere_first e es key other answer Greater is apart rest = rw is (same_rest e _ es other rest)

-- a pair that was put changes no other answer
pub pair_elsewhere : {Y : Type 0} (es : List (List ℕ × Y)) (key other : List ℕ) (answer : Y)
    → is_at (slice_cmp nat_cmp other) key ≡ false → answer_to (with_pair es key answer) other ≡ answer_to es other
pair_elsewhere [] key other answer apart = rw apart
pair_elsewhere (e ∷ es) key other answer apart =
    elsewhere_first e es key other answer (slice_cmp nat_cmp key e.0) refl apart (pair_elsewhere es key other answer apart)

-- a blank is filled with the answer: the case of a first pair
filled_first : {Y : Type 0} (e : List ℕ × Y) (es : List (List ℕ × Y)) (key : List ℕ) (blank answer : Y) (w : Ordering)
    → slice_cmp nat_cmp key e.0 ≡ w
    → set_value (is_at (slice_cmp nat_cmp key)) (with_pair es key blank) answer ≡ with_pair es key answer
    → set_value (is_at (slice_cmp nat_cmp key)) (with_pair (e ∷ es) key blank) answer ≡ with_pair (e ∷ es) key answer
filled_first e es key blank answer Less is rest = rw (is, tied_itself nat_list_cmp_total key)
filled_first e es key blank answer Equal is rest = rw (is, is)
filled_first e es key blank answer Greater is rest = rw (is, is) (ap (λ fs. e ∷ fs) rest)

-- to fill a blank is to put the answer at once
pub fills_pair : {Y : Type 0} (es : List (List ℕ × Y)) (key : List ℕ) (blank answer : Y)
    → set_value (is_at (slice_cmp nat_cmp key)) (with_pair es key blank) answer ≡ with_pair es key answer
fills_pair [] key blank answer = rw (tied_itself nat_list_cmp_total key)
fills_pair (e ∷ es) key blank answer = filled_first e es key blank answer (slice_cmp nat_cmp key e.0) refl (fills_pair es key blank answer)

-- a pair is removed again, if the key had none before: the case of a first pair
cleared_first : {Y : Type 0} (e : List ℕ × Y) (es : List (List ℕ × Y)) (key : List ℕ) (blank : Y) (w : Ordering)
    → slice_cmp nat_cmp key e.0 ≡ w → answer_to (e ∷ es) key ≡ None
    → (answer_to es key ≡ None → remove_entry (is_at (slice_cmp nat_cmp key)) (with_pair es key blank) ≡ es)
    → remove_entry (is_at (slice_cmp nat_cmp key)) (with_pair (e ∷ es) key blank) ≡ e ∷ es
cleared_first e es key blank Less is new rest = rw (is, tied_itself nat_list_cmp_total key)
cleared_first e es key blank Equal is new rest = absurd (let z : Some e.1 ≡ None = rw is at new in cc)
cleared_first e es key blank Greater is new rest = rw is (rw is (ap (λ fs. e ∷ fs) (rest (rw is at new))))

-- to take a blank away again leaves the map as it was
pub clears_pair : {Y : Type 0} (es : List (List ℕ × Y)) (key : List ℕ) (blank : Y)
    → answer_to es key ≡ None → remove_entry (is_at (slice_cmp nat_cmp key)) (with_pair es key blank) ≡ es
clears_pair [] key blank new = rw (tied_itself nat_list_cmp_total key)
clears_pair (e ∷ es) key blank new = cleared_first e es key blank (slice_cmp nat_cmp key e.0) refl new (clears_pair es key blank)

-- One more answer belongs to its key if that had none, and no other answer changes.

-- keys that compare as equal are the same bytes
pub same_key : (other key : List ℕ) → is_at (slice_cmp nat_cmp other) key ≡ true → other ≡ key
same_key other key same = exact_bytes other key ((Equal-is (slice_cmp nat_cmp other key)).0 same)

-- an answer or nothing is the answer
pub or_none : {Y : Type 0} (x : Option Y) → x ≡ option_or x None
or_none None = refl
or_none (Some y) = refl

-- what the map answers after one more question: by whether the key was known, and whether it is the one asked
answer_at : {Y : Type 0} (es : List (List ℕ × Y)) (key other : List ℕ) (answer : Y) (known : Option Y) (same : Bool)
    → answer_to es key ≡ known → is_at (slice_cmp nat_cmp other) key ≡ same
    → answer_to (with_answer es key answer) other ≡ option_or (answer_to es other)
    (if is_at (slice_cmp nat_cmp other) key then Some answer else None)
answer_at es key other answer (Some known) true had is =
    let z : answer_to es other ≡ Some known = ap (answer_to es) (same_key other key is) ∙ had in rw (had, z)
answer_at es key other answer (Some known) false had is = rw (had, is) (or_none (answer_to es other))
answer_at es key other answer None true had is =
    let z : answer_to es other ≡ None = ap (answer_to es) (same_key other key is) ∙ had in
    let y : answer_to (with_pair es key answer) other ≡ Some answer = ap (answer_to (with_pair es key answer)) (same_key other key is)
    ∙ pair_here es key answer in
    rw (had, z, is) y
answer_at es key other answer None false had is = rw (had, is) (pair_elsewhere es key other answer is ∙ or_none (answer_to es other))

-- after one more question a key has its first answer
pub answer_to-with_answer : {Y : Type 0} (es : List (List ℕ × Y)) (key other : List ℕ) (answer : Y)
    → answer_to (with_answer es key answer) other ≡ option_or (answer_to es other)
    (if is_at (slice_cmp nat_cmp other) key then Some answer else None)
answer_to-with_answer es key other answer = answer_at es key other answer (answer_to es key) (is_at (slice_cmp nat_cmp other) key) refl refl

-- one more question changes no known answer
pub keeps_answers : {Y : Type 0} (es : List (List ℕ × Y)) (key other : List ℕ) (answer known : Y)
    → answer_to es other ≡ Some known → answer_to (with_answer es key answer) other ≡ Some known
keeps_answers es key other answer known had = answer_to-with_answer es key other answer ∙ rw had

-- where the code finds no answer the map has none
pub absent : {Y : Type 0} (known : Option Y) (there : Bool) → there ≡ is_some known → there ≡ false → None ≡ known
absent None there is missing = refl
absent (Some answer) there is missing = absurd (let z : false ≡ true = sym missing ∙ is in cc)

-- the maps of a place: made, filled, and cleared. A place that is filled is the map with its answer.
module _ {Y : Type 0} (es made : List (List ℕ × Y)) (key : List ℕ) (blank : Y) (new : None ≡ answer_to es key)
    (is : made ≡ with_pair es key blank) where
  pub place_filled : (full : List (List ℕ × Y)) (answer : Y) → full ≡ set_value (is_at (slice_cmp nat_cmp key)) made answer
      → full ≡ with_answer es key answer
  place_filled full answer step = rw (← new) (step ∙ ap (λ xs. set_value (is_at (slice_cmp nat_cmp key)) xs answer) is
      ∙ fills_pair es key blank answer)

  -- and that map has the answer
  pub place_answers : (full : List (List ℕ × Y)) (answer : Y) → full ≡ set_value (is_at (slice_cmp nat_cmp key)) made answer
      → answer_to full key ≡ Some answer
  place_answers full answer step = ap (λ xs. answer_to xs key) (step ∙ ap (λ xs. set_value (is_at (slice_cmp nat_cmp key)) xs answer) is
      ∙ fills_pair es key blank answer) ∙ pair_here es key answer

  -- so it has some answer to the key
  pub place_known : (full : List (List ℕ × Y)) (answer : Y) → full ≡ set_value (is_at (slice_cmp nat_cmp key)) made answer
      → IsSome (answer_to full key)
  place_known full answer step = rw (place_answers full answer step) refl

  -- a place that is cleared leaves the map as it was
  pub place_cleared : (rest : List (List ℕ × Y)) → rest ≡ remove_entry (is_at (slice_cmp nat_cmp key)) made → rest ≡ es
  place_cleared rest step = step ∙ ap (remove_entry (is_at (slice_cmp nat_cmp key))) is ∙ clears_pair es key blank (sym new)

-- after a pair was put the map has an answer to its key
pub place_made : {Y : Type 0} (es made : List (List ℕ × Y)) (key : List ℕ) (blank : Y) → made ≡ with_pair es key blank
    → IsSome (answer_to made key)
place_made es made key blank is = rw (is, pair_here es key blank) refl
