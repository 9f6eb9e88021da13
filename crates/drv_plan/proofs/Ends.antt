use Rattle.drv_plan.specs.Languages.{is_suffix_of}
use Rattle.drv_specs.specs.Sets.{begins_with_at}
use Rattle.std.proofs.Common.{◌&&◌, ◌≡◌, ◌∙◌, ◌+◌, ◌-◌, ◌<◌, ◌==◌, Bool, List, ap, arith, drop, false, get_or, length, refl, sym, true, ℕ}
use Rattle.std.proofs.lemmas.Bool.Decides.{Decides-eqb, nat_tests}
use Rattle.std.proofs.lemmas.List.{get_or-drop, length-drop}
use Rattle.std.proofs.lemmas.Slice.Eq.{slice_eq-Decides}
use Rattle.std.specs.List.{ends_with}
use Rattle.std.specs.Prelude.{nat_eq, nat_lt, not}

-- For the look-up of suffixes: if a text ends with another, both have the same last byte.
-- Names: `text` and `end` are two texts, of which the first may end with the second. `last` and `wanted` are their last bytes. `name` is a
-- file's name, and `key` that of a pair. `n` is a length, and `empty` says whether it is 0. `begins`, `shorter` and `ends` are values of
-- tests. `is_suffix_of name key`: the key is a suffix of the name (specs/Languages).

-- a text that ends with another has the same last byte
last_is : (text end : List ℕ) → 0 < length end → ends_with nat_eq text end ≡ true
    → get_or text (length text - 1) 0 ≡ get_or end (length end - 1) 0
last_is text end some ends =
    let before : ℕ = length text - length end in
    let is : end ≡ drop before text = (slice_eq-Decides Decides-eqb end (drop before text) (ends_with nat_eq text end) refl).0 ends in
    let size : length end ≡ length text - (length text - length end) = ap length is ∙ length-drop (length text - length end) text in
    let place : length text - 1 ≡ (length text - length end) + (length end - 1) = omega (arith, size, some) in
    ap (λ n. get_or text n 0) place ∙ sym (get_or-drop (length text - length end) text (length end - 1) 0)
    ∙ ap (λ t. get_or t (length end - 1) 0) (sym is)

-- a text whose last byte is another does not end with this one
pub not_alike : (text end : List ℕ) (last wanted : ℕ) → 0 < length end → last ≡ get_or text (length text - 1) 0
    → wanted ≡ get_or end (length end - 1) 0
    → (last == wanted) ≡ false → ends_with nat_eq text end ≡ false
not_alike text end last wanted some last_at wanted_at differ = by (ends_with nat_eq text end) refl
  where
    -- Plan: `by` goes by both answers of `ends_with nat_eq text end`.
    by : (r : Bool) → ends_with nat_eq text end ≡ r → ends_with nat_eq text end ≡ false
    by false e = e
    by true e = absurd (let z : true ≡ false =
        sym ((Decides-eqb last wanted).1 (last_at ∙ last_is text end some e ∙ sym wanted_at)) ∙ differ in cc)

-- a length that is not 0
pub some_there : (n : ℕ) (empty : Bool) → empty ≡ (n == 0) → empty ≡ false → 0 < n
some_there n empty tests is = grind (arith, nat_tests)

-- a key with which a name doesn't end is not its suffix
pub is_no_suffix : (name key : List ℕ) → ends_with nat_eq name key ≡ false → false ≡ is_suffix_of name key
is_no_suffix name key differ = sym (by (begins_with_at key) (nat_lt (length key) (length name)) (ends_with nat_eq name key) differ)
  where
    -- Plan: `by` goes by the cases of `begins_with_at key`, `nat_lt (length key) (length name)` and `ends_with nat_eq name key`.
    by : (begins shorter ends : Bool) → ends ≡ false → not begins && (shorter && ends) ≡ false
    by true shorter ends e = refl
    by false true ends e = e
    by false false ends e = refl
