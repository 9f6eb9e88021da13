use Rattle.drv_plan.specs.Languages.{last_pair, last_text, or_before, pair_meaning}
use Rattle.drv_specs.specs.Sets.{Set}
use Rattle.std.proofs.Common.{◌≡◌, ◌<◌, ◌+◌, ◌∙◌, Bool, List, [], ◌∷◌, ◌++◌, Option, Some, ap, false, if◌then◌else◌, length, refl, sym}
use Rattle.std.proofs.Common.{take, true, ℕ}
use Rattle.std.proofs.lemmas.Grind.{take_at_read}
use Rattle.std.proofs.lemmas.Option.{slice_get_read}
use Rattle.std.specs.Option.{option_map}
use Rattle.std.specs.Prelude.{get_or, slice_get}

-- For the look-up of languages and suffixes: the last pair of a list that fits counts, so the code goes from the end of the list.
-- Names: `pairs` is the pairs of the set. `pair` is one pair: its key and its text. `fits` says which keys fit. `n` is how many pairs are
-- still to be looked at. `last_text fits pairs` is the text of the last pair whose key fits.

-- a key and a text
abbrev Pair : Type 0
Pair = List ℕ × List ℕ

-- a later pair counts before all others
abbrev or_else : Bool → List ℕ → Option (List ℕ) → Option (List ℕ)
or_else fits text others = if fits then Some text else others

-- the last pair that fits, of one more pair at the end
following_one : (first last : Bool) (text following : List ℕ) (others : Option (List ℕ))
    → or_before (or_else last following others) first text ≡ or_else last following (or_before others first text)
following_one first true text following others = refl
following_one first false text following others = refl

-- the last text that fits, where one more pair follows
after_all : (fits : List ℕ → Bool) (pairs : List Pair) (last : Pair) → last_text fits (pairs ++ last ∷ []) ≡ or_else (fits last.0) last.1
    (last_text fits pairs)
after_all fits [] last = refl
after_all fits (pair ∷ pairs) last =
    ap (λ others. or_before others (fits pair.0) pair.1) (after_all fits pairs last) ∙ following_one (fits pair.0) (fits last.0) pair.1
    last.1 (last_text fits pairs)

-- the last text that fits, of the pairs before and of one more
one_more : (fits : List ℕ → Bool) (pairs : List Pair) (n : ℕ) (pair : Pair) → n < length pairs → pair ≡ get_or pairs n pair
    → last_text fits (take (n + 1) pairs) ≡ or_else (fits pair.0) pair.1 (last_text fits (take n pairs))
one_more fits pairs n pair below here =
    ap (last_text fits) ((take_at_read pairs n pair below).1 ∙ ap (λ p. take n pairs ++ p ∷ []) (sym here))
    ∙ after_all fits (take n pairs) pair

-- going from the end: the key of the next pair doesn't fit, and those before it are left
pub pair_missed : (fits : List ℕ → Bool) (pairs : List Pair) (left n : ℕ) (pair : Pair) (key : List ℕ) (hit : Bool)
    (whole : Option (List ℕ))
    → left ≡ n + 1 → n < length pairs → pair ≡ get_or pairs n pair → key ≡ pair.0 → hit ≡ fits key → hit ≡ false
    → last_text fits (take left pairs) ≡ whole → last_text fits (take n pairs) ≡ whole
pair_missed fits pairs left n pair key hit whole one below here is tests misses before =
    sym (one_more fits pairs n pair below here ∙ ap (λ h. or_else h pair.1 (last_text fits (take n pairs))) (ap fits (sym is)
    ∙ sym tests ∙ misses))
    ∙ ap (λ m. last_text fits (take m pairs)) (sym one) ∙ before

-- going from the end: the key of the next pair fits, and its text is the last one that fits
pub pair_hit : (fits : List ℕ → Bool) (pairs : List Pair) (left n : ℕ) (pair : Pair) (key : List ℕ) (hit : Bool) (whole : Option (List ℕ))
    → left ≡ n + 1 → n < length pairs → pair ≡ get_or pairs n pair → key ≡ pair.0 → hit ≡ fits key → hit ≡ true
    → last_text fits (take left pairs) ≡ whole → option_map (λ p. p.1) (slice_get pairs n) ≡ whole
pair_hit fits pairs left n pair key hit whole one below here is tests hits before =
    ap (option_map (λ p. p.1)) (slice_get_read pairs (length pairs) n pair refl below here)
    ∙ sym (one_more fits pairs n pair below here ∙ ap (λ h. or_else h pair.1 (last_text fits (take n pairs))) (ap fits (sym is)
    ∙ sym tests ∙ hits))
    ∙ ap (λ m. last_text fits (take m pairs)) (sym one) ∙ before

-- the pair at an index, by another name for the same list
pub pair_at : (pairs whole : List Pair) (n : ℕ) (pair : Pair) → pairs ≡ whole → n < length pairs → pair ≡ get_or pairs n pair
    → slice_get whole n ≡ Some pair
pair_at pairs whole n pair is below here = ap (λ ps. slice_get ps n) (sym is) ∙ slice_get_read pairs (length pairs) n pair refl below here

-- the text of the last pair that fits, as the meaning of that pair
pub text_found : (fits : List ℕ → Bool) (set : Set) (pairs others : List Pair) (n : ℕ) (pair : Pair) → pairs ≡ set.pairs
    → others ≡ set.pairs → n < length others → pair ≡ get_or others n pair
    → option_map (λ p. p.1) (slice_get pairs n) ≡ last_text fits pairs → last_pair set fits ≡ Some (pair_meaning pair.1)
text_found fits set pairs others n pair is same below here found =
    ap (option_map pair_meaning)
    (ap (last_text fits) (sym is) ∙ sym found ∙ ap (option_map (λ p. p.1)) (ap (λ ps. slice_get ps n) is
    ∙ pair_at others set.pairs n pair same below here))
