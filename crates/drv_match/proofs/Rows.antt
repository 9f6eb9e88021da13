use Rattle.drv_match.specs.Matching.{hidden_by, hits, is_live, is_named, name_at}
use Rattle.drv_match.specs.Order.{IsBlock, IsOrder, by_name}
use Rattle.drv_match.specs.Pattern.{Pattern}
use Rattle.std.proofs.Common.{◌≡◌, Bool, List, [], ◌∷◌, arith, codes, false, length, refl, replicate, suc, true, zero, ℕ}
use Rattle.std.specs.List.Sorted.{IsSorted}
use Rattle.std.specs.List.{AllWithin}

-- Examples of lines, which the prover computes: places that a pattern hits, the order of names with a pattern's block, and which switches
-- are cancelled.
-- Names: `hits`: the places that a pattern hits, in order. `is_named`: a pattern names a switch. `name_at`: the name at a place.

-- a pattern with a star
abbrev starred : List ℕ → Pattern
starred name = record { name = name; star = true }

-- a pattern without
abbrev named : List ℕ → Pattern
named name = record { name = name; star = false }

-- two names that a starred pattern names with others, and two levels
abbrev line : List (List ℕ)
line = codes "mcu=a" ∷ codes "O1" ∷ codes "mcu=b" ∷ codes "m" ∷ codes "O2" ∷ []

-- no switch of the line is hidden
abbrev shown : List Bool
shown = replicate (length line) false

-- m* hits every switch whose name begins with m
with_m : hits line shown (starred (codes "m")) ≡ 0 ∷ 2 ∷ 3 ∷ []
with_m = refl

-- mcu=* hits those that begin with mcu=
with_mcu : hits line shown (starred (codes "mcu=")) ≡ 0 ∷ 2 ∷ []
with_mcu = refl

-- of two switches that mcu=* names, one is hidden
others_with_mcu : hits line (hidden_by (named (codes "mcu=a")) line shown) (starred (codes "mcu=")) ≡ 2 ∷ []
others_with_mcu = refl

-- a starred pattern of one byte hits a level that a later one cancels; a pattern without a star doesn't
with_level : hits line shown (starred (codes "O")) ≡ 1 ∷ 4 ∷ []
with_level = refl

-- a level that a later one cancels is not hit
cancelled_level : hits line shown (named (codes "O1")) ≡ []
cancelled_level = refl

-- * hits all, also the cancelled ones
all_places : hits line shown (starred []) ≡ 0 ∷ 1 ∷ 2 ∷ 3 ∷ 4 ∷ []
all_places = refl

-- the places of the line in the order of the names
abbrev places : List ℕ
places = 1 ∷ 4 ∷ 3 ∷ 0 ∷ 2 ∷ []

-- the order is by name
ascending : IsSorted (by_name line) places
ascending zero d low high = refl
ascending (suc zero) d low high = refl
ascending (suc (suc zero)) d low high = refl
ascending (suc (suc (suc zero))) d low high = refl
ascending (suc (suc (suc (suc k)))) d low high = absurd (omega (arith, high))

-- the places by name are the order that the definition asks for
in_order : IsOrder line places
in_order = record {
  places = record {
    moves = (3, 4) ∷ (2, 3) ∷ (1, 4) ∷ (0, 1) ∷ [];
    below = (
      omega arith,
      omega arith,
      (omega arith, omega arith, (omega arith, omega arith, (omega arith, omega arith, tt))),
    );
    is = refl;
  };
  sorted = ascending;
}

-- the places that the starred `m` names come after the levels, and `m` itself comes first

-- before the block of m* no name begins with m
levels_before : AllWithin (λ i. is_named (starred (codes "m")) (name_at line i) ≡ false) places 0 2
levels_before zero d low high = refl
levels_before (suc zero) d low high = refl
levels_before (suc (suc k)) d low high = absurd (omega (arith, high))

-- in it each does
all_named : AllWithin (λ i. is_named (starred (codes "m")) (name_at line i) ≡ true) places 2 5
all_named zero d low high = absurd (omega (arith, low))
all_named (suc zero) d low high = absurd (omega (arith, low))
all_named (suc (suc zero)) d low high = refl
all_named (suc (suc (suc zero))) d low high = refl
all_named (suc (suc (suc (suc zero)))) d low high = refl
all_named (suc (suc (suc (suc (suc k))))) d low high = absurd (omega (arith, high))

-- so it goes from 2 to 5
starred_block : IsBlock line places (starred (codes "m")) 2 5
starred_block = record {
  ascends = omega arith;
  within = omega arith;
  before = levels_before;
  named = all_named;
  following = λ k d low high. absurd (omega (arith, low, high));
}

-- before the block of m no name is m
levels_before_one : AllWithin (λ i. is_named (named (codes "m")) (name_at line i) ≡ false) places 0 2
levels_before_one zero d low high = refl
levels_before_one (suc zero) d low high = refl
levels_before_one (suc (suc k)) d low high = absurd (omega (arith, high))

-- in it the name is m
one_named : AllWithin (λ i. is_named (named (codes "m")) (name_at line i) ≡ true) places 2 3
one_named zero d low high = absurd (omega (arith, low))
one_named (suc zero) d low high = absurd (omega (arith, low))
one_named (suc (suc zero)) d low high = refl
one_named (suc (suc (suc k))) d low high = absurd (omega (arith, high))

-- after it the names are longer
longer_after : AllWithin (λ i. is_named (named (codes "m")) (name_at line i) ≡ false) places 3 5
longer_after zero d low high = absurd (omega (arith, low))
longer_after (suc zero) d low high = absurd (omega (arith, low))
longer_after (suc (suc zero)) d low high = absurd (omega (arith, low))
longer_after (suc (suc (suc zero))) d low high = refl
longer_after (suc (suc (suc (suc zero)))) d low high = refl
longer_after (suc (suc (suc (suc (suc k))))) d low high = absurd (omega (arith, high))

-- so it goes from 2 to 3
named_block : IsBlock line places (named (codes "m")) 2 3
named_block = record {
  ascends = omega arith;
  within = omega arith;
  before = levels_before_one;
  named = one_named;
  following = longer_after;
}

-- Without switches no pattern hits any.

-- without switches nothing is hit
no_switch : (pattern : Pattern) → hits [] [] pattern ≡ []
no_switch pattern = refl

-- Negative forms: of two switches that cancel each other the later one is live. A starred letter hits both levels.

-- a negative form before its positive one, and two levels
abbrev forms : List (List ℕ)
forms = codes "fno-x" ∷ codes "fx" ∷ codes "O1" ∷ codes "O2" ∷ []

-- the first is cancelled
cancelled_form : is_live forms 0 ≡ false
cancelled_form = refl

-- the second is live
later_form : is_live forms 1 ≡ true
later_form = refl

-- O* hits both levels, also the cancelled one
both_levels : hits forms (replicate 4 false) (starred (codes "O")) ≡ 2 ∷ 3 ∷ []
both_levels = refl
