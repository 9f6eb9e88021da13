use Rattle.drv_match.specs.Matching.{is_named, name_at}
use Rattle.drv_match.specs.Pattern.{Pattern}
use Rattle.std.specs.Cmp.Lexicographic.{slice_cmp}
use Rattle.std.specs.List.{AllWithin, range_with_len}
use Rattle.std.specs.List.Sorted.{IsPermutation, IsSorted}
use Rattle.std.specs.Ordering.{nat_cmp, ordering_then}
use Rattle.std.specs.declared.cmp.Ordering.{Ordering}
use Rattle.std.specs.Prelude.{◌≡◌, ◌≤◌, List, false, length, true, ℕ}

-- The places of a line in the order of their names, where the switches that a pattern names are next to each other (this project's
-- profile).

-- the order of two places: by name, byte by byte, then by place
abbrev pub by_name : List (List ℕ) → ℕ → ℕ → Ordering
by_name names i j = ordering_then (slice_cmp nat_cmp (name_at names i) (name_at names j)) (nat_cmp i j)

-- all places of a line, by name, then by place
pub record IsOrder (names : List (List ℕ)) (order : List ℕ) : Type 0 where
  pub places : IsPermutation (range_with_len 0 (length names)) order
  pub sorted : IsSorted (by_name names) order

-- In that order, the pattern names exactly the places from the start to before the end. `ascends` and `within` say that start and end lie
-- in the order. `before`, `named` and `following` say what the pattern names: no place of the first part, all of the second, none of the
-- third.
pub record IsBlock (names : List (List ℕ)) (order : List ℕ) (pattern : Pattern) (start end : ℕ) : Type 0 where
  pub ascends : start ≤ end
  pub within : end ≤ length order
  pub before : AllWithin (λ i. is_named pattern (name_at names i) ≡ false) order 0 start
  pub named : AllWithin (λ i. is_named pattern (name_at names i) ≡ true) order start end
  pub following : AllWithin (λ i. is_named pattern (name_at names i) ≡ false) order end (length order)
