use Rattle.drv_core.specs.Code.Fleet.{busy, first_busy}
use Rattle.drv_core.specs.Events.{none}
use Rattle.drv_words.specs.declared.plan.Job.{Job}
use Rattle.std.proofs.Common.{arith, ◌≡◌, ◌+◌, ◌-◌, ◌≤◌, ◌∙◌, Bool, false, true, List, [], ◌∷◌, None, Some, ap, cond, drop, if◌then◌else◌}
use Rattle.std.proofs.Common.{length, nat_lt, not, refl, take, ℕ}
use Rattle.std.proofs.lemmas.Bool.Decides.{nat_tests}
use Rattle.std.proofs.lemmas.List.{length-drop, take_all}
use Rattle.std.proofs.lemmas.List.Sums.{prefix_len-le-length}
use Rattle.std.specs.List.{position, position_or_len}
use Rattle.std.specs.Prelude.{unwrap_or}

-- What the code's search of a list from an index on finds.

-- the index of the first item that passes, or else the length, in two ways to compute it
or_length : {X : Type 0} (p : X → Bool) (xs : List X) → unwrap_or (position p xs) (length xs) ≡ position_or_len p xs
or_length p xs = by (nat_lt (position_or_len p xs) (length xs)) refl
  where
    by : (below : Bool) → nat_lt (position_or_len p xs) (length xs) ≡ below → unwrap_or (cond below (Some (position_or_len p xs)) None)
        (length xs) ≡ position_or_len p xs
    by true is = refl
    by false is =
        let at_least : length xs ≤ position_or_len p xs = grind (arith, nat_tests, is) in
        omega (arith, at_least, prefix_len-le-length (λ x. not (p x)) xs)

-- the index of the first item that passes, or else the length, is at most the length
pub place_within : {X : Type 0} (p : X → Bool) (xs : List X) → unwrap_or (position p xs) (length xs) ≤ length xs
place_within p xs = omega (arith, or_length p xs, prefix_len-le-length (λ x. not (p x)) xs)

-- the slice from i on with all that is left is the rest of the list
pub all_left : {X : Type 0} (i : ℕ) (xs : List X) → take (length xs - i) (drop i xs) ≡ drop i xs
all_left i xs = take_all (length xs - i) (drop i xs) (omega (arith, length-drop i xs))

-- one place on is one more, however it is added
one_more : (k n : ℕ) → k + (1 + n) ≡ (k + 1) + n
one_more k n = omega arith

-- the first source from an index on that has commands
pub busy_first : (k : ℕ) (jobs : List Job) → k + unwrap_or (position busy jobs) (length jobs) ≡ first_busy k jobs
busy_first k jobs = ap (λ n. k + n) (or_length busy jobs) ∙ from k jobs
  where
    -- Plan: the code's index in the rest, and the index where the rest begins, make the index of the definition (`from`).
    from : (k : ℕ) (jobs : List Job) → k + position_or_len busy jobs ≡ first_busy k jobs
    from k [] = omega arith
    from k (job ∷ jobs) = by (none job.groups) (from (k + 1) jobs)
      where
        by : (idle : Bool) → (k + 1) + position_or_len busy jobs ≡ first_busy (k + 1) jobs
            → k + cond (not (not idle)) (1 + position_or_len busy jobs) 0 ≡ (if idle then first_busy (k + 1) jobs else k)
        by true rest = one_more k (position_or_len busy jobs) ∙ rest
        by false rest = omega arith
