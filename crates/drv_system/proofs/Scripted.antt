use Rattle.std.proofs.Common.{suc, zero, arith, refl, ap, sym, ◌∙◌}
use Rattle.std.proofs.lemmas.List.{drop_all}
use Rattle.std.specs.Prelude.{◌≡◌, ◌≤◌, ◌+◌, List, [], ◌∷◌, drop, length, slice_get, ℕ}

-- For `ScriptSystem`: the answers that a script has left.
-- Names: `X` is the type of the answers. `xs` is all answers of the script, and `n` how many were used.

-- no answers
abbrev the_empty : (X : Type 0) → List X
the_empty X = []

-- the first answer that is left is the n-th of all
pub front_is : {X : Type 0} (xs : List X) (n : ℕ) → slice_get (drop n xs) 0 ≡ slice_get xs n
front_is [] zero = refl
front_is [] (suc n) = refl
front_is (x ∷ xs) zero = refl
front_is (x ∷ xs) (suc n) = front_is xs n

-- of an empty list nothing is left, however many are dropped
nothing_left : {X : Type 0} (n : ℕ) → drop n (the_empty X) ≡ the_empty X
nothing_left zero = refl
nothing_left (suc n) = refl

-- one more, in either order
next : (n : ℕ) → suc n + 1 ≡ suc (n + 1)
next n = omega arith

-- to use one more is to leave the rest without its first
pub one_less : {X : Type 0} (xs : List X) (n : ℕ) → drop (n + 1) xs ≡ drop 1 (drop n xs)
one_less {X} [] n = nothing_left (n + 1) ∙ ap (λ ys. drop 1 ys) (sym (nothing_left n))
one_less (x ∷ xs) zero = refl
one_less (x ∷ xs) (suc n) = ap (λ k. drop k (x ∷ xs)) (next n) ∙ one_less xs n

-- past the end of a list to drop one more changes nothing
pub none_less : {X : Type 0} (xs : List X) (n : ℕ) → length xs ≤ n → drop n xs ≡ drop 1 (drop n xs)
none_less xs n past = drop_all n xs past ∙ ap (λ ys. drop 1 ys) (sym (drop_all n xs past))
