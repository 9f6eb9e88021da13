use Rattle.std.proofs.Common.{◌≡◌, ◌∙◌, List, ◌++◌, ap, append_assoc}

-- For functions that add lists one after the other (src/environment.rt, src/wrapping.rt).
-- Names: `old` is what was there. `first`, `second` and `third` are what there is after each of the lists `a`, `b` and `c`.

-- Two lists that are added one after the other are added as one.
pub two_added : {T : Type 0} (old first second a b : List T) → first ≡ old ++ a → second ≡ first ++ b → second ≡ old ++ (a ++ b)
two_added old first second a b one two = two ∙ ap (λ xs. xs ++ b) one ∙ append_assoc old a b

-- Three lists that are added one after the other are added as one.
pub three_added : {T : Type 0} (old first second third a b c : List T) → first ≡ old ++ a → second ≡ first ++ b → third ≡ second ++ c
    → third ≡ old ++ ((a ++ b) ++ c)
three_added old first second third a b c one two three = two_added old second third (a ++ b) c (two_added old first second a b one two) three
