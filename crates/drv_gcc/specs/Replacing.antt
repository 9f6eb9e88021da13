use Rattle.std.specs.List.{starts_with}
use Rattle.std.specs.Prelude.{◌-◌, Bool, List, [], ◌∷◌, ◌++◌, if◌then◌else◌, length, nat_eq, suc, zero, ℕ}

-- A form in a text, at each place of it from the front, in other words. So many bytes are part of the one before.
-- For clauses of src/replacing.rt and src/composing.rt.

-- the text at a place: other words where the form is, and what follows it; or this byte
abbrev pub put_other : List ℕ → (ℕ → List ℕ) → Bool → ℕ → ℕ → List ℕ
put_other other after is_here others b = if is_here then other ++ after others else b ∷ after zero

-- a text with a form in other words, everywhere; `skip` bytes are part of the form before
abbrev pub replaced : List ℕ → List ℕ → ℕ → List ℕ → List ℕ
replaced form other skip [] = []
replaced form other zero (b ∷ text) =
    put_other other (λ skip. replaced form other skip text) (starts_with nat_eq (b ∷ text) form) (length form - 1) b
replaced form other (suc skip) (b ∷ text) = replaced form other skip text
