use Rattle.std.specs.Prelude.{◌/◌, List, [], ◌∷◌, drop, length, take, ℕ}

-- Words of which a program refuses some are found by asking it of many at once: where it refuses these, one of them is found, and of
-- several each half is asked.
-- For clauses of src/halving.rt.

-- the word that is found where a program refuses just one; none where it refuses several
abbrev pub alone : List (List ℕ) → List (List ℕ)
alone (word ∷ []) = word ∷ []
alone _ = []

-- the words that are asked first
abbrev pub first_half : List (List ℕ) → List (List ℕ)
first_half words = take (length words / 2) words

-- the words that are asked after these
abbrev pub second_half : List (List ℕ) → List (List ℕ)
second_half words = drop (length words / 2) words

-- what is asked next where several words are refused: each half of them
abbrev pub halves : List (List ℕ) → List (List (List ℕ))
halves (one ∷ other ∷ words) = first_half (one ∷ other ∷ words) ∷ second_half (one ∷ other ∷ words) ∷ []
halves _ = []
