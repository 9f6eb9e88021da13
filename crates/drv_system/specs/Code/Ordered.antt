use Rattle.drv_system.specs.Facts.{answer_to, with_pair}
use Rattle.std.specs.Cmp.Lexicographic.{pointwise}
use Rattle.std.specs.Map.{lookup}
use Rattle.std.specs.Prelude.{◌≡◌, List, [], ◌∷◌, nat_eq, ℕ}

-- A table of answers in the order in which they were given, as a finite map. Only the model of the facts cites it.

-- the pairs, put into a map one by one
abbrev pub in_order_from : {Y : Type 0} → List (List ℕ × Y) → List (List ℕ × Y) → List (List ℕ × Y)
in_order_from done [] = done
in_order_from done (pair ∷ pairs) = in_order_from (with_pair done pair.0 pair.1) pairs

-- the pairs, ordered by their keys
abbrev pub in_order : {Y : Type 0} → List (List ℕ × Y) → List (List ℕ × Y)
in_order pairs = in_order_from [] pairs

-- the table answers as the finite map
abbrev pub SameAnswers : {Y : Type 0} → List (List ℕ × Y) → Type 0
SameAnswers pairs = (key : List ℕ) → lookup (pointwise nat_eq key) pairs ≡ answer_to (in_order pairs) key
