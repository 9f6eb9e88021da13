use Rattle.drv_words.specs.Bytes.{newline}
use Rattle.std.proofs.Common.{◌≡◌, List, [], ◌∷◌, ◌++◌, ap, drop, flat_map, refl, ℕ}
use Rattle.std.proofs.lemmas.List.{append-nil}
use Rattle.std.specs.List.{join_with_byte}

-- For the reading of a file: the body of an entry. The code cuts it out as a slice with a newline before each line, without the first
-- newline.
-- Names: `lines` is the lines of a body, and `first` the first of them. `join_with_byte newline` puts a newline between each two.

-- lines after newlines, without the first newline
lines_joined : (first : List ℕ) (lines : List (List ℕ))
    → first ++ flat_map (λ line. newline ∷ line) lines ≡ join_with_byte newline (first ∷ lines)
lines_joined first [] = append-nil first
lines_joined first (line ∷ lines) = ap (λ rest. first ++ newline ∷ rest) (lines_joined line lines)

-- lines with a newline before each, without the first newline, are the lines joined by newlines
pub joined_lines : (lines : List (List ℕ)) → drop 1 (flat_map (λ line. newline ∷ line) lines) ≡ join_with_byte newline lines
joined_lines [] = refl
joined_lines (line ∷ lines) = lines_joined line lines
