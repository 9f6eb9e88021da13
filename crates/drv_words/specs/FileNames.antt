use Rattle.drv_words.specs.Bytes.{period, slash}
use Rattle.std.specs.Prelude.{◌==◌, List, [], ◌∷◌, Option, None, Some, if◌then◌else◌, ℕ}

-- The parts of a file's name (GCC manual, "Spec Files": `%b`, `%B`; "Overall Options", -dumpbase).

-- the bytes before the last byte of a kind, and those after it, if there is one
abbrev pub split_at_last : ℕ → List ℕ → Option (List ℕ × List ℕ)
split_at_last mark [] = None
split_at_last mark (b ∷ bs) = by (split_at_last mark bs)
  where
    by : Option (List ℕ × List ℕ) → Option (List ℕ × List ℕ)
    by (Some parts) = Some (b ∷ parts.0, parts.1)
    by None = if b == mark then Some ([], bs) else None

-- a name without its folder: the part after its last slash
abbrev pub base : List ℕ → List ℕ
base name = by (split_at_last slash name)
  where
    by : Option (List ℕ × List ℕ) → List ℕ
    by None = name
    by (Some parts) = parts.1

-- the parts before and after the last period of a name without its folder; a leading period doesn't count
abbrev pub split_suffix : List ℕ → Option (List ℕ × List ℕ)
split_suffix name = by (split_at_last period (base name))
  where
    by : Option (List ℕ × List ℕ) → Option (List ℕ × List ℕ)
    by None = None
    by (Some ([], suffix)) = None
    by (Some (b ∷ bs, suffix)) = Some (b ∷ bs, suffix)

-- a name without its folder and its suffix
abbrev pub stem : List ℕ → List ℕ
stem name = by (split_suffix name)
  where
    by : Option (List ℕ × List ℕ) → List ℕ
    by None = base name
    by (Some parts) = parts.0
