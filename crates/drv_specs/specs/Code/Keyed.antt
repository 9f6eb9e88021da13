use Rattle.std.specs.Global.{Vec}
use Rattle.std.specs.Prelude.{List, [], ◌∷◌, None, Option, Some, ℕ}

-- How the code keeps the named texts: a map whose keys are the names, for the code alone. The entry of a deleted name has no text.
-- Names: `name` is the name of a text. `e` is an entry of the map: a key, and its text if it isn't deleted. `es` is the entries after it.

-- the texts, with that of one more entry in front, if it has one
abbrev pub with_left : List ℕ → Option (List ℕ) → List (List ℕ × List ℕ) → List (List ℕ × List ℕ)
with_left name None texts = texts
with_left name (Some text) texts = (name, text) ∷ texts

-- the named texts of a map, without the deleted ones
abbrev pub texts_left : List (Vec ℕ × Option (List ℕ)) → List (List ℕ × List ℕ)
texts_left [] = []
texts_left (e ∷ es) = with_left e.0.items e.1 (texts_left es)
