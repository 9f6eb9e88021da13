use Rattle.drv_match.specs.Matching.{is_live, name_at}
use Rattle.drv_match.specs.Order.{IsBlock, IsOrder}
use Rattle.drv_match.specs.Pattern.{Pattern}
use Rattle.std.specs.Prelude.{◌≡◌, ◌&&◌, ◌<◌, ◌==◌, ◌∷◌, Bool, List, None, Option, Some, false, get_or, if◌then◌else◌, length, slice_range}
use Rattle.std.specs.Prelude.{true, ℕ}
use Rattle.std.specs.Str.{byte}

-- What the code computes once for a line. Only private clauses cite it.

-- for each switch, whether it is live
pub record IsLiveness (names : List (List ℕ)) (live : List Bool) : Type 0 where
  pub as_many : length live ≡ length names
  pub at : (i : ℕ) → i < length names → get_or live i false ≡ is_live names i

-- the order of the names, and which switches are live
pub record IsIndex (names : List (List ℕ)) (order : List ℕ) (live : List Bool) : Type 0 where
  pub in_order : IsOrder names order
  pub by_rule : IsLiveness names live

-- The places that a pattern names, by name, then by place. `order` is the places by name. The pattern names those from `start` to before
-- `end` (`block`), which are the `places` (`part`).
pub record AreNamed (names : List (List ℕ)) (pattern : Pattern) (places : List ℕ) : Type 0 where
  pub order : List ℕ
  pub start : ℕ
  pub end : ℕ
  pub in_order : IsOrder names order
  pub block : IsBlock names order pattern start end
  pub part : places ≡ slice_range order start end

-- the name without `no-`, if it is a negative form
abbrev pub positive : List ℕ → Option (List ℕ)
positive (letter ∷ n ∷ o ∷ dash ∷ rest) = if n == byte "n" && o == byte "o" && dash == byte "-" then Some (letter ∷ rest) else None
positive _ = None

-- the place of the last name that passes a test, or 0 if none does
pub record IsLast (test : List ℕ → Bool) (names : List (List ℕ)) (place : ℕ) : Type 0 where
  pub none_after : (i : ℕ) → place < i → i < length names → test (name_at names i) ≡ false
  pub within : 0 < place → place < length names
  pub passes : 0 < place → test (name_at names place) ≡ true
