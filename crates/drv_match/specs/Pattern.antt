use Rattle.std.specs.Prelude.{Bool, List, ℕ}

-- A pattern of a spec text. It names the switches with its name or, with a star, those whose names begin with it (GCC manual, "Spec Files",
-- `%{S:X}` and `%{S*:X}`).
pub record Pattern : Type 0 where
  pub name : List ℕ
  pub star : Bool
