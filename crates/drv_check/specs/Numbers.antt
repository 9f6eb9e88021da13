use Rattle.drv_check.specs.declared.pieces.Piece.{Piece}
use Rattle.drv_specs.specs.Directives.{Bad, Directive, read_settled}
use Rattle.drv_specs.specs.Lines.{settle}
use Rattle.std.specs.Prelude.{◌≡◌, List, [], ◌∷◌, ⊤, ℕ}

-- What a piece is: a directive, alone. A line that is none has its number in the file.
-- For the laws of src/laws.rt.

-- a line that is no directive, with this number; another directive has none
abbrev pub renumbered : ℕ → Directive → Directive
renumbered n (Bad m) = Bad n
renumbered n directive = directive

-- a piece is this directive: the only one of its text, of which reading leaves all, and with its number
pub record IsRead (piece : Piece) (directive : Directive) : Type 0 where
  pub settled : settle piece.text ≡ piece.text
  pub alone : read_settled piece.text ≡ renumbered 1 directive ∷ []
  pub here : directive ≡ renumbered piece.number directive

-- pieces are these directives, one by one: so the check reads a file as the driver does
abbrev pub AreRead : List Piece → List Directive → Type 0
AreRead [] [] = ⊤
AreRead [] (directive ∷ directives) = ⊥
AreRead (piece ∷ pieces) [] = ⊥
AreRead (piece ∷ pieces) (directive ∷ directives) = IsRead piece directive × AreRead pieces directives
