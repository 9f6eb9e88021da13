use Rattle.drv_syntax.specs.Labels.{Label, no_label}
use Rattle.drv_syntax.specs.declared.token.Token.{Token}
use Rattle.drv_syntax.specs.declared.token.TokenKind.TheVariants as kinds
use Rattle.std.specs.Prelude.{◌≡◌, ◌+◌, List, [], ◌∷◌, Some, get_or, slice_get, ⊤, ℕ}

-- Plain bytes that follow one another in the flat list of a text's parts (this project's profile).

-- the part at this place is a plain byte, and this is the byte
pub record IsByte (tokens : List Token) (labels : List Label) (place b : ℕ) : Type 0 where
  pub token : Token
  pub there : slice_get tokens place ≡ Some token
  pub plain : token.kind ≡ kinds.Plain
  pub names : (get_or labels place no_label).word ≡ b ∷ []

-- the parts from this place on are plain bytes, as many as these, and these are the bytes
abbrev pub AreBytes : List Token → List Label → ℕ → List ℕ → Type 0
AreBytes tokens labels place [] = ⊤
AreBytes tokens labels place (b ∷ bytes) = IsByte tokens labels place b × AreBytes tokens labels (place + 1) bytes
