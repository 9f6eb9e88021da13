use Rattle.drv_syntax.specs.declared.token.Token.{Token}
use Rattle.drv_syntax.specs.declared.token.TokenKind.TheVariants as kinds
use Rattle.drv_syntax.specs.declared.token.TokenKind.{TokenKind}
use Rattle.std.specs.Prelude.{◌+◌, List, [], ◌∷◌, ℕ}

-- Tokens as they are put. For the clauses of src/descent/tokens.rt, and for Lists and Tests here.

-- a part that opens here, with places to be filled in
abbrev pub open_token : TokenKind → ℕ → Token
open_token kind start = record { kind = kind; start = start; end = start; next = 0 }

-- a part that is whole, and the place in the list after those inside it
abbrev pub whole_token : TokenKind → ℕ → ℕ → ℕ → Token
whole_token kind start end next = record { kind = kind; start = start; end = end; next = next }

-- plain bytes, the first of them at the place n, with the place in the list after it
abbrev pub plain_tokens : ℕ → ℕ → List ℕ → List Token
plain_tokens n next [] = []
plain_tokens n next (b ∷ run) = whole_token kinds.Plain n (n + 1) next ∷ plain_tokens (n + 1) (next + 1) run
