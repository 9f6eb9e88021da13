use Rattle.drv_syntax.specs.Code.Tokens.{plain_tokens}
use Rattle.drv_syntax.specs.declared.token.Token.{Token}
use Rattle.drv_syntax.specs.declared.token.TokenKind.TheVariants as kinds
use Rattle.std.proofs.Common.{◌≡◌, ◌∙◌, ◌+◌, ◌<◌, ◌++◌, List, [], ◌∷◌, ap, append_assoc, drop, length, sym, ℕ}
use Rattle.std.proofs.lemmas.List.{drop_more}

-- The tokens of plain bytes. It serves `Tokens::push_run`.
-- Names: `run`: bytes of one class that follow one another.

-- a step of the loop of `push_plains` keeps the list of tokens that the loop leads to
pub tokens_step : (old new all : List Token) (n next i : ℕ) (run : List ℕ) → i < length run
    → new ≡ old ++ record { kind = kinds.Plain; start = n; end = n + 1; next = next + 1 } ∷ []
    → old ++ plain_tokens n (next + 1) (drop i run) ≡ all → new ++ plain_tokens (n + 1) (next + 1 + 1) (drop (i + 1) run) ≡ all
tokens_step old new all n next i run h e f =
    ap (λ (ts : List Token). ts ++ plain_tokens (n + 1) (next + 1 + 1) (drop (i + 1) run)) e
    ∙ append_assoc old (record { kind = kinds.Plain; start = n; end = n + 1; next = next + 1 } ∷ [])
    (plain_tokens (n + 1) (next + 1 + 1) (drop (i + 1) run))
    ∙ ap (λ (bs : List ℕ). old ++ plain_tokens n (next + 1) bs) (sym (drop_more run i 0 h))
    ∙ f
