use Rattle.drv_machine.specs.declared.walk.Walk.{Walk}
use Rattle.drv_syntax.specs.Parsed.{tree_of}
use Rattle.drv_syntax.specs.Tokens.{tokens_of}
use Rattle.drv_syntax.specs.declared.token.Token.{Token}
use Rattle.drv_syntax.specs.declared.token.TokenKind.TheVariants as kinds
use Rattle.std.specs.Prelude.{◌≡◌, ◌<◌, List, Some, slice_get, ℕ}

-- Plain bytes that follow one another. For `work_run` (src/turns.rt) alone.

-- the part at the place that is reached is a plain byte
pub record AtByte (text : List ℕ) (w : Walk) : Type 0 where
  pub before_end : w.at < w.end
  pub token : Token
  pub there : slice_get (tokens_of (tree_of text)) w.at ≡ Some token
  pub plain : token.kind ≡ kinds.Plain
