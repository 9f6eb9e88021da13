use Rattle.drv_syntax.proofs.Messages.{end_changed}
use Rattle.drv_syntax.proofs.descent.tokens.Tokens.end_last.Goals as goal
use Rattle.drv_syntax.specs.Code.Messages.{ended, with_last}
use Rattle.std.proofs.Common.{◌-◌, ◌∙◌, ap, arith}

-- Names: `end_changed`: tokens with one in the place of the last that ends elsewhere (`end_last`). `ended`: a token that ends at this
-- place.

-- the last token has this place as its end
pub returns-then-count-ne0 : goal.returns-then-count-ne0
returns-then-count-ne0 c =
    end_changed c.self.inside.list.items c.index-token.result.now (c.len-count.result - 1) c.args.end
    (omega (arith, c.if-count-ne0.true, c.len-count.ensures, c.self.inside.list.ok.0)) c.index-token.ensures
    ∙ ap (λ ts. with_last (λ token. ended token c.args.end) ts) c.self.view_is
