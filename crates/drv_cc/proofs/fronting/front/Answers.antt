use Rattle.drv_cc.proofs.fronting.front.Goals as goal
use Rattle.drv_cc.specs.Front.{answer_of}
use Rattle.std.proofs.Common.{◌≡◌, ◌∙◌, IfOk}
use Rattle.std.proofs.Math.Path.{subst}

pub returns : goal.returns
returns c = subst (λ items. IfOk c.answer_of.result (λ answer. answer ≡ answer_of c.args.named.now c.args.around.now items))
    (c.as_slice.ensures ∙ c.in_ok-items.ensures) c.answer_of.ensures
