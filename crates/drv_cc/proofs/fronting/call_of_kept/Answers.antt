use Rattle.drv_cc.proofs.Staying.{all_called}
use Rattle.drv_cc.proofs.fronting.call_of_kept.Goals as goal
use Rattle.drv_cc.specs.Front.{run_of}
use Rattle.std.proofs.Common.{◌≡◌, ◌∙◌, IfOk}
use Rattle.std.proofs.Math.Path.{subst}

-- Names: `run_of`: the answer for a line that is carried out.

pub returns-then-branch : goal.returns-then-branch
returns-then-branch c =
    all_called c.args.around.now c.args.items.now _ c.call_of.result c.in_ok-do_all_stay.ensures c.if-branch.true c.call_of.ensures

pub returns : goal.returns
returns c = subst (λ items. IfOk c.call_of-2.result (λ answer. answer ≡ run_of c.args.around.now items))
    (c.as_slice.ensures ∙ c.in_ok-kept.ensures) c.call_of-2.ensures
