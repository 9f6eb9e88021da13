use Rattle.drv_args.specs.Expansion.{Expands}
use Rattle.drv_compile.proofs.Worded.{args_told}
use Rattle.drv_compile.proofs.expanding.expansion.Goals as goal
use Rattle.drv_compile.specs.Words.{stop_of, within_limit}
use Rattle.std.proofs.Common.{◌≡◌, ◌∙◌, Err, Ok, ap, subst}
use Rattle.std.specs.List.{each_same}

-- Names: `F`: what is known of the outside. `e`: that `F` extends the facts of this call. `args_told`: `expansion` tells the refusal of the
-- driver's words, unless memory lacked. `stop_of`: how a call ends before its work that the driver would end so.

pub returns-in-Ok-clause-gives : goal.returns-in-Ok-clause-gives
returns-in-Ok-clause-gives g c F e =
    let same : c.in_ok-args.args ≡ c.args.args.now = each_same _ _ c.in_ok-args.ensures.cases in
    subst (λ a. Expands (within_limit F) 2000 a (Ok c.in-Ok.expanded)) same (c.in-Ok.ensures.expands F e)

-- a file can't be expanded: the call ends as the driver ends for it
pub returns-in_ok-stop-in-Err-clause-gives : goal.returns-in_ok-stop-in-Err-clause-gives
returns-in_ok-stop-in-Err-clause-gives g c F e =
    let same : c.in_ok-args.args ≡ c.args.args.now = each_same _ _ c.in_ok-args.ensures.cases in
    args_told F c.args.name.now c.args.args.now c.in-Err.fault c.in_ok-stop-in-Err.stop
    (c.in_ok-stop-in-Err.ensures ∙ ap (stop_of c.args.name.now) c.from.ensures)
    (subst (λ a. Expands (within_limit F) 2000 a (Err c.in-Err.fault)) same (c.in-Err.ensures.expands F e))
