use Rattle.drv_check.proofs.CheckedWhole.{over_checked}
use Rattle.drv_check.proofs.checking.check_over.Goals as goal
use Rattle.drv_system.proofs.AskedCalls.{extends_before}

-- Names: `F`: what is known of the outside. `e`: that `F` extends the facts of this call. `over_checked`: the files of the call are checked
-- over these. `extends_before`: what extends the facts after a call extends those before it.

pub returns-clause-checks : goal.returns-clause-checks
returns-clause-checks g c F e =
    over_checked F c.args.prefixes.now c.args.files.now.whose c.args.files.now.over.now c.args.files.now.names.now c.in_ok-set.set
    c.unchecked_over-checking.result c.check_all.new.checking c.check_all-2.new.checking c.judge.new.checking c.in_ok-set.ensures
    c.unchecked_over-checking.ensures (c.in_ok-check_all.ensures.checks F (extends_before c.check_all-2.ensures.asks e))
    (c.in_ok-check_all-2.ensures.checks F e) c.in_ok-judge.ensures
