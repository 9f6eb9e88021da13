use Rattle.drv_check.proofs.CheckedWhole.{checks_files}
use Rattle.drv_check.proofs.checking.check_files.Goals as goal
use Rattle.drv_system.proofs.AskedCalls.{extends_before}
use Rattle.drv_system.proofs.Asking.{asks_then}
use Rattle.drv_system.specs.Asking.{Extends}
use Rattle.std.proofs.Common.{[], refl, rules}

-- Names: `F`: what is known of the outside. `e`: that `F` extends the facts of this call. `checks_files`: the prefixes that the call finds
-- are those of the definition. `extends_before`: what extends the facts after a call extends those before it.

pub returns-clause-asks : goal.returns-clause-asks
returns-clause-asks g c = let asks = asks_then c.new.ensures.asks c.check_over.ensures.asks.asks in search rules

pub returns-clause-checks : goal.returns-clause-checks
returns-clause-checks g c F e =
    let known : Extends c.check_over.new.outside.facts.now F = search rules in
    checks_files F c.in_ok-prefixes.prefixes c.args.check.now.whose c.args.check.now.over.now c.args.check.now.names.now []
    c.check_over.result refl
    (c.in_ok-prefixes.ensures.prefixes F (extends_before c.check_over.ensures.asks known)) (c.check_over.ensures.checks F known)
