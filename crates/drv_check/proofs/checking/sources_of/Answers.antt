use Rattle.drv_check.proofs.CheckedWhole.{opens_sources}
use Rattle.drv_check.proofs.checking.sources_of.Goals as goal
use Rattle.drv_system.proofs.AskedCalls.{extends_before}
use Rattle.drv_system.proofs.Asking.{asks_then}
use Rattle.drv_system.specs.Asking.{Extends}
use Rattle.std.proofs.Common.{rules}

-- Names: `F`: what is known of the outside. `e`: that `F` extends the facts of this call. `opens_sources`: the prefixes that the call finds
-- are those of the definition. `extends_before`: what extends the facts after a call extends those before it.

pub returns-clause-asks : goal.returns-clause-asks
returns-clause-asks g c = let asks = asks_then c.new.ensures.asks c.sources_found.ensures.asks.asks in search rules

pub returns-clause-opens : goal.returns-clause-opens
returns-clause-opens g c F e =
    let known : Extends c.sources_found.new.outside.facts.now F = search rules in
    opens_sources F c.in_ok-found.found c.args.prefixes.now c.args.names.now c.sources_found.result
    (c.in_ok-found.ensures.prefixes F (extends_before c.sources_found.ensures.asks known)) (c.sources_found.ensures.opens F known)
