use Rattle.drv_compile.proofs.running.prefixes_of.Goals as goal
use Rattle.std.proofs.Common.{refl}

pub returns-clause-asks : goal.returns-clause-asks
returns-clause-asks g c = record { asks = c.new.ensures.asks; same_sys = refl; same_facts = refl }
