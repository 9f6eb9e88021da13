use Rattle.drv_check.proofs.CheckedWhole.{sources_opened}
use Rattle.drv_check.proofs.checking.sources_found.Goals as goal

-- Names: `F`: what is known of the outside. `e`: that `F` extends the facts of this call. `sources_opened`: a check over the built-in set
-- opens the files of the definition.

pub returns-clause-opens : goal.returns-clause-opens
returns-clause-opens g c F e =
    sources_opened F c.args.search.now.prefixes.now c.args.names.now c.in_ok-set.set c.unchecked_over-checking.result
    c.check_all.new.checking c.in_ok-set.ensures c.unchecked_over-checking.ensures (c.in_ok-check_all.ensures.checks F e)
