use Rattle.drv_core.proofs.Fleets.{Made}
use Rattle.drv_core.proofs.fleet.sources_of.Given as goal

-- so many sources are made
abbrev pub invariant-loop-job : goal.invariant-loop-job
invariant-loop-job l = Made l.jobs l.sources.items l.job-index
