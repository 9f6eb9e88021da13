use Rattle.drv_forms.specs.Script.{first_path}
use Rattle.std.proofs.Common.{◌≡◌, drop}
use Rattle.drv_forms.proofs.stems.first_path.Given as goal

abbrev pub invariant-loop-job : goal.invariant-loop-job
invariant-loop-job l = first_path (drop l.job-index l.jobs) ≡ first_path l.jobs
