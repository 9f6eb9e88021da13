use Rattle.drv_forms.specs.Script.{job_text}
use Rattle.std.proofs.Common.{◌≡◌, ◌++◌, drop}
use Rattle.std.specs.List.{flat_map}
use Rattle.drv_forms.proofs.scripting.push_jobs.Given as goal

abbrev pub invariant-loop-job : goal.invariant-loop-job
invariant-loop-job l =
    l.text.items ++ flat_map (job_text l.stem) (drop l.job-index l.jobs)
    ≡ l.fn.text.items ++ flat_map (job_text l.stem) l.jobs
