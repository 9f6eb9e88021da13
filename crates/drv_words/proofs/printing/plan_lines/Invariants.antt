use Rattle.std.proofs.Common.{◌≡◌, ◌++◌, drop}
use Rattle.std.specs.List.{flat_map}
use Rattle.drv_words.specs.Lines.{job_lines}
use Rattle.drv_words.proofs.printing.plan_lines.Given as goal

-- the lines so far, with those of the jobs that are left, are all
abbrev pub invariant-loop-job : goal.invariant-loop-job
invariant-loop-job l = l.lines ++ flat_map job_lines (drop l.job-index l.job-items) ≡ flat_map job_lines l.job-items
