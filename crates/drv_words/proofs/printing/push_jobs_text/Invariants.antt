use Rattle.std.proofs.Common.{◌≡◌, ◌++◌, drop}
use Rattle.std.specs.List.{flat_map}
use Rattle.drv_words.specs.Lines.{job_lines}
use Rattle.drv_words.specs.Printed.{lines_text}
use Rattle.drv_words.proofs.printing.push_jobs_text.Given as goal

-- the text so far, with that of the jobs that are left, is that before and of all jobs
abbrev pub invariant-loop-job : goal.invariant-loop-job
invariant-loop-job l = l.text.items ++ lines_text (flat_map job_lines (drop l.job-index l.jobs)) ≡ l.fn.text.items ++ lines_text
    (flat_map job_lines l.jobs)
