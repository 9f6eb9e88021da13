use Rattle.drv_words.specs.Places.{group_at, job_at}
use Rattle.drv_words.specs.declared.plan.Plan.{Plan}
use Rattle.drv_words.specs.declared.plan.Job.{Job}
use Rattle.std.specs.Prelude.{◌<◌, length, ℕ}

-- No group is empty. The type `Group` ensures that, but laws speak of a plan as a value, so they may require it.

-- each group of the job has a command
abbrev pub Filled : Job → Type 0
Filled job = (g : ℕ) → g < length job.groups → 0 < length (group_at job g)

-- each job is so
abbrev pub AllFilled : Plan → Type 0
AllFilled plan = (k : ℕ) → Filled (job_at plan k)
