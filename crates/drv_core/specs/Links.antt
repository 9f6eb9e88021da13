use Rattle.drv_core.specs.Events.{failed, job_of, none}
use Rattle.drv_core.specs.Windowed.{is_call_of}
use Rattle.drv_words.specs.Places.{no_job}
use Rattle.drv_words.specs.declared.plan.Job.{Job}
use Rattle.drv_words.specs.declared.plan.Plan.{Plan}
use Rattle.drv_words.specs.declared.steps.RunEvent.{RunEvent}
use Rattle.drv_words.specs.declared.steps.Step.{Step}
use Rattle.drv_words.specs.declared.steps.Step.TheVariants as step
use Rattle.std.specs.List.{flat_map, list_any}
use Rattle.std.specs.Prelude.{◌≡◌, ◌&&◌, Bool, List, [], ◌∷◌, List, None, Some, false, if◌then◌else◌, length, nat_eq, nat_lt, unwrap_or, ℕ}

-- When a source has failed, and when the linker runs (POSIX c99, "Consequences of Errors").

-- whether a step is a claim, a start or a wait of a job whose number passes
abbrev pub is_work : (ℕ → Bool) → Step → Bool
is_work p (step.Claim at) = p (job_of at)
is_work p (step.Start at from_pipe to_pipe) = p (job_of at)
is_work p (step.Wait at id) = p (job_of at)
is_work p s = false

-- of job k
abbrev pub is_work_of : ℕ → Step → Bool
is_work_of k s = is_work (λ j. nat_eq j k) s

-- whether a job failed: one of its claims, starts and waits has a code other than 0
abbrev pub job_failed : ℕ → List RunEvent → Bool
job_failed k events = list_any (λ e. is_work_of k e.step && failed e.answer) events

-- whether one of the first n jobs failed
abbrev pub some_failed : ℕ → List RunEvent → Bool
some_failed n events = list_any (λ e. is_work (λ j. nat_lt j n) e.step && failed e.answer) events

-- the link, if there is one and no source failed
abbrev pub link_run : Plan → List RunEvent → Job
link_run plan events = if some_failed (length plan.jobs) events then no_job else unwrap_or plan.link no_job

-- the claims and starts of job k in events
abbrev pub calls_of : ℕ → List RunEvent → List Step
calls_of k events = flat_map (λ e. if is_call_of k e.step then e.step ∷ [] else []) events

-- The link claims or starts something if it has a command and every source succeeded; otherwise nothing.
pub record LinksWhere (plan : Plan) (events : List RunEvent) : Type 0 where
  pub where_all : (job : Job) → plan.link ≡ Some job → none job.groups ≡ false
      → none (calls_of (length plan.jobs) events) ≡ some_failed (length plan.jobs) events
  pub without : plan.link ≡ None → calls_of (length plan.jobs) events ≡ []
