use Rattle.drv_system.specs.Running.{is_child_open, run_of}
use Rattle.drv_system.specs.declared.event.Event.{Event}
use Rattle.drv_words.specs.Places.{is_command, is_file, is_note, is_temp}
use Rattle.drv_words.specs.Stepping.{pipe_pending}
use Rattle.drv_words.specs.declared.plan.Plan.{Plan}
use Rattle.drv_words.specs.declared.steps.Step.{Step}
use Rattle.drv_words.specs.declared.steps.Step.TheVariants as step
use Rattle.std.specs.Prelude.{◌≡◌, List, true}

-- The conditions of a step after a journal, as the system has them. Only private clauses cite it.
-- Names: `plan` is the plan. `journal` is the events so far. `p` is the place of a job's command or file in the plan. `id` is the number of
-- a child.
abbrev pub CanMake : Plan → List Event → Step → Type 0
CanMake plan journal (step.Claim p) = is_temp plan p ≡ true
CanMake plan journal (step.Start p from_pipe to_pipe) = (is_command plan p ≡ true) × (from_pipe ≡ pipe_pending (run_of journal))
CanMake plan journal step.ClosePipe = pipe_pending (run_of journal) ≡ true
CanMake plan journal (step.Wait p id) = is_child_open p id journal ≡ true
CanMake plan journal (step.Remove p) = is_file plan p ≡ true
CanMake plan journal (step.Report n) = is_note plan n ≡ true
