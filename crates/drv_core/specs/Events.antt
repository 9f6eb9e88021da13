use Rattle.drv_words.specs.declared.answers.Answer.{Answer}
use Rattle.drv_words.specs.declared.answers.Answer.TheVariants as answer
use Rattle.drv_words.specs.declared.answers.ClaimAnswer.{ClaimAnswer}
use Rattle.drv_words.specs.declared.answers.ClaimAnswer.TheVariants as claim
use Rattle.drv_words.specs.declared.answers.RemoveAnswer.{RemoveAnswer}
use Rattle.drv_words.specs.declared.answers.RemoveAnswer.TheVariants as remove
use Rattle.drv_words.specs.declared.answers.StartAnswer.{StartAnswer}
use Rattle.drv_words.specs.declared.answers.StartAnswer.TheVariants as start
use Rattle.drv_words.specs.declared.answers.WaitAnswer.{WaitAnswer}
use Rattle.drv_words.specs.declared.answers.WaitAnswer.TheVariants.{Exit, Lost, Signal}
use Rattle.drv_words.specs.declared.steps.Note.{Note}
use Rattle.drv_words.specs.declared.steps.Place.{Place}
use Rattle.drv_words.specs.declared.steps.Place.TheVariants as place
use Rattle.drv_words.specs.declared.steps.RunEvent.{RunEvent}
use Rattle.drv_words.specs.declared.steps.Step.{Step}
use Rattle.drv_words.specs.declared.steps.Step.TheVariants as step
use Rattle.std.specs.List.{flat_map}
use Rattle.std.specs.Prelude.{Bool, List, [], ◌∷◌, false, if◌then◌else◌, suc, true, zero, ℕ}

-- Words for events.

-- events that belong together: no event of another source comes between them
abbrev pub Block : Type 0
Block = List RunEvent

-- the events of blocks
abbrev pub events_of : List Block → List RunEvent
events_of blocks = flat_map (λ b. b) blocks

-- a step and its answer
abbrev pub event : Step → Answer → RunEvent
event q x = record { step = q; answer = x }

abbrev pub claims : Place → ClaimAnswer → RunEvent
claims p x = record { step = step.Claim p; answer = answer.Claim x }

abbrev pub starts : Place → Bool → Bool → StartAnswer → RunEvent
starts p from_pipe to_pipe x = record { step = step.Start p from_pipe to_pipe; answer = answer.Start x }

abbrev pub waits : Place → ℕ → WaitAnswer → RunEvent
waits p id x = record { step = step.Wait p id; answer = answer.Wait x }

abbrev pub removes : Place → RemoveAnswer → RunEvent
removes p x = record { step = step.Remove p; answer = answer.Remove x }

-- a report; told: whether it was written
abbrev pub reports : Note → Bool → RunEvent
reports n told = record { step = step.Report n; answer = answer.Reported told }

abbrev pub closes : RunEvent
closes = record { step = step.ClosePipe; answer = answer.Closed }

-- whether a number is not 0
abbrev pub positive : ℕ → Bool
positive zero = false
positive (suc n) = true

-- whether a list is empty
abbrev pub none : {X : Type 0} → List X → Bool
none [] = true
none (x ∷ xs) = false

-- whether a claim succeeded
abbrev pub is_claimed : ClaimAnswer → Bool
is_claimed claim.Claimed = true
is_claimed claim.Taken = false
is_claimed claim.Failed = false

-- whether a start succeeded
abbrev pub is_started : StartAnswer → Bool
is_started (start.Started id) = true
is_started (start.NotStarted why) = false

-- the code of a command that has ended
abbrev pub code_of : WaitAnswer → ℕ
code_of (Exit n) = n
code_of Signal = 1
code_of Lost = 1

-- the code of an answer: 1 for a failed claim or start, and a child's own code
abbrev pub answer_code : Answer → ℕ
answer_code (answer.Claim x) = if is_claimed x then 0 else 1
answer_code (answer.Start x) = if is_started x then 0 else 1
answer_code answer.Closed = 0
answer_code (answer.Wait x) = code_of x
answer_code (answer.Remove x) = 0
answer_code (answer.Reported t) = 0

-- whether an answer is a failure: its code is not 0
abbrev pub failed : Answer → Bool
failed x = positive (answer_code x)

-- whether a removal failed; a file that isn't there, or is no plain file, is no failure
abbrev pub removal_failed : RemoveAnswer → Bool
removal_failed remove.Removed = false
removal_failed remove.Missing = false
removal_failed remove.NotPlain = false
removal_failed remove.Failed = true

-- the job of a place
abbrev pub job_of : Place → ℕ
job_of (place.Command k g i) = k
job_of (place.Temp k i) = k
job_of (place.Marked k i) = k
job_of (place.OnFailure k i) = k

-- the job of a step that has a place
abbrev pub source_of : Step → ℕ
source_of (step.Claim p) = job_of p
source_of (step.Start p from_pipe to_pipe) = job_of p
source_of step.ClosePipe = 0
source_of (step.Wait p id) = job_of p
source_of (step.Remove p) = job_of p
source_of (step.Report n) = 0
