use Rattle.drv_system.specs.Limit.{is_too_large}
use Rattle.drv_system.specs.declared.event.Event.{Event}
use Rattle.drv_system.specs.declared.event.PathKind.{PathKind}
use Rattle.drv_system.specs.declared.event.PathKind.TheVariants as kind
use Rattle.drv_system.specs.declared.event.ReadAnswer.{ReadAnswer}
use Rattle.drv_system.specs.declared.event.ReadAnswer.TheVariants as read
use Rattle.drv_system.specs.declared.event.TellAnswer.{TellAnswer}
use Rattle.drv_system.specs.declared.event.TellAnswer.TheVariants as tell
use Rattle.drv_words.specs.declared.answers.Answer.{Answer}
use Rattle.drv_words.specs.declared.answers.Answer.TheVariants as answer
use Rattle.drv_words.specs.declared.answers.ClaimAnswer.{ClaimAnswer}
use Rattle.drv_words.specs.declared.answers.ClaimAnswer.TheVariants as claim
use Rattle.drv_words.specs.declared.answers.RemoveAnswer.{RemoveAnswer}
use Rattle.drv_words.specs.declared.answers.RemoveAnswer.TheVariants as remove
use Rattle.drv_words.specs.declared.answers.StartAnswer.{StartAnswer}
use Rattle.drv_words.specs.declared.answers.StartAnswer.TheVariants as start
use Rattle.drv_words.specs.declared.answers.WaitAnswer.{WaitAnswer}
use Rattle.drv_words.specs.declared.answers.WaitAnswer.TheVariants as wait
use Rattle.std.specs.Cmp.Lexicographic.{pointwise}
use Rattle.std.specs.List.{list_any}
use Rattle.std.specs.Map.{lookup}
use Rattle.std.specs.Prelude.{Bool, List, None, Option, Some, drop, if◌then◌else◌, is_some, nat_eq, slice_get, unwrap_or, ℕ, ◌+◌}

-- A system that answers from lists (this project's profile).

-- Its answers: files with their bytes, or None for one that can't be read; folders; variables with their values; the answers to the steps
-- of a run; and whether messages fail.
pub record Script : Type 0 where
  pub files : List (List ℕ × Option (List ℕ))
  pub dirs : List (List ℕ)
  pub variables : List (List ℕ × List ℕ)
  pub answers : List Answer
  pub mute : Bool

-- a script, its journal, the number of children that it started, and its room for more events
pub record Scripted : Type 0 where
  pub script : Script
  pub journal : List Event
  pub children : ℕ
  pub spare_events : ℕ

-- a script has room for this many children, none of which is a process
abbrev pub script_children : ℕ
script_children = 18446744073709551615

-- how the first file of that path, if there is one, is read
abbrev pub read_as : Option (Option (List ℕ)) → ReadAnswer
read_as None = read.Missing
read_as (Some None) = read.Failed
read_as (Some (Some bytes)) = if is_too_large bytes then read.TooLarge else read.Read bytes

-- a script's answer to the read of a path
abbrev pub scripted_read : Script → List ℕ → ReadAnswer
scripted_read script path = read_as (lookup (pointwise nat_eq path) script.files)

-- its answer to the kind of a path
abbrev pub scripted_kind : Script → List ℕ → PathKind
scripted_kind script path =
    if is_some (lookup (pointwise nat_eq path) script.files) then kind.Plain
    else if list_any (pointwise nat_eq path) script.dirs then kind.Dir
    else kind.Missing

-- the value of the first variable of that name
abbrev pub scripted_variable : Script → List ℕ → Option (List ℕ)
scripted_variable script name = lookup (pointwise nat_eq name) script.variables

-- its answer to a line that is written for the user
abbrev pub scripted_telling : Script → TellAnswer
scripted_telling script = if script.mute then tell.Failed else tell.Told

-- The steps of a run. A step takes the next answer if its kind fits. Any other answer stays, and blocks the later ones.

-- the next answer, if it has that kind
abbrev pub claim_in : Option Answer → Option ClaimAnswer
claim_in (Some (answer.Claim x)) = Some x
claim_in other = None

-- an answer of a script, if it is one to a start
abbrev pub start_in : Option Answer → Option StartAnswer
start_in (Some (answer.Start x)) = Some x
start_in other = None

-- if it is one to a wait
abbrev pub wait_in : Option Answer → Option WaitAnswer
wait_in (Some (answer.Wait x)) = Some x
wait_in other = None

-- if it is one to a removal
abbrev pub removal_in : Option Answer → Option RemoveAnswer
removal_in (Some (answer.Remove x)) = Some x
removal_in other = None

-- the next answer of a script, if one is left
abbrev pub first_answer : Script → Option Answer
first_answer script = slice_get script.answers 0

-- the script after a call: an answer that was taken is gone
abbrev pub following : {X : Type 0} → Option X → Script → Script
following taken script = if is_some taken then record script { answers = drop 1 script.answers } else script

-- the answer to a claim; without one of its kind the claim succeeds
abbrev pub scripted_claim : Script → ClaimAnswer
scripted_claim script = unwrap_or (claim_in (first_answer script)) claim.Claimed

-- a started child gets the next number, from 0
abbrev pub start_numbered : ℕ → Option StartAnswer → StartAnswer
start_numbered id (Some (start.NotStarted why)) = start.NotStarted why
start_numbered id other = start.Started id

-- the answer to a start; without one of its kind it succeeds
abbrev pub scripted_start : ℕ → Script → StartAnswer
scripted_start id script = start_numbered id (start_in (first_answer script))

-- the answer to a wait; without one of its kind the child ends with 0
abbrev pub scripted_wait : Script → WaitAnswer
scripted_wait script = unwrap_or (wait_in (first_answer script)) (wait.Exit 0)

-- the answer to a removal; without one of its kind the file is removed
abbrev pub scripted_removal : Script → RemoveAnswer
scripted_removal script = unwrap_or (removal_in (first_answer script)) remove.Removed

-- the number of children after a start
abbrev pub children_after : ℕ → StartAnswer → ℕ
children_after n (start.Started id) = n + 1
children_after n (start.NotStarted why) = n
