use Rattle.drv_words.specs.declared.plan.Command.{Command}
use Rattle.drv_words.specs.declared.plan.Job.{Job}
use Rattle.drv_words.specs.declared.plan.Plan.{Plan}
use Rattle.drv_words.specs.declared.plan.Temp.{Temp}
use Rattle.std.specs.Prelude.{◌<◌, ◌^◌, List, [], ◌∷◌, None, Option, Some, ⊤, ℕ}

-- The numbers of a plan are those of a machine: bytes below 256, places below 2^64. Every plan of a program is such.
-- For clauses of src/json_form.rt.

-- each of a list is such
abbrev pub Each : {A : Type 0} → (A → Type 0) → List A → Type 0
Each P [] = ⊤
Each P (x ∷ xs) = P x × Each P xs

-- what is there is such, if anything is
abbrev pub Maybe : {A : Type 0} → (A → Type 0) → Option A → Type 0
Maybe P None = ⊤
Maybe P (Some x) = P x

-- a number fits a place of the machine
abbrev pub IsNumber : ℕ → Type 0
IsNumber n = n < 2 ^ 64

-- the numbers of a word are bytes
abbrev pub IsWord : List ℕ → Type 0
IsWord = Each (λ byte. byte < 256)

-- the words of a command are of bytes
abbrev pub IsCommand : Command → Type 0
IsCommand command = IsWord command.program × Each IsWord command.words

-- the path and contents of a temporary are of bytes
abbrev pub IsTemp : Temp → Type 0
IsTemp temp = IsWord temp.path × IsWord temp.contents

-- the numbers and words of a job fit
pub record IsJob (job : Job) : Type 0 where
  pub source : Maybe IsNumber job.source
  pub groups : Each (Each IsCommand) job.groups
  pub temps : Each IsTemp job.temps
  pub marked : Each IsWord job.marked
  pub on_failure : Each IsWord job.on_failure
  pub output : Maybe IsWord job.output

-- the numbers and words of a plan fit: then what its JSON shows is that plan again
pub record IsPlan (plan : Plan) : Type 0 where
  pub notices : Each IsWord plan.notices
  pub jobs : Each IsJob plan.jobs
  pub link : Maybe IsJob plan.link
