use Rattle.drv_run.specs.Drives.{Drives, Refuses}
use Rattle.drv_run.specs.Executed.{Executed}
use Rattle.drv_run.specs.declared.ending.Ending.TheVariants.{Done, OutOfMemory, Refused}
use Rattle.drv_run.specs.declared.ending.Ending.{Ending}
use Rattle.drv_run.specs.declared.work.Manner.{Manner}
use Rattle.drv_run.specs.declared.work.Telling.TheVariants.{Commands, Notices}
use Rattle.drv_run.specs.declared.work.Telling.{Telling}
use Rattle.drv_run.specs.declared.work.Work.TheVariants.{CarryOut, Dump, Show}
use Rattle.drv_run.specs.declared.work.Work.{Work}
use Rattle.drv_system.specs.Asking.{AreNew}
use Rattle.drv_system.specs.Facts.{Facts, learn, no_facts}
use Rattle.drv_system.specs.Running.{run_of}
use Rattle.drv_system.specs.declared.event.Event.TheVariants.{Put, Say}
use Rattle.drv_system.specs.declared.event.Event.{Event}
use Rattle.drv_system.specs.declared.event.TellAnswer.TheVariants.{Failed, Told}
use Rattle.drv_system.specs.declared.event.TellAnswer.{TellAnswer}
use Rattle.drv_words.specs.Bytes.{newline}
use Rattle.drv_words.specs.Lines.{lines_of}
use Rattle.drv_words.specs.Printed.{lines_text}
use Rattle.drv_words.specs.declared.plan.Plan.{Plan}
use Rattle.std.specs.List.{flat_map}
use Rattle.std.specs.Prelude.{◌≡◌, List, [], ◌∷◌, ◌++◌, codes, ℕ, ⊤}

-- What a call of the driver does (GCC manual, "Overall Options", -v, -###, -dumpspecs, -pass-exit-codes): what follows its questions in the
-- journal, and its ending.

-- the exit status after a text was said or put
abbrev pub status_of : TellAnswer → ℕ
status_of Told = 0
status_of Failed = 1

-- what the user reads, each on a line of its own after the program's name
abbrev pub notice_line : List ℕ → List ℕ → List ℕ
notice_line name notice = name ++ codes ": " ++ notice ++ newline ∷ []

-- the notices, each on a line
abbrev pub notices_text : List ℕ → List (List ℕ) → List ℕ
notices_text name = flat_map (notice_line name)

-- a text is printed by one event; an empty text by none. The status is that of the answer.
abbrev pub Says : List ℕ → ℕ → List Event → Type 0
Says [] status said = (status ≡ 0) × (said ≡ [])
Says (b ∷ text) status said = (answer : TellAnswer) × (said ≡ Say (b ∷ text) answer ∷ []) × (status ≡ status_of answer)

-- A plan is said: its notices, and then its commands. The status is that of the latter. `notices` and `commands` are the two parts of what
-- is said (`joined`). `noticed` is the status of the notices, which has no effect.
pub record Shows (name : List ℕ) (plan : Plan) (status : ℕ) (said : List Event) : Type 0 where
  pub notices : List Event
  pub commands : List Event
  pub noticed : ℕ
  pub joined : said ≡ notices ++ commands
  pub notices_are : Says (notices_text name plan.notices) noticed notices
  pub commands_are : Says (lines_text (lines_of plan)) status commands

-- what is said before a plan is carried out: its notices, and with -v its commands too; whether they could be said is no matter
abbrev pub Announces : List ℕ → Telling → Plan → List Event → Type 0
Announces name Commands plan said = (status : ℕ) × Shows name plan status said
Announces name Notices plan said = (status : ℕ) × Says (notices_text name plan.notices) status said

-- A plan is carried out after that, and the status is that of its run. `announced` is what is said before the run, and `ran` is its events
-- (`joined`).
pub record CarriesOut (name : List ℕ) (plan : Plan) (manner : Manner) (status : ℕ) (said : List Event) : Type 0 where
  pub announced : List Event
  pub ran : List Event
  pub joined : said ≡ announced ++ ran
  pub announces : Announces name manner.telling plan announced
  pub executes : Executed plan manner.pass_codes manner.window [] ran status

-- events by which a program of this name does a work, with the exit status: a dump is written once
abbrev pub Does : List ℕ → Work → ℕ → List Event → Type 0
Does name (Dump text) status said = (answer : TellAnswer) × (said ≡ Put text answer ∷ []) × (status ≡ status_of answer)
Does name (Show plan) status said = Shows name plan status said
Does name (CarryOut plan manner) status said = CarriesOut name plan manner status said

-- texts that were said, and nothing else
abbrev pub AreSaid : List Event → Type 0
AreSaid [] = ⊤
AreSaid (Say text answer ∷ events) = AreSaid events
AreSaid (event ∷ events) = ⊥

-- a work was done after a journal, and nothing else
abbrev pub DoesWork : List ℕ → List Event → List Event → Work → ℕ → Type 0
DoesWork name journal journal' work status = (said : List Event) × (journal' ≡ journal ++ said) × Does name work status said

-- nothing but texts was said after a journal
abbrev pub OnlySays : List Event → List Event → Type 0
OnlySays journal journal' = (said : List Event) × (journal' ≡ journal ++ said) × AreSaid said

-- what follows the questions of a call, by how it ended: its work after `Done`; nothing after a refusal; and nothing was made or started
-- where memory lacked
abbrev pub Ends : Facts → List (List ℕ) → ℕ → Ending → List Event → Type 0
Ends F args seed (Done status) said = (work : Work) × Drives F args seed work × Does (codes "gdrv") work status said
Ends F args seed (Refused refusal) said = Refuses F args seed refusal × (said ≡ [])
Ends F args seed OutOfMemory said = AreSaid said

-- The journal grew by questions that nothing had answered yet, and by nothing else: no text was said or put, and no step of a run was
-- made.
pub record OnlyAsked (journal journal' : List Event) : Type 0 where
  pub asked : List Event
  pub questions : AreNew no_facts asked
  pub journal_grows : journal' ≡ journal ++ asked
  pub no_step : run_of journal' ≡ run_of journal

-- A call: it asked what it did not know, and its ending is that of the answers to these questions alone. `asked` is the questions of the
-- call, each asked once (`questions`). `said` is what it said and ran after them. The names of temporaries contain the `seed`.
pub record Drove (journal journal' : List Event) (args : List (List ℕ)) (seed : ℕ) (ending : Ending) : Type 0 where
  pub asked : List Event
  pub said : List Event
  pub questions : AreNew no_facts asked
  pub journal_grows : journal' ≡ journal ++ asked ++ said
  pub ends : Ends (learn no_facts asked) args seed ending said
