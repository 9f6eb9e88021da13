use Rattle.drv_args.specs.declared.line.Expanded.{Expanded}
use Rattle.drv_cc.specs.declared.answer.Call.{Call}
use Rattle.drv_cc.specs.declared.answer.Variable.{Variable}
use Rattle.drv_compile.specs.Decides.{decide}
use Rattle.drv_compile.specs.Driven.{IsWorker, Undriven}
use Rattle.drv_compile.specs.Inputs.{objection}
use Rattle.drv_compile.specs.Opening.{opening}
use Rattle.drv_compile.specs.Overwriting.{Overwrites, files_read, files_written}
use Rattle.drv_compile.specs.Runs.{Stops, Works}
use Rattle.drv_compile.specs.Stamps.{IsStale, warned}
use Rattle.drv_compile.specs.Tasks.{Declines, Leads}
use Rattle.drv_compile.specs.TempFolder.{Chooses, IsSettled, Tries, folder_names}
use Rattle.drv_compile.specs.Texts.{gone_text, help_text, overwritten_text, unworded_text, version_text}
use Rattle.drv_compile.specs.Words.{RefusesWords, Words, told_refusal}
use Rattle.drv_compile.specs.Wrapper.{wrapper_of}
use Rattle.drv_compile.specs.declared.calling.Calling.{Calling}
use Rattle.drv_compile.specs.declared.compiling.Outcome.TheVariants.{Done, OutOfMemory, Unnoted}
use Rattle.drv_compile.specs.declared.compiling.Outcome.{Outcome}
use Rattle.drv_compile.specs.declared.deciding.Decision.{Decision}
use Rattle.drv_compile.specs.declared.deciding.SpecFile.{SpecFile}
use Rattle.drv_compile.specs.declared.driving.Driven.{Driven}
use Rattle.drv_compile.specs.declared.driving.Worker.TheVariants.{Driver, Nobody}
use Rattle.drv_compile.specs.declared.host.HostEvent.TheVariants.{Set}
use Rattle.drv_compile.specs.declared.host.HostEvent.{HostEvent}
use Rattle.drv_compile.specs.declared.overwriting.Clash.{Clash}
use Rattle.drv_compile.specs.declared.preparing.Prepared.{Prepared}
use Rattle.drv_compile.specs.declared.tasks.Task.TheVariants.{Compilation, Question}
use Rattle.drv_compile.specs.declared.tasks.Toolchain.{Toolchain}
use Rattle.drv_run.specs.Calls.{AreSaid, Does}
use Rattle.drv_run.specs.declared.ending.Ending.TheVariants.{Refused}
use Rattle.drv_run.specs.declared.ending.Refusal.{Refusal}
use Rattle.drv_run.specs.declared.work.Telling.TheVariants.{Notices}
use Rattle.drv_run.specs.declared.work.Work.TheVariants.{CarryOut, Dump, Show}
use Rattle.drv_run.specs.declared.work.Work.{Work}
use Rattle.drv_system.specs.Asking.{AreNew}
use Rattle.drv_system.specs.Facts.{Facts, learn, no_facts}
use Rattle.drv_system.specs.Known.{Is}
use Rattle.drv_system.specs.declared.event.Event.TheVariants.{Run, Say}
use Rattle.drv_system.specs.declared.event.Event.{Event}
use Rattle.drv_system.specs.declared.event.TellAnswer.{TellAnswer}
use Rattle.drv_words.specs.Places.{group_at, no_job}
use Rattle.drv_words.specs.declared.answers.Answer.TheVariants as answer
use Rattle.drv_words.specs.declared.answers.Answer.{Answer}
use Rattle.drv_words.specs.declared.answers.NotStarted.TheVariants.{NotFound}
use Rattle.drv_words.specs.declared.answers.StartAnswer.TheVariants as start
use Rattle.drv_words.specs.declared.plan.Command.{Command}
use Rattle.drv_words.specs.declared.plan.Job.{Job}
use Rattle.drv_words.specs.declared.plan.Plan.{Plan}
use Rattle.drv_words.specs.declared.steps.Place.TheVariants as place
use Rattle.drv_words.specs.declared.steps.Step.TheVariants as step
use Rattle.drv_words.specs.declared.steps.Step.{Step}
use Rattle.std.specs.Cmp.Lexicographic.{pointwise}
use Rattle.std.specs.List.{list_any}
use Rattle.std.specs.Option.{option_map}
use Rattle.std.specs.Prelude.{◌≡◌, ◌&&◌, Bool, List, [], ◌∷◌, ◌++◌, None, Option, Some, false, get_or, length, map, nat_eq, not, slice_get}
use Rattle.std.specs.Prelude.{true, ℕ}

-- A call of gdrv-cc (GCC manual, "Invoking GCC"): what its words ask for, and what the journal has after it.
-- For clauses of src/preparing.rt and src/compiling.rt.

-- A question to the compiler is the run of a plan that has one command, and its status is the answer.

-- a plan of one command alone
abbrev pub one_command : Command → Plan
one_command command = record {
  notices = [];
  jobs = record { source = None; groups = (command ∷ []) ∷ []; temps = []; marked = []; on_failure = []; output = None } ∷ [];
  link = None;
}

-- the work of a question: the compiler gets the arguments as they are, and its status is the call's
abbrev pub question : List ℕ → List (List ℕ) → Work
question compiler args = CarryOut (one_command (record { program = compiler; words = args }))
    (record { telling = Notices; pass_codes = true; window = 1 })

-- What is done for a line that the driver is called with so: its work.

-- the work is that of the driver's line, its variables and wrapper are set, and `said` is said before it. After it the call says `hint`, if
-- a program of the compiler lacks; such a line has no `remark`
pub record IsPlanned (F : Facts) (calling : Calling) (chain : Toolchain) (driven : Driven) (seed : ℕ) (prepared : Prepared) : Type 0 where
  pub opens : opening chain.about driven.line.items driven.children ≡ prepared.said
  pub works : Works F driven.line seed prepared.work
  pub line : prepared.line ≡ Some driven.line
  pub children : prepared.children ≡ driven.children
  pub wrapper : prepared.wrapper ≡ wrapper_of driven.line.items
  pub hint : prepared.hint ≡ gone_text calling.name chain.specs calling.machine
  pub about : prepared.about ≡ chain.about
  pub remark : prepared.remark ≡ []

-- A line that is carried out: nothing speaks against it, it writes no file that it reads, and the items that the driver is called with
-- denote work. The host was asked for the paths of its files, and then for a row.
pub data Performs (F : Facts) (calling : Calling) (chain : Toolchain) (call : Call) (given : Expanded) (seed : ℕ)
    : List HostEvent → Prepared → Type 0 where
  drives : {driven : Driven} {read asked : List HostEvent} {prepared : Prepared} → objection F calling.name call.inputs ≡ Is []
      → Overwrites (files_read call given.files) (files_written call) read None → IsWorker F chain call given asked (Driver driven)
      → IsPlanned F calling chain driven seed prepared → Performs F calling chain call given seed (read ++ asked) prepared

-- why a line that could be carried out is refused, and the text that says it: an input is missing, an output is a file that it reads, it
-- can't be called, its machine has no words, or the driver refuses its items
pub data Fails (F : Facts) (calling : Calling) (chain : Toolchain) (call : Call) (given : Expanded) (seed : ℕ) : List HostEvent → List ℕ
    → Type 0 where
  objected : {b : ℕ} {text : List ℕ} → objection F calling.name call.inputs ≡ Is (b ∷ text)
      → Fails F calling chain call given seed [] (b ∷ text)
  overwriting : {events : List HostEvent} {clash : Clash} → objection F calling.name call.inputs ≡ Is []
      → Overwrites (files_read call given.files) (files_written call) events (Some clash)
      → Fails F calling chain call given seed events (overwritten_text calling.name clash)
  undriven : {read asked : List HostEvent} {text : List ℕ} → objection F calling.name call.inputs ≡ Is []
      → Overwrites (files_read call given.files) (files_written call) read None
      → Undriven F calling chain call given asked text → Fails F calling chain call given seed (read ++ asked) text
  unworded : {read asked : List HostEvent} {options : List ℕ} → objection F calling.name call.inputs ≡ Is []
      → Overwrites (files_read call given.files) (files_written call) read None → IsWorker F chain call given asked (Nobody options)
      → Fails F calling chain call given seed (read ++ asked) (unworded_text calling.name chain.specs options)
  stopped : {read asked : List HostEvent} {driven : Driven} {refusal : Refusal} {text : List ℕ}
      → objection F calling.name call.inputs ≡ Is [] → Overwrites (files_read call given.files) (files_written call) read None
      → IsWorker F chain call given asked (Driver driven) → Stops F driven.line seed (Refused refusal)
      → text ≡ told_refusal calling.name refusal → Fails F calling chain call given seed (read ++ asked) text

-- What arguments ask for, with what the host was asked: a question to the compiler, a line that is carried out, or a refusal. `own` is
-- where the spec file of this program lies, if that is known.
pub data Plans (F : Facts) (calling : Calling) (own : Option (List ℕ)) (args : List (List ℕ)) (seed : ℕ) : List HostEvent → Prepared
    → Type 0 where
  asks : {words : Expanded} {decision : Decision} {file : SpecFile} {compiler : List ℕ} → Words F calling args words
      → decide F own words.words ≡ Is decision
      → Leads decision (Question file compiler)
      → Plans F calling own args seed [] (record {
        work = question compiler args;
        line = None;
        children = [];
        wrapper = [];
        said = help_text calling.name compiler args;
        hint = gone_text calling.name file.path calling.machine;
        about = file.about;
        remark = version_text calling.name compiler args;
      })
  performs : {words : Expanded} {decision : Decision} {chain : Toolchain} {call : Call} {events : List HostEvent} {prepared : Prepared}
      → Words F calling args words
      → decide F own words.words ≡ Is decision → Leads decision (Compilation chain call)
      → Performs F calling chain call words seed events prepared → Plans F calling own args seed events prepared

-- what a call does then: the same, but where a file of the compiler is another than when the spec file was written, it says the hint first
pub data Comes (F : Facts) (calling : Calling) (own : Option (List ℕ)) (args : List (List ℕ)) (seed : ℕ) : List HostEvent → Prepared
    → Type 0 where
  comes : {asked looked : List HostEvent} {prepared : Prepared} {stale : Bool} → Plans F calling own args seed asked prepared
      → IsStale prepared.about looked stale → Comes F calling own args seed (asked ++ looked) (warned stale prepared)

-- why arguments are refused, with what the host was asked before: by their words, by what they ask for, or by the line
pub data Refuses (F : Facts) (calling : Calling) (own : Option (List ℕ)) (args : List (List ℕ)) (seed : ℕ) : List HostEvent → List ℕ
    → Type 0 where
  no_words : {text : List ℕ} → RefusesWords F calling args text → Refuses F calling own args seed [] text
  declines : {words : Expanded} {decision : Decision} {text : List ℕ} → Words F calling args words → decide F own words.words ≡ Is decision
      → Declines calling decision text → Refuses F calling own args seed [] text
  fails : {words : Expanded} {decision : Decision} {chain : Toolchain} {text : List ℕ} {call : Call} {events : List HostEvent}
      → Words F calling args words
      → decide F own words.words ≡ Is decision → Leads decision (Compilation chain call)
      → Fails F calling chain call words seed events text → Refuses F calling own args seed events text

-- whether an answer says that the program to start isn't there. After such a one the call says the hint, and otherwise its remark: see
-- `closing`
abbrev pub is_missing : Answer → Bool
is_missing (answer.Start (start.NotStarted NotFound)) = true
is_missing _ = false

-- the jobs of a work that are no link
abbrev pub jobs_before_link : Work → List Job
jobs_before_link (Dump text) = []
jobs_before_link (Show plan) = plan.jobs
jobs_before_link (CarryOut plan manner) = plan.jobs

-- the program that a step starts for one of these jobs
abbrev pub program_of : List Job → Step → Option (List ℕ)
program_of jobs (step.Start (place.Command job group index) from_pipe to_pipe) =
    option_map (λ (c : Command). c.program) (slice_get (group_at (get_or jobs job no_job) group) index)
program_of jobs _ = None

-- whether it is another than the wrapper of the line
abbrev pub is_own : List ℕ → Option (List ℕ) → Bool
is_own wrapper None = false
is_own wrapper (Some program) = not (pointwise nat_eq program wrapper)

-- whether an event shows that a program of the compiler isn't there: a command of a source didn't start, and it is no wrapper
abbrev pub is_absent : List Job → List ℕ → Event → Bool
is_absent jobs wrapper (Run e) = is_missing e.answer && is_own wrapper (program_of jobs e.step)
is_absent jobs wrapper _ = false

-- whether any event of a work shows that: then the gcc of the spec file may be gone, or another. It decides which text ends the call
abbrev pub lacks_program : Prepared → List Event → Bool
lacks_program prepared = list_any (is_absent (jobs_before_link prepared.work) prepared.wrapper)

-- the text that ends a call: the hint where a program lacks (true), or else the remark; no text is said where it is empty
abbrev pub closing : Prepared → Bool → List ℕ
closing prepared true = prepared.hint
closing prepared false = prepared.remark

-- the last event of a call that did its work: it says its closing text, if it has one. Memory may lack for that, and the outcome says it
pub data Closes (status : ℕ) : List ℕ → Outcome → List Event → Type 0 where
  closed : Closes status [] (Done status) []
  noted : {b : ℕ} {text : List ℕ} {told : TellAnswer} → Closes status (b ∷ text) (Done status) (Say (b ∷ text) told ∷ [])
  unnoted : {b : ℕ} {text : List ℕ} → Closes status (b ∷ text) (Unnoted status) []

-- the variables of a line, set after so many events
abbrev pub settings : ℕ → List Variable → List HostEvent
settings at = map (Set at)

-- what is said before a work, if there is anything
pub data Opens : List ℕ → List Event → Type 0 where
  silent : Opens [] []
  spoken : {b : ℕ} {text : List ℕ} {told : TellAnswer} → Opens (b ∷ text) (Say (b ∷ text) told ∷ [])

-- What a call did after its questions, with so many events before that. It said the text of its refusal, with the status 1. Or it set the
-- variables for its children, said what is said first, did its work as `drive` does it, and said the hint or its remark. Or it lacked
-- memory, and made and started nothing.
pub data Ends (F : Facts) (at : ℕ) (calling : Calling) (own : Option (List ℕ)) (args : List (List ℕ)) (seed : ℕ)
    : Outcome → List HostEvent → List HostEvent → List Event → Type 0 where
  refused : {asked : List HostEvent} {text : List ℕ} {told : TellAnswer} → Refuses F calling own args seed asked text
      → Ends F at calling own args seed (Done 1) asked [] (Say text told ∷ [])
  worked : {asked : List HostEvent} {prepared : Prepared} (opened did : List Event) {noted : List Event} {status : ℕ} {outcome : Outcome}
      → Comes F calling own args seed asked prepared → Opens prepared.said opened → Does calling.name prepared.work status did
      → Closes status (closing prepared (lacks_program prepared did)) outcome noted
      → Ends F at calling own args seed outcome asked (settings at prepared.children) (opened ++ did ++ noted)
  cut_short : {asked set : List HostEvent} {said : List Event} → AreSaid said → Ends F at calling own args seed OutOfMemory asked set said

-- What a call goes by: the answers to its questions, with the folder of temporaries that the host was asked for. Where memory lacked for
-- that, it goes by nothing: the host was asked for none of the names, as they were not known, or for some of them.
pub data GoesBy : List Event → List HostEvent → Outcome → Facts → Type 0 where
  settled : {asked : List Event} {names : List (List ℕ)} {tried : List HostEvent} {folder : List ℕ} {G : Facts} {outcome : Outcome}
      → folder_names (learn no_facts asked) ≡ Is names → Chooses names tried folder → IsSettled (learn no_facts asked) folder G
      → GoesBy asked tried outcome G
  unnamed : {asked : List Event} → GoesBy asked [] OutOfMemory no_facts
  unsettled : {asked : List Event} {names : List (List ℕ)} {tried : List HostEvent}
      → folder_names (learn no_facts asked) ≡ Is names → Tries names tried → GoesBy asked tried OutOfMemory no_facts

-- A call: it asked what it did not know, each thing once, and ends as the answers say.
pub record Compiled (journal journal' : List Event) (notes notes' : List HostEvent) (calling : Calling) (own : Option (List ℕ))
    (args : List (List ℕ)) (seed : ℕ) (outcome : Outcome) : Type 0 where
  pub asked : List Event
  pub said : List Event
  pub tried : List HostEvent
  pub resolved : List HostEvent
  pub set : List HostEvent
  pub facts : Facts
  pub questions : AreNew no_facts asked
  pub journal_grows : journal' ≡ journal ++ asked ++ said
  pub notes_grow : notes' ≡ notes ++ tried ++ resolved ++ set
  pub goes_by : GoesBy asked tried outcome facts
  pub ends : Ends facts (length (journal ++ asked)) calling own args seed outcome resolved set said
