use Rattle.drv_args.specs.declared.items.Item.{Item}
use Rattle.drv_args.specs.declared.line.Expanded.{Expanded}
use Rattle.drv_cc.specs.declared.answer.Call.{Call}
use Rattle.drv_cc.specs.declared.answer.Variable.{Variable}
use Rattle.drv_compile.proofs.Noting.{noted_then}
use Rattle.drv_compile.proofs.Worded.{stop_stays, told_as, undone_tells}
use Rattle.drv_compile.specs.Code.Preparing.{IsDone, IsFailure, IsOverwriting, IsPrepared, IsQuestion, IsUndone, IsUnplanned}
use Rattle.drv_compile.specs.Compiles.{IsPlanned, Plans, Refuses, asks, declines, drives, fails}
use Rattle.drv_compile.specs.Compiles.{no_words, objected, overwriting, performs, stopped, undriven, unworded}
use Rattle.drv_compile.specs.Decides.{decide}
use Rattle.drv_compile.specs.Driven.{IsWorker, Undriven}
use Rattle.drv_compile.specs.Inputs.{Noted, objection}
use Rattle.drv_compile.specs.Opening.{opening}
use Rattle.drv_compile.specs.Overwriting.{Overwrites, files_read, files_written}
use Rattle.drv_compile.specs.Runs.{Works}
use Rattle.drv_compile.specs.Tasks.{Declines, IfTold, Leads, undone}
use Rattle.drv_compile.specs.Texts.{gone_text, overwritten_text, unworded_text}
use Rattle.drv_compile.specs.Words.{RefusesWords, Words}
use Rattle.drv_compile.specs.Wrapper.{wrapper_of}
use Rattle.drv_compile.specs.declared.calling.Calling.{Calling}
use Rattle.drv_compile.specs.declared.deciding.Decision.{Decision}
use Rattle.drv_compile.specs.declared.deciding.SpecFile.{SpecFile}
use Rattle.drv_compile.specs.declared.driving.Driven.{Driven}
use Rattle.drv_compile.specs.declared.driving.Worker.TheVariants.{Driver, Nobody}
use Rattle.drv_compile.specs.declared.driving.Worker.{Worker}
use Rattle.drv_compile.specs.declared.host.HostEvent.{HostEvent}
use Rattle.drv_compile.specs.declared.overwriting.Clash.{Clash}
use Rattle.drv_compile.specs.declared.overwriting.FileRead.{FileRead}
use Rattle.drv_compile.specs.declared.preparing.Prepared.{Prepared}
use Rattle.drv_compile.specs.declared.request.GccLine.{GccLine}
use Rattle.drv_compile.specs.declared.stop.Stop.{Stop}
use Rattle.drv_compile.specs.declared.tasks.Task.TheVariants.{Compilation, Question}
use Rattle.drv_compile.specs.declared.tasks.Task.{Task}
use Rattle.drv_run.specs.declared.work.Work.{Work}
use Rattle.drv_system.specs.Facts.{Facts}
use Rattle.drv_system.specs.Known.{Is}
use Rattle.std.proofs.Common.{◌≡◌, ◌↔◌, ◌∙◌, ◌∷◌, ◌++◌, [], Bool, Err, IsErrAnd, IsTrue, List, None, Ok, Option, Result, Some, ap, false}
use Rattle.std.proofs.Common.{inl, inr, refl, subst, sym, true, ℕ}
use Rattle.std.proofs.lemmas.Bool.{false≢true}
use Rattle.std.specs.Prelude.{MatchResult}

-- For `prepare` (src/preparing.rt): what a call does, from step to step.
-- Names: `F` is what is known of the outside, and `knows` says which facts the call has. `line` is the line of gcc: its `request` is what
-- the call is given, its `given` the words, and its `chain` the spec file, the compiler and the known names. `call` is what the front made
-- of it: `inputs`, `outputs`, items. `responses` is its response files. `calling`, `own`, `args` and `seed` are what the call is given.
-- `slice` is a list, and `specs`, `lent` or `name` a text, as the code lends it. `events`, `read` and `asked` are what the host was asked.
-- `before`, `mid` and `after` are its notes before a step and after each. `prepared` is what the call has to do. `stop` is why it ends, and
-- `result` what the code's call gives. `Noted before after P`: events were added, of which P holds. `IfTold stop P`: P holds of the stop's
-- text, if it has one. `MatchResult result P Q`: P holds of the value, or Q of the fault. `IsErrAnd result P`: there is a fault, of which P
-- holds. `objection` is what speaks against a line, and `Overwrites` says whether it writes a file that it reads (specs/Overwriting).
-- `IsPrepared`, `IsUnplanned`, `IsDone` and `IsUndone` are in specs/Code/Preparing. `Plans` and `Refuses` are the whole call: what it has
-- to do, or the text of its refusal (specs/Compiles).

-- an output that is a file that the line reads, or none

-- For `refuse_overwriting`: if no output is read, then the line overwrites nothing.
pub not_overwriting : (files slice : List FileRead) (outputs lent : List (List ℕ)) (call : Call) (responses : List (List ℕ))
    (found : Option Clash) (before after : List HostEvent) → slice ≡ files → files ≡ files_read call responses → lent ≡ outputs
    → outputs ≡ files_written call → found ≡ None → Noted before after (λ events. Overwrites slice lent events found)
    → Noted before after (λ events. Overwrites (files_read call responses) (files_written call) events None)
not_overwriting files slice outputs lent call responses found before after same are lends writes none (events, grown, overwrites) = (
  events,
  grown,
  subst (λ xs. Overwrites xs (files_written call) events None) (same ∙ are)
      (subst (λ os. Overwrites slice os events None) (lends ∙ writes) (subst (λ f. Overwrites slice lent events f) none overwrites)),
)

-- For `refuse_overwriting`: if an output is read, then the text with its name says so.
pub overwriting_told : (line : GccLine) (name text : List ℕ) (files slice : List FileRead) (outputs lent : List (List ℕ)) (call : Call)
    (found : Option Clash) (clash : Clash) (before after : List HostEvent) → slice ≡ files
    → files ≡ files_read call line.given.files → lent ≡ outputs → outputs ≡ files_written call → found ≡ Some clash
    → Noted before after (λ events. Overwrites slice lent events found) → name ≡ line.request.now.calling.now.name
    → text ≡ overwritten_text name clash → Noted before after (λ events. IsOverwriting line call events text)
overwriting_told line name text files slice outputs lent call found clash before after same are lends writes some (events, grown, overwrites) named is = (
  events,
  grown,
  (
    clash,
    subst (λ xs. Overwrites xs (files_written call) events (Some clash)) (same ∙ are)
        (subst (λ os. Overwrites slice os events (Some clash)) (lends ∙ writes)
        (subst (λ f. Overwrites slice lent events f) some overwrites)),
    is ∙ ap (λ n. overwritten_text n clash) named,
  ),
)

-- the steps of a line

-- For `compilation`: if nothing speaks against the line, then what is prepared for it is done, and why nothing is prepared is why it is
-- refused.
fails_planned : (F : Facts) (line : GccLine) (call : Call) (read asked : List HostEvent) (result : Result Prepared Stop)
    → objection F line.request.now.calling.now.name call.inputs ≡ Is []
    → Overwrites (files_read call line.given.files) (files_written call) read None
    → MatchResult result (λ prepared. IsPrepared F line call asked prepared) (λ stop. IfTold stop (IsUnplanned F line call asked))
    → MatchResult result (λ prepared. IsDone F line call (read ++ asked) prepared)
    (λ stop. IfTold stop (IsUndone F line call (read ++ asked)))
fails_planned F line call read asked (Ok prepared) free apart (driven, works, planned) = drives free apart works planned
fails_planned F line call read asked (Err stop) free apart unplanned =
    told_as stop (IsUnplanned F line call asked) (IsUndone F line call (read ++ asked)) by unplanned
  where
    -- Plan: `by` turns each reason why nothing is prepared into one why the line is refused.
    by : (text : List ℕ) → IsUnplanned F line call asked text → IsUndone F line call (read ++ asked) text
    by text (inl un) = undriven free apart un
    by text (inr (inl (options, works, is))) = subst (λ t. IsUndone F line call (read ++ asked) t) (sym is) (unworded free apart works)
    by text (inr (inr (driven, works, (refusal, stops, said)))) = stopped free apart works stops said

-- For `compilation`: if something speaks against the line, then the text of that is its refusal.
pub objected_as : (F : Facts) (line : GccLine) (call : Call) (name text : List ℕ) (inputs : List (List ℕ)) (found : Bool)
    → name ≡ line.request.now.calling.now.name → inputs ≡ call.inputs
    → objection F name inputs ≡ Is text → IsTrue found ↔ (text ≡ []) → found ≡ false
    → IsUndone F line call [] text
objected_as F line call name [] inputs found named are is empty not = absurd (false≢true (sym not ∙ empty.1 refl))
objected_as F line call name (b ∷ text) inputs found named are is empty not =
    objected (ap (objection F line.request.now.calling.now.name) (sym are) ∙ ap (λ n. objection F n inputs) (sym named) ∙ is)

-- For `compilation`: if the text of what speaks against the line is empty, then nothing does.
pub free_as : (F : Facts) (line : GccLine) (call : Call) (name text : List ℕ) (inputs : List (List ℕ)) (found : Bool)
    → name ≡ line.request.now.calling.now.name → inputs ≡ call.inputs
    → objection F name inputs ≡ Is text → IsTrue found ↔ (text ≡ []) → found ≡ true
    → objection F line.request.now.calling.now.name call.inputs ≡ Is []
free_as F line call name text inputs found named are is empty so =
    ap (objection F line.request.now.calling.now.name) (sym are) ∙ ap (λ n. objection F n inputs) (sym named) ∙ is ∙ ap Is (empty.0 so)

-- For `compilation`: if an output is read, and nothing else speaks against the line, then the line is refused by the text about that.
pub overwriting_fails : (line : GccLine) (call : Call) (stop : Stop) (before after : List HostEvent)
    (result : Result Prepared Stop) (knows : Facts → Type 0) → IsErrAnd result (λ s. s ≡ stop)
    → ((F : Facts) → knows F → objection F line.request.now.calling.now.name call.inputs ≡ Is [])
    → Noted before after (λ events. IfTold stop (IsOverwriting line call events))
    → Noted before after (λ events. (F : Facts) → knows F
    → MatchResult result (λ prepared. IsDone F line call events prepared) (λ s. IfTold s (IsUndone F line call events)))
overwriting_fails line call stop before after result knows is free (events, grown, tells) = (
  events,
  grown,
  λ F k.
      stop_stays result stop (λ prepared. IsDone F line call events prepared) (IsUndone F line call events) is
      (told_as stop (IsOverwriting line call events) (IsUndone F line call events) (by F k) tells),
)
  where
    -- Plan: `by` says that for each text about a file that is overwritten.
    by : (F : Facts) → knows F → (text : List ℕ) → IsOverwriting line call events text → IsUndone F line call events text
    by F k text (clash, overwrites, same_text) =
        subst (λ t. IsUndone F line call events t) (sym same_text) (overwriting (free F k) overwrites)

-- For `compilation`: if the host was asked for the files of the line and then for its row, then the line is done, or refused, by the events
-- of both.
pub performs_noted : (line : GccLine) (call : Call) (before mid after : List HostEvent) (result : Result Prepared Stop)
    (knows : Facts → Type 0)
    → ((F : Facts) → knows F → objection F line.request.now.calling.now.name call.inputs ≡ Is [])
    → Noted before mid (λ events. Overwrites (files_read call line.given.files) (files_written call) events None)
    → Noted mid after (λ events. (F : Facts) → knows F → MatchResult result (λ prepared. IsPrepared F line call events prepared)
    (λ stop. IfTold stop (IsUnplanned F line call events)))
    → Noted before after (λ events. (F : Facts) → knows F
    → MatchResult result (λ prepared. IsDone F line call events prepared) (λ s. IfTold s (IsUndone F line call events)))
performs_noted line call before mid after result knows free =
    noted_then before mid after (λ events. Overwrites (files_read call line.given.files) (files_written call) events None)
    (λ events. (F : Facts) → knows F → MatchResult result (λ prepared. IsPrepared F line call events prepared)
    (λ stop. IfTold stop (IsUnplanned F line call events)))
    (λ events. (F : Facts) → knows F
    → MatchResult result (λ prepared. IsDone F line call events prepared) (λ s. IfTold s (IsUndone F line call events)))
    (λ read asked apart plans F k. fails_planned F line call read asked result (free F k) apart (plans F k))

-- the work of a line

-- For `prepare_line`: if nobody carries the line out, and the stop says why, then nothing is prepared, for that reason.
pub undriven_plan : (F : Facts) (line : GccLine) (call : Call) (events : List HostEvent) (stop : Stop) (result : Result Prepared Stop)
    → IsErrAnd result (λ s. s ≡ stop) → IfTold stop (Undriven F line.request.now.calling.now line.chain call line.given events)
    → MatchResult result (λ prepared. IsPrepared F line call events prepared) (λ s. IfTold s (IsUnplanned F line call events))
undriven_plan F line call events stop result is tells =
    stop_stays result stop (λ prepared. IsPrepared F line call events prepared) (IsUnplanned F line call events) is
    (told_as stop (Undriven F line.request.now.calling.now line.chain call line.given events) (IsUnplanned F line call events)
    (λ text un. inl un) tells)

-- For `prepare_line`: if the driver carries the line out, then what is planned for it is prepared.
pub prepared_by_driver : (F : Facts) (line : GccLine) (call : Call) (events : List HostEvent) (worker : Worker) (driven : Driven)
    (result : Result Prepared Stop)
    → IsWorker F line.chain call line.given events worker → worker ≡ Driver driven
    → MatchResult result (λ prepared. IsPlanned F line.request.now.calling.now line.chain driven line.request.now.seed prepared)
    (λ s. IfTold s (IsFailure F line.request.now.calling.now.name driven.line line.request.now.seed))
    → MatchResult result (λ prepared. IsPrepared F line call events prepared) (λ s. IfTold s (IsUnplanned F line call events))
prepared_by_driver F line call events worker driven (Ok prepared) works is planned =
    (driven, subst (IsWorker F line.chain call line.given events) is works, planned)
prepared_by_driver F line call events worker driven (Err stop) works is tells =
    told_as stop (IsFailure F line.request.now.calling.now.name driven.line line.request.now.seed) (IsUnplanned F line call events)
    (λ text un. inr (inr (driven, subst (IsWorker F line.chain call line.given events) is works, un))) tells

-- For `prepare_line`: if nobody carries the line out, then the text with its options says why nothing is prepared.
pub unworded_plan : (F : Facts) (line : GccLine) (call : Call) (events : List HostEvent) (worker : Worker) (options slice : List ℕ)
    (name specs text : List ℕ)
    → IsWorker F line.chain call line.given events worker → worker ≡ Nobody options → slice ≡ options
    → name ≡ line.request.now.calling.now.name → specs ≡ line.chain.specs → text ≡ unworded_text name specs slice
    → IsUnplanned F line call events text
unworded_plan F line call events worker options slice name specs text works is same named at told =
    inr (inl (
      options,
      subst (IsWorker F line.chain call line.given events) is works,
      told ∙ ap (λ n. unworded_text n specs slice) named ∙ ap (λ s. unworded_text line.request.now.calling.now.name s slice) at
          ∙ ap (unworded_text line.request.now.calling.now.name line.chain.specs) same,
    ))

-- the whole

-- For `prepare_task`: if the decision leads to a question, then asking the compiler is what the call has to do.
pub question_comes : (F : Facts) (calling : Calling) (own : Option (List ℕ)) (args : List (List ℕ)) (seed : ℕ) (words : Expanded)
    (slice : List (List ℕ)) (decision : Decision) (task : Task) (file : SpecFile) (compiler : List ℕ) (prepared : Prepared)
    → slice ≡ words.words → Words F calling args words → decide F own slice ≡ Is decision → Leads decision task
    → task ≡ Question file compiler → IsQuestion calling file compiler args prepared
    → Plans F calling own args seed [] prepared
question_comes F calling own args seed words slice decision task file compiler prepared same gives decides leads is asked =
    subst (λ p. Plans F calling own args seed [] p) (sym asked)
    (asks gives (ap (decide F own) (sym same) ∙ decides) (subst (Leads decision) is leads))

-- If the decision leads to a compilation, then doing the line, or refusing it, is what the call has to do.
line_comes : (F : Facts) (line : GccLine) (call : Call) (own : Option (List ℕ)) (decision : Decision) (events : List HostEvent)
    (result : Result Prepared Stop) → Words F line.request.now.calling.now line.request.now.args.now line.given
    → decide F own line.given.words ≡ Is decision
    → Leads decision (Compilation line.chain call)
    → MatchResult result (λ prepared. IsDone F line call events prepared) (λ stop. IfTold stop (IsUndone F line call events))
    → MatchResult result
    (λ prepared. Plans F line.request.now.calling.now own line.request.now.args.now line.request.now.seed events prepared)
    (λ stop. IfTold stop (Refuses F line.request.now.calling.now own line.request.now.args.now line.request.now.seed events))
line_comes F line call own decision events (Ok prepared) gives decides leads done = performs gives decides leads done
line_comes F line call own decision events (Err stop) gives decides leads tells =
    told_as stop (IsUndone F line call events)
    (Refuses F line.request.now.calling.now own line.request.now.args.now line.request.now.seed events)
    (λ text is. fails gives decides leads is) tells

-- For `prepare_task`: the same over all facts that `knows` describes, by the events of the compilation.
pub compilation_comes : (line : GccLine) (call : Call) (own : Option (List ℕ)) (slice : List (List ℕ)) (decision : Decision) (task : Task)
    (before after : List HostEvent) (result : Result Prepared Stop) (knows : Facts → Type 0) → slice ≡ line.given.words
    → ((F : Facts) → knows F → Words F line.request.now.calling.now line.request.now.args.now line.given)
    → ((F : Facts) → knows F → decide F own slice ≡ Is decision) → Leads decision task → task ≡ Compilation line.chain call
    → Noted before after (λ events. (F : Facts) → knows F
    → MatchResult result (λ prepared. IsDone F line call events prepared) (λ s. IfTold s (IsUndone F line call events)))
    → Noted before after (λ events. (F : Facts) → knows F
    → MatchResult result
    (λ prepared. Plans F line.request.now.calling.now own line.request.now.args.now line.request.now.seed events prepared)
    (λ s. IfTold s (Refuses F line.request.now.calling.now own line.request.now.args.now line.request.now.seed events)))
compilation_comes line call own slice decision task before after result knows same gives decides leads is (events, grown, done) = (
  events,
  grown,
  λ F k. line_comes F line call own decision events result (gives F k) (ap (decide F own) (sym same) ∙ decides F k)
      (subst (Leads decision) is leads) (done F k),
)

-- For `prepare_task`: if the words are refused, then the call is, and the host was asked nothing.
pub words_refused : (F : Facts) (calling : Calling) (own : Option (List ℕ)) (args : List (List ℕ)) (seed : ℕ) (stop : Stop)
    → IfTold stop (RefusesWords F calling args) → IfTold stop (Refuses F calling own args seed [])
words_refused F calling own args seed stop tells =
    told_as stop (RefusesWords F calling args) (Refuses F calling own args seed []) (λ text is. no_words is) tells

-- For `prepare_task`: if the decision declines the line, then the call is refused, and the host was asked nothing.
pub decision_declined : (F : Facts) (calling : Calling) (own : Option (List ℕ)) (args : List (List ℕ)) (seed : ℕ) (words : Expanded)
    (decision : Decision) (stop : Stop)
    → Words F calling args words → decide F own words.words ≡ Is decision → IfTold stop (Declines calling decision)
    → IfTold stop (Refuses F calling own args seed [])
decision_declined F calling own args seed words decision stop gives decides tells =
    told_as stop (Declines calling decision) (Refuses F calling own args seed []) (λ text is. declines gives decides is) tells

-- If a step ends for the words, then the call is refused with that text.
pub words_stop : (F : Facts) (calling : Calling) (own : Option (List ℕ)) (args : List (List ℕ)) (seed : ℕ) (stop : Stop)
    (result : Result Prepared Stop) → IsErrAnd result (λ s. s ≡ stop)
    → IfTold stop (RefusesWords F calling args)
    → MatchResult result (λ prepared. Plans F calling own args seed [] prepared) (λ s. IfTold s (Refuses F calling own args seed []))
words_stop F calling own args seed stop result is tells =
    stop_stays result stop (λ prepared. Plans F calling own args seed [] prepared) (Refuses F calling own args seed []) is
    (words_refused F calling own args seed stop tells)

-- If a step ends for the decision, then the call is refused with that text.
pub decision_stops : (F : Facts) (calling : Calling) (own : Option (List ℕ)) (args : List (List ℕ)) (seed : ℕ) (words : Expanded)
    (slice : List (List ℕ)) (decision : Decision) (stop : Stop)
    (result : Result Prepared Stop) → slice ≡ words.words → Words F calling args words → decide F own slice ≡ Is decision
    → IsErrAnd result (λ s. s ≡ stop) → IfTold stop (Declines calling decision)
    → MatchResult result (λ prepared. Plans F calling own args seed [] prepared) (λ s. IfTold s (Refuses F calling own args seed []))
decision_stops F calling own args seed words slice decision stop result same gives decides is tells =
    stop_stays result stop (λ prepared. Plans F calling own args seed [] prepared) (Refuses F calling own args seed []) is
    (decision_declined F calling own args seed words decision stop gives (ap (decide F own) (sym same) ∙ decides) tells)
