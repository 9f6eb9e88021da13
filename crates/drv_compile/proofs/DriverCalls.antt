use Rattle.drv_args.specs.declared.items.Item.{Item}
use Rattle.drv_args.specs.declared.line.Expanded.{Expanded}
use Rattle.drv_cc.specs.declared.answer.Answer.TheVariants.{Ask, Refuse, Run}
use Rattle.drv_cc.specs.declared.answer.Answer.{Answer}
use Rattle.drv_cc.specs.declared.answer.Call.{Call}
use Rattle.drv_cc.specs.declared.answer.Variable.{Variable}
use Rattle.drv_cc.specs.declared.refusal.Refusal.{Refusal}
use Rattle.drv_compile.proofs.RowsAsked.{asked_alike}
use Rattle.drv_compile.proofs.Worded.{stop_stays, told_as, undone_tells}
use Rattle.drv_compile.specs.Code.Refusing.{IsEndSaid}
use Rattle.drv_compile.specs.Compilers.{values}
use Rattle.drv_compile.specs.Driven.{IsCalled, IsChosen, IsDenied, IsMachined, IsMade, IsUnanswered, IsUncalled, IsUndrivenAfter, IsWorker}
use Rattle.drv_compile.specs.Driven.{IsWorkerAfter, Passes, Replaces, Undriven, answer_of, asks, at_once, denied, driver_items}
use Rattle.drv_compile.specs.Driven.{driver_line, drives, in_place, later, not_answered, not_whole, refuses, runs, stays}
use Rattle.drv_compile.specs.Driven.{uncalled, uncalled_after, unchanged, undriven_after, unworded}
use Rattle.drv_compile.specs.Inputs.{Noted}
use Rattle.drv_compile.specs.Machines.{RowAsked, items_by, row_of}
use Rattle.drv_compile.specs.Near.{AreTold}
use Rattle.drv_compile.specs.Parts.{texts_of}
use Rattle.drv_compile.specs.Releases.{children_by}
use Rattle.drv_compile.specs.Suffixes.{suffixed_by}
use Rattle.drv_compile.specs.Tasks.{IfTold, undone}
use Rattle.drv_compile.specs.Texts.{damaged_text}
use Rattle.drv_compile.specs.declared.driving.Driven.{Driven}
use Rattle.drv_compile.specs.declared.driving.Worker.TheVariants.{Driver, Nobody}
use Rattle.drv_compile.specs.declared.driving.Worker.{Worker}
use Rattle.drv_compile.specs.declared.host.HostEvent.{HostEvent}
use Rattle.drv_compile.specs.declared.machines.LineRow.{LineRow}
use Rattle.drv_compile.specs.declared.machines.MachineItems.TheVariants.{Made}
use Rattle.drv_compile.specs.declared.machines.MachineItems.{MachineItems}
use Rattle.drv_compile.specs.declared.parts.Texts.TheVariants.{Damaged, Whole}
use Rattle.drv_compile.specs.declared.request.GccLine.{GccLine}
use Rattle.drv_compile.specs.declared.stop.Stop.{Stop}
use Rattle.drv_compile.specs.declared.tasks.Toolchain.{Toolchain}
use Rattle.drv_run.specs.declared.ending.Ending.TheVariants.{Done, OutOfMemory, Refused}
use Rattle.drv_run.specs.declared.ending.Ending.{Ending}
use Rattle.drv_system.specs.Facts.{Facts}
use Rattle.drv_system.specs.Known.{Is}
use Rattle.std.proofs.Common.{◌≡◌, ◌⊎◌, ◌∙◌, ◌++◌, Err, IfOk, IsErrAnd, List, [], None, Ok, Option, Result, Some, ap, inl, inr, subst}
use Rattle.std.proofs.Common.{sym, ℕ}
use Rattle.std.specs.Prelude.{MatchResult}

-- For the functions of `driving` (src/driving.rt): who carries out a line.
-- Names: `F` is what is known of the outside, and `knows` says which facts the call has. `line` is the line of gcc: its `request` is what
-- the call is given, its `given` the words, and its `chain` the spec file (`specs`), the text about the compiler (`about`), and the known
-- names. `call` is what the front made of it. `told` is the variables of its children. `slice` is the items, or the refusals, as the
-- code lends them. `first` is what the driver is called with before the line's spec files. `answer` is the line that these give. `driven`
-- and `made` are what the driver is called with in the end. `worker` is who carries the line out: the driver or the compiler. `events` and
-- `more` are what the host was asked. `stop` is why the call ends, and `result` what the code's call gives. `Noted before after P`: events
-- were added, of which P holds. `IfTold stop P`: P holds of the stop's text, if it has one. `MatchResult result P Q`: P holds of the value,
-- or Q of the fault. `IsErrAnd result P`: there is a fault, of which P holds. `Replaces` and most claims that begin with Is are in
-- specs/Driven.

-- what its spec files give

-- For `answer`: if the text says how the driver ends for the line's self spec, then it says why there is no answer.
pub answer_told : (F : Facts) (line : GccLine) (name : List ℕ) (first : Driven) (ending : Ending) (stop : Stop)
    → name ≡ line.request.now.calling.now.name
    → (ending ≡ OutOfMemory) ⊎ (answer_of F line.chain line.given first ≡ Is (Err ending))
    → IfTold stop (IsEndSaid name ending)
    → IfTold stop (IsUnanswered F line.request.now.calling.now.name line.chain line.given first)
answer_told F line name first ending stop named stops tells =
    told_as stop (IsEndSaid line.request.now.calling.now.name ending)
    (IsUnanswered F line.request.now.calling.now.name line.chain line.given first)
    (by ending stops) (subst (λ n. IfTold stop (IsEndSaid n ending)) named tells)
  where
    -- Plan: `by` goes by the ending: a refusal has its text, and the other endings have none.
    by : (ending : Ending) → (ending ≡ OutOfMemory) ⊎ (answer_of F line.chain line.given first ≡ Is (Err ending)) → (text : List ℕ)
        → IsEndSaid line.request.now.calling.now.name ending text
        → IsUnanswered F line.request.now.calling.now.name line.chain line.given first text
    by ending (inl memory) text said = absurd (subst (λ e. IsEndSaid line.request.now.calling.now.name e text) memory said)
    by (Refused refusal) (inr gives) text said = (refusal, gives, said)
    by (Done status) (inr gives) text said = absurd said
    by OutOfMemory (inr gives) text said = absurd said

-- a line by itself

-- For `made_call`: if the driver's line has the spec file's path, the items and the suffix, then it is made as `IsMade` says.
pub made_driver : (path : List ℕ) (rows : Option (List ℕ)) (given : Expanded) (made : MachineItems) (items suffixed all : List Item)
    (children : List Variable) (driven : Driven)
    → made ≡ Made items children → suffixed ≡ suffixed_by rows items → all ≡ driver_items path suffixed
    → driven ≡ record { line = record { items = all; from_file = given.from_file }; children = children }
    → IsMade path rows made given (Driver driven)
made_driver path rows given made items suffixed all children driven is suffixed_is all_is driven_is = (
  items,
  children,
  is,
  driven_is ∙ ap (λ its. record { line = record { items = its; from_file = given.from_file }; children = children })
      (all_is ∙ ap (driver_items path) suffixed_is),
)

-- a line is made alike by the rows of a text that names the same suffix
made_alike : (path : List ℕ) (text rows : Option (List ℕ)) (given : Expanded) (made made' : MachineItems) (worker : Worker)
    → made ≡ made' → ((items : List Item) → suffixed_by text items ≡ suffixed_by rows items)
    → IsMade path text made given worker → IsMade path rows made' given worker
made_alike path text rows given made made' (Nobody options) same suffix is = sym same ∙ is
made_alike path text rows given made made' (Driver driven) same suffix (items, children, is, driven_is) = (
  items,
  children,
  sym same ∙ is,
  driven_is ∙ ap (λ its. record { line = driver_line path its given; children = children }) (suffix items),
)

-- For `machined_call`: if the code left out the text about the compiler, since it has no row and no suffix, then row and line are still
-- those by that text.
pub machined_as : {E : Type 0} (chain : Toolchain) (path lent : List ℕ) (call : Call) (given : Expanded) (text : Option (List ℕ))
    (slice : List Item) (row : LineRow) (told : List Variable) (made : MachineItems) (before after : List HostEvent)
    (result : Result Worker E)
    → lent ≡ chain.about → ((items : List Item) → row_of text items ≡ row_of (Some lent) items)
    → ((items : List Item) → suffixed_by text items ≡ suffixed_by (Some lent) items)
    → slice ≡ call.items → Noted before after (λ events. RowAsked chain.specs text slice events row)
    → told ≡ children_by lent call.children → made ≡ items_by row call.items told
    → IfOk result (λ worker. IsMade path text made given worker)
    → Noted before after (λ events. IfOk result (λ worker. IsMachined chain path call given events worker))
machined_as chain path lent call given text slice row told made before after (Err e) of same suffix are (events, grown, asked) set by is =
    (events, grown, tt)
machined_as chain path lent call given text slice row told made before after (Ok worker) of same suffix are (events, grown, asked) set by is = (
  events,
  grown,
  (
    row,
    asked_alike (same call.items ∙ ap (λ t. row_of (Some t) call.items) of)
        (subst (λ items. RowAsked chain.specs text items events row) are asked),
    made_alike path text (Some chain.about) given made (items_by row call.items (children_by chain.about call.children)) worker
        (by ∙ ap (items_by row call.items) (set ∙ ap (λ t. children_by t call.children) of))
        (λ items. suffix items ∙ ap (λ t. suffixed_by (Some t) items) of) is,
  ),
)

-- For `driver_of_call`: if the facts say that the line's texts are whole, and its row was asked for, then the line is called as `IsCalled`
-- says.
pub called_whole : (line : GccLine) (call : Call) (specs : List ℕ) (slice : List Item) (path : List ℕ) (worker : Worker)
    (before after : List HostEvent) (knows : Facts → Type 0)
    → specs ≡ line.chain.specs → slice ≡ call.items
    → ((F : Facts) → knows F → texts_of F specs slice call.stages ≡ Is (Whole path))
    → Noted before after (λ events. IsMachined line.chain path call line.given events worker)
    → Noted before after (λ events. (F : Facts) → knows F → IsCalled F line.chain call line.given events worker)
called_whole line call specs slice path worker before after knows at same texts (events, grown, made) = (
  events,
  grown,
  λ F k. (
    path,
    subst (λ s. texts_of F s call.items call.stages ≡ Is (Whole path)) at
        (subst (λ items. texts_of F specs items call.stages ≡ Is (Whole path)) same (texts F k)),
    made,
  ),
)

-- For `driver_of_call`: if the file with the line's texts is not whole, then the text about that is the refusal of the line.
pub called_damaged : (F : Facts) (line : GccLine) (call : Call) (specs : List ℕ) (slice : List Item) (path place text : List ℕ)
    → specs ≡ line.chain.specs → slice ≡ call.items → texts_of F specs slice call.stages ≡ Is (Damaged path) → place ≡ path
    → text ≡ damaged_text line.request.now.calling.now.name place specs line.request.now.calling.now.machine
    → IsUncalled F line.request.now.calling.now line.chain.specs call [] text
called_damaged F line call specs slice path place text at same texts placed is =
    subst (λ s. IsUncalled F line.request.now.calling.now s call [] text) at
    (subst (IsUncalled F line.request.now.calling.now specs call [])
    (sym (is ∙ ap (λ p. damaged_text line.request.now.calling.now.name p specs line.request.now.calling.now.machine) placed))
    (not_whole (subst (λ items. texts_of F specs items call.stages ≡ Is (Damaged path)) same texts)))

-- a line in its place

-- For `call_given`: if the answer is a line that is carried out, then that line replaces the first.
pub given_run : (answer : Option Answer) (call : Call) → answer ≡ Some (Run call) → Replaces answer (Some call)
given_run answer call is = subst (λ a. Replaces a (Some call)) (sym is) runs

-- For `call_given`: if the answer is refusals, and the text has them all, then that text denies the line.
pub given_refusal : (line : GccLine) (answer : Option Answer) (refusals slice : List Refusal) (name known text : List ℕ)
    → answer ≡ Some (Refuse refusals) → name ≡ line.request.now.calling.now.name → known ≡ line.chain.known → slice ≡ refusals
    → AreTold name (values [] known) slice text
    → IsDenied line.request.now.calling.now line.chain answer text
given_refusal line answer refusals slice name known text is named same are told =
    subst (λ a. IsDenied line.request.now.calling.now line.chain a text) (sym is)
    (refuses (subst (λ n. AreTold n (values [] line.chain.known) refusals text) named
    (subst (λ k. AreTold name (values [] k) refusals text) same (subst (λ rs. AreTold name (values [] known) rs text) are told))))

-- For `call_given`: if the answer is a question, then no line replaces the first.
pub given_ask : (answer : Option Answer) → answer ≡ Some Ask → Replaces answer None
given_ask answer is = subst (λ a. Replaces a None) (sym is) asks

-- For `call_given`: if there is no answer, since the spec files gave the line nothing, then no line replaces the first.
pub given_none : (answer : Option Answer) → answer ≡ None → Replaces answer None
given_none answer is = subst (λ a. Replaces a None) (sym is) stays

-- the steps of a line

-- For `worker_after`: if the spec files give no answer, and the stop says why, then the line is refused after them with that text.
pub undriven_answer : (F : Facts) (line : GccLine) (first : Driven) (stop made : Stop) → made ≡ undone stop first.line
    → IfTold stop (IsUnanswered F line.request.now.calling.now.name line.chain line.given first)
    → IfTold made (IsUndrivenAfter F line.request.now.calling.now line.chain line.given first [])
undriven_answer F line first stop made is tells =
    subst (λ s. IfTold s (IsUndrivenAfter F line.request.now.calling.now line.chain line.given first [])) (sym is)
    (undone_tells stop first.line (IsUndrivenAfter F line.request.now.calling.now line.chain line.given first [])
    (told_as stop (IsUnanswered F line.request.now.calling.now.name line.chain line.given first)
    (IsUndrivenAfter F line.request.now.calling.now line.chain line.given first []) (λ text un. not_answered un) tells))

-- For `worker_after`: if what the spec files give is refused, and the stop says so, then the line is refused after them with that text.
pub undriven_denied : (F : Facts) (line : GccLine) (first : Driven) (answer : Option Answer) (stop : Stop) (result : Result Worker Stop)
    → IsErrAnd result (λ s. s ≡ stop) → answer_of F line.chain line.given first ≡ Is (Ok answer)
    → IfTold stop (IsDenied line.request.now.calling.now line.chain answer)
    → MatchResult result (λ worker. IsWorkerAfter F line.chain line.given first [] worker)
    (λ s. IfTold s (IsUndrivenAfter F line.request.now.calling.now line.chain line.given first []))
undriven_denied F line first answer stop result is gives tells =
    stop_stays result stop (λ worker. IsWorkerAfter F line.chain line.given first [] worker)
    (IsUndrivenAfter F line.request.now.calling.now line.chain line.given first []) is
    (told_as stop (IsDenied line.request.now.calling.now line.chain answer)
    (IsUndrivenAfter F line.request.now.calling.now line.chain line.given first []) (λ text un. denied gives un) tells)

-- For `worker_after`: if the spec files put a line in the place of the first, then what carries that out, or why it is refused, holds of
-- the first.
pub worker_in_place : (F : Facts) (line : GccLine) (first : Driven) (answer : Option Answer) (given : Option Call) (call : Call)
    (events : List HostEvent) (result : Result Worker Stop)
    → answer_of F line.chain line.given first ≡ Is (Ok answer) → Replaces answer given → given ≡ Some call
    → MatchResult result (λ worker. IsCalled F line.chain call line.given events worker)
    (λ s. IfTold s (IsUncalled F line.request.now.calling.now line.chain.specs call events))
    → MatchResult result (λ worker. IsWorkerAfter F line.chain line.given first events worker)
    (λ s. IfTold s (IsUndrivenAfter F line.request.now.calling.now line.chain line.given first events))
worker_in_place F line first answer given call events (Ok worker) gives replaces is called =
    in_place gives (subst (Replaces answer) is replaces) called
worker_in_place F line first answer given call events (Err stop) gives replaces is tells =
    told_as stop (IsUncalled F line.request.now.calling.now line.chain.specs call events)
    (IsUndrivenAfter F line.request.now.calling.now line.chain line.given first events)
    (λ text un. uncalled_after gives (subst (Replaces answer) is replaces) un) tells

-- For `worker_after`: if the spec files put no line in its place, then the driver carries the first line out.
pub worker_unchanged : (F : Facts) (line : GccLine) (first : Driven) (answer : Option Answer) (given : Option Call)
    → answer_of F line.chain line.given first ≡ Is (Ok answer) → Replaces answer given → given ≡ None
    → IsWorkerAfter F line.chain line.given first [] (Driver first)
worker_unchanged F line first answer given gives replaces is = unchanged gives (subst (Replaces answer) is replaces)

-- For `chosen_worker`: if the line is not called, and the stop says why, then nobody carries it out, for that reason.
pub undriven_texts : (F : Facts) (line : GccLine) (call : Call) (events : List HostEvent) (stop : Stop) (result : Result Worker Stop)
    → IsErrAnd result (λ s. s ≡ stop) → IfTold stop (IsUncalled F line.request.now.calling.now line.chain.specs call events)
    → MatchResult result (λ worker. IsChosen F line.chain call line.given events worker)
    (λ s. IfTold s (Undriven F line.request.now.calling.now line.chain call line.given events))
undriven_texts F line call events stop result is tells =
    stop_stays result stop (λ worker. IsChosen F line.chain call line.given events worker)
    (Undriven F line.request.now.calling.now line.chain call line.given events) is
    (told_as stop (IsUncalled F line.request.now.calling.now line.chain.specs call events)
    (Undriven F line.request.now.calling.now line.chain call line.given events)
    (λ text un. uncalled un) tells)

-- For `chosen_worker`: if the driver is called with a line, then who carries it out after its spec files is who is chosen, by the events of
-- both.
pub worker_later : (F : Facts) (line : GccLine) (call : Call) (events more : List HostEvent) (worker : Worker) (first : Driven)
    (result : Result Worker Stop)
    → IsCalled F line.chain call line.given events worker → worker ≡ Driver first
    → MatchResult result (λ after. IsWorkerAfter F line.chain line.given first more after)
    (λ s. IfTold s (IsUndrivenAfter F line.request.now.calling.now line.chain line.given first more))
    → MatchResult result (λ after. IsChosen F line.chain call line.given (events ++ more) after)
    (λ s. IfTold s (Undriven F line.request.now.calling.now line.chain call line.given (events ++ more)))
worker_later F line call events more worker first (Ok after) called is gives =
    later (subst (λ w. IsCalled F line.chain call line.given events w) is called) gives
worker_later F line call events more worker first (Err stop) called is tells =
    told_as stop (IsUndrivenAfter F line.request.now.calling.now line.chain line.given first more)
    (Undriven F line.request.now.calling.now line.chain call line.given (events ++ more))
    (λ text un. undriven_after (subst (λ w. IsCalled F line.chain call line.given events w) is called) un) tells

-- For `chosen_worker`: if no row has the words for the line's machine, then nobody is chosen at once.
pub worker_at_once : (F : Facts) (line : GccLine) (call : Call) (events : List HostEvent) (worker : Worker) (options : List ℕ)
    → IsCalled F line.chain call line.given events worker → worker ≡ Nobody options
    → IsChosen F line.chain call line.given events (Nobody options)
worker_at_once F line call events worker options called is =
    at_once (subst (λ w. IsCalled F line.chain call line.given events w) is called)

-- For `worker_of`: if the line can't be called, then nobody carries it out, for the same reason.
pub undriven_line : (F : Facts) (line : GccLine) (call : Call) (events : List HostEvent) (stop : Stop) (result : Result Worker Stop)
    → IsErrAnd result (λ s. s ≡ stop) → IfTold stop (Undriven F line.request.now.calling.now line.chain call line.given events)
    → MatchResult result (λ worker. IsWorker F line.chain call line.given events worker)
    (λ s. IfTold s (Undriven F line.request.now.calling.now line.chain call line.given events))
undriven_line F line call events stop result is tells =
    stop_stays result stop (λ worker. IsWorker F line.chain call line.given events worker)
    (Undriven F line.request.now.calling.now line.chain call line.given events) is tells

-- For `worker_of`: if the driver is chosen, and its line got the libraries of its link, then it carries out that line.
pub worker_drives : (F : Facts) (line : GccLine) (call : Call) (events : List HostEvent) (worker : Worker) (driven made : Driven)
    → IsChosen F line.chain call line.given events worker → worker ≡ Driver driven → Passes F driven made
    → IsWorker F line.chain call line.given events (Driver made)
worker_drives F line call events worker driven made chosen is passes =
    drives (subst (IsChosen F line.chain call line.given events) is chosen) passes

-- For `worker_of`: if nobody is chosen, as no row has the words for the line's machine, then nobody carries it out.
pub worker_unworded : (F : Facts) (line : GccLine) (call : Call) (events : List HostEvent) (worker : Worker) (options : List ℕ)
    → IsChosen F line.chain call line.given events worker → worker ≡ Nobody options
    → IsWorker F line.chain call line.given events (Nobody options)
worker_unworded F line call events worker options chosen is =
    unworded (subst (IsChosen F line.chain call line.given events) is chosen)
