use Rattle.drv_cc.specs.declared.answer.Variable.{Variable}
use Rattle.drv_compile.proofs.Joined.{joined}
use Rattle.drv_compile.proofs.Settled.{goes_by, tried_goes}
use Rattle.drv_compile.specs.Code.Compiling.{Carried, DoesNoted, IsClosed, IsOpened, Noting, OpensWork, Spoken, TellsStop, TellsText}
use Rattle.drv_compile.specs.Code.Compiling.{Worked}
use Rattle.drv_compile.specs.Settling.{BeginsToGo, Going}
use Rattle.drv_compile.specs.Compiles.{Closes, Comes, Compiled, Ends, Opens, Refuses, closed, closing, cut_short, lacks_program, noted}
use Rattle.drv_compile.specs.Compiles.{refused, settings, silent, spoken, unnoted, worked}
use Rattle.drv_compile.specs.Inputs.{Noted}
use Rattle.drv_compile.specs.Tasks.{IfTold}
use Rattle.drv_compile.specs.declared.calling.Calling.{Calling}
use Rattle.drv_compile.specs.declared.compiling.Outcome.TheVariants.{Done, OutOfMemory, Unnoted}
use Rattle.drv_compile.specs.declared.compiling.Outcome.{Outcome}
use Rattle.drv_compile.specs.declared.host.HostEvent.TheVariants.{Set}
use Rattle.drv_compile.specs.declared.host.HostEvent.{HostEvent}
use Rattle.drv_compile.specs.declared.preparing.Prepared.{Prepared}
use Rattle.drv_compile.specs.declared.running.DriverLine.{DriverLine}
use Rattle.drv_compile.specs.declared.stop.Stop.TheVariants.{Memory, Told, Undone}
use Rattle.drv_compile.specs.declared.stop.Stop.{Stop}
use Rattle.drv_run.proofs.Tellings.{no_pipe_after_texts}
use Rattle.drv_run.specs.Calls.{DoesWork, OnlySays}
use Rattle.drv_system.proofs.Asking.{extends_refl}
use Rattle.drv_system.specs.Asking.{Extends}
use Rattle.drv_system.specs.Facts.{Facts, no_facts}
use Rattle.drv_system.specs.Running.{run_of}
use Rattle.drv_system.specs.declared.event.Event.TheVariants.{Say}
use Rattle.drv_system.specs.declared.event.Event.{Event}
use Rattle.drv_system.specs.declared.event.TellAnswer.{TellAnswer}
use Rattle.drv_words.specs.Stepping.{pipe_pending}
use Rattle.std.proofs.Common.{◌≡◌, ◌<◌, ◌≤◌, ◌+◌, ◌-◌, ◌∙◌, ◌∷◌, ◌++◌, [], Bool, Err, IsErrAnd, List, Ok, OnOk, Option, Result, ap}
use Rattle.std.proofs.Common.{append_assoc, arith, drop, false, length, refl, subst, sym, take, true, ℕ}
use Rattle.std.proofs.Math.Bool.{false≢true}
use Rattle.std.proofs.Math.Logic.{◌↔◌}
use Rattle.std.proofs.Math.Seq.{drop-append_seam, take-length}
use Rattle.std.proofs.lemmas.List.{append-nil, drop_all, drop_more, length-append, length-drop}
use Rattle.std.specs.Bool.{IsTrue}
use Rattle.std.specs.Prelude.{get_or, ⊤}

-- For `compile` (src/compiling.rt): what a call does after its questions is one of the cases of `Compiled`.
-- Names: `journal` is the events of the system before a step, `journal'` after it, and `journal''` after the next. `mid` is the journal
-- once the questions are asked. `first` and `notes` are the host's events before, and `notes'` and `notes''` those after each step.
-- `events` is what a step added to them. `calling`, `own`, `args` and `seed` are what the call is given. `prepared` is what it has to do:
-- work, texts and variables. `children` is these variables, of which `i` were set when the journal had `at` events. `before`, `so` and
-- `after` are the host's events before the loop, so far, and after one more. `status` is an exit status. `outcome` is how the call ends.
-- `stop` is why it ends before its work. `F'` is what the call knows. `Noted before after P`: events were added, of which P holds.
-- `settings at children` is the events that set these variables. `Going` is what was asked for the folder of temporaries
-- (specs/Settling). `DoesWork` is a work that was done (drv_run). `Compiled` is the whole call (specs/Compiles).

-- the variables of a line, one after another

-- of a line's variables the first i are set: these are the events since then, and those of the rest would make all
pub record Setting (at : ℕ) (children : List Variable) (i : ℕ) (before so : List HostEvent) : Type 0 where
  pub events : List HostEvent
  pub grown : so ≡ before ++ events
  pub rest : events ++ settings at (drop i children) ≡ settings at children

-- For `set_children`: if the first i variables were set, and then the next, then the first i + 1 were.
pub set_more : (at : ℕ) (children : List Variable) (i : ℕ) (variable : Variable) (at' : ℕ) (before so after : List HostEvent)
    → i < length children
    → variable ≡ get_or children i variable → at' ≡ at → after ≡ so ++ Set at' variable ∷ [] → Setting at children i before so
    → Setting at children (i + 1) before after
set_more at children i variable at' before so after below here same grown setting = record {
  events = setting.events ++ Set at variable ∷ [];
  grown =
      grown ∙ ap (λ n. so ++ Set n variable ∷ []) same ∙ ap (λ e. e ++ Set at variable ∷ []) setting.grown
      ∙ append_assoc before setting.events (Set at variable ∷ []);
  rest =
      append_assoc setting.events (Set at variable ∷ []) (settings at (drop (i + 1) children))
      ∙ ap (λ xs. setting.events ++ settings at xs) (sym
      (drop_more children i variable below ∙ ap (λ v. v ∷ drop (i + 1) children) (sym here))) ∙ setting.rest;
}

-- At first no variable was set.
pub none_set : (at : ℕ) (children : List Variable) (before : List HostEvent) → Setting at children 0 before before
none_set at children before = record { events = []; grown = sym (append-nil before); rest = refl }

-- If all variables were set, then the events are those that the definition has for the line.
pub all_set : (at : ℕ) (children : List Variable) (i : ℕ) (before so : List HostEvent) → length children ≤ i
    → Setting at children i before so
    → Noted before so (λ events. events ≡ settings at children)
all_set at children i before so past setting = (
  setting.events,
  setting.grown,
  sym (append-nil setting.events) ∙ ap (λ xs. setting.events ++ settings at xs) (sym (drop_all i children past)) ∙ setting.rest,
)

-- some variables were set where memory lacked for the next: then nothing is said of them
pub some_set : {X E : Type 0} (at : ℕ) (children : List Variable) (i : ℕ) (before so after : List HostEvent) (result : Result X E)
    (what : E → Type 0)
    → Setting at children i before so → after ≡ so → IsErrAnd result what
    → Noted before after (λ events. OnOk result (events ≡ settings at children))
some_set at children i before so after (Ok x) what setting same is = absurd is
some_set at children i before so after (Err e) what setting same is = (setting.events, same ∙ setting.grown, tt)

-- a text after a work

-- For `say_after`: if the text is empty, then nothing is said after the work, and the call is done.
pub nothing_closed : (journal : List Event) (text : List ℕ) (status : ℕ) → length text ≤ 0
    → IsClosed journal journal text status (Done status)
nothing_closed journal [] status none = ([], sym (append-nil journal), closed)
nothing_closed journal (b ∷ text) status none = absurd (omega (arith, none))

-- For `say_after`: if the text is not empty and was said, then the call is done.
pub text_closed : (journal journal' : List Event) (text : List ℕ) (status : ℕ) (answer : TellAnswer) → 0 < length text
    → journal' ≡ journal ++ Say text answer ∷ [] → IsClosed journal journal' text status (Done status)
text_closed journal journal' [] status answer some says = absurd (omega (arith, some))
text_closed journal journal' (b ∷ text) status answer some says = (Say (b ∷ text) answer ∷ [], says, noted)

-- For `say_after`: if the text is not empty and memory lacked for it, then nothing was said, and the outcome says that.
pub text_unclosed : (journal journal' : List Event) (text : List ℕ) (status : ℕ) → 0 < length text → journal' ≡ journal
    → IsClosed journal journal' text status (Unnoted status)
text_unclosed journal journal' [] status some same = absurd (omega (arith, some))
text_unclosed journal journal' (b ∷ text) status some same = ([], same ∙ sym (append-nil journal), unnoted)

-- For `say_hint_or_remark`: if the text is the hint or the remark, by what the work's events lack, and it was said, then the work was
-- noted.
pub closing_noted : (journal journal' : List Event) (before : ℕ) (prepared : Prepared) (lacks : Bool) (text : List ℕ) (status : ℕ)
    (outcome : Outcome)
    → lacks_program prepared (drop before journal) ≡ lacks → text ≡ closing prepared lacks → IsClosed journal journal' text status outcome
    → Noting journal journal' before prepared status outcome
closing_noted journal journal' before prepared lacks text status outcome finds is closes =
    subst (λ t. IsClosed journal journal' t status outcome) (is ∙ ap (closing prepared) (sym finds)) closes

-- The events after so many are all that are left: the hint depends on these alone.
pub after_all : (prepared : Prepared) (shown journal : List Event) (before : ℕ) → shown ≡ journal
    → lacks_program prepared (drop before journal) ≡ lacks_program prepared (take (length shown - before) (drop before shown))
after_all prepared shown journal before same =
    ap (λ j. lacks_program prepared (drop before j)) (sym same)
    ∙ ap (lacks_program prepared) (sym (ap (λ n. take n (drop before shown)) (sym (length-drop before shown))
    ∙ take-length (drop before shown)))

-- no pipe is pending after a text

-- a text that is said starts nothing
pub no_pipe_after_text : (journal journal' : List Event) (text : List ℕ) (told : TellAnswer) → journal' ≡ journal ++ Say text told ∷ []
    → pipe_pending (run_of journal) ≡ false → pipe_pending (run_of journal') ≡ false
no_pipe_after_text journal journal' text told says before = no_pipe_after_texts journal journal' (Say text told ∷ [], says, tt) before

-- no pipe is pending in a journal that stayed the same
pub no_pipe_in_same : (journal journal' : List Event) → journal' ≡ journal → pipe_pending (run_of journal) ≡ false
    → pipe_pending (run_of journal') ≡ false
no_pipe_in_same journal journal' same before = ap (λ j. pipe_pending (run_of j)) same ∙ before

-- a work, and the hint or the remark after it

-- For `carry_out`: if a work was done after the journal, then that is as long as before at least.
pub longer_than : (shown journal journal' : List Event) (name : List ℕ) (prepared : Prepared) (status : ℕ) → shown ≡ journal
    → DoesWork name journal journal' prepared.work status → length shown ≤ length journal'
longer_than shown journal journal' name prepared status same does =
    let first = ap length same in let grown = ap length does.1 ∙ length-append journal does.0 in omega (arith, first, grown)

-- a work, and what is said after it, make one list of events
by_note : (name : List ℕ) (journal journal' journal'' : List Event) (prepared : Prepared) (status : ℕ) (outcome : Outcome)
    → DoesWork name journal journal' prepared.work status
    → Noting journal' journal'' (length journal) prepared status outcome → DoesNoted name journal journal'' prepared outcome
by_note name journal journal' journal'' prepared status outcome does notes = record {
  did = does.0;
  noted = notes.0;
  status = status;
  journal_grows = notes.1 ∙ ap (λ j. j ++ notes.0) does.1;
  does = does.2;
  told =
      subst (λ events. Closes status (closing prepared (lacks_program prepared events)) outcome notes.0)
      (ap (drop (length journal)) does.1 ∙ drop-append_seam journal does.0) notes.2;
}

-- an outcome after a work: it is no lack of memory
abbrev pub IsEnd : Outcome → Type 0
IsEnd OutOfMemory = ⊥
IsEnd (Done status) = ⊤
IsEnd (Unnoted status) = ⊤

-- For `say_after`: if something was said after a work, or nothing, then the outcome is no lack of memory.
is_end : {status : ℕ} {text : List ℕ} {outcome : Outcome} {events : List Event} → Closes status text outcome events → IsEnd outcome
is_end closed = tt
is_end noted = tt
is_end unnoted = tt

-- For `carry_out`: if a work was done, and then what is said after it, then the two are a whole work.
pub work_noted : (name : List ℕ) (journal journal' journal'' : List Event) (prepared : Prepared) (status before : ℕ) (outcome : Outcome)
    → before ≡ length journal
    → DoesWork name journal journal' prepared.work status → Noting journal' journal'' before prepared status outcome
    → Worked name journal journal'' prepared outcome
work_noted name journal journal' journal'' prepared status before OutOfMemory same does notes = absurd (is_end notes.2)
work_noted name journal journal' journal'' prepared status before (Done code) same does notes =
    by_note name journal journal' journal'' prepared status (Done code) does
    (subst (λ n. Noting journal' journal'' n prepared status (Done code)) same notes)
work_noted name journal journal' journal'' prepared status before (Unnoted code) same does notes =
    by_note name journal journal' journal'' prepared status (Unnoted code) does
    (subst (λ n. Noting journal' journal'' n prepared status (Unnoted code)) same notes)

-- after a text

-- If a text is empty, then its length is 0.
pub no_bytes : (text : List ℕ) (empty : Bool) → (IsTrue empty ↔ (text ≡ [])) → empty ≡ true → length text ≤ 0
no_bytes text empty means is = let none = ap length (means.0 is) in omega (arith, none)

-- If a text is not empty, then its length is more than 0.
pub some_bytes : (text : List ℕ) (empty : Bool) → (IsTrue empty ↔ (text ≡ [])) → empty ≡ false → 0 < length text
some_bytes [] empty means is = absurd (false≢true (sym is ∙ means.1 refl))
some_bytes (b ∷ text) empty means is = omega (arith)

-- For `say_before`: if there is no first text, then nothing need be said.
pub nothing_opened : (journal : List Event) (said : List ℕ) → length said ≤ 0 → IsOpened journal journal said
nothing_opened journal [] none = ([], silent, sym (append-nil journal))
nothing_opened journal (b ∷ said) none = absurd (omega (arith, none))

-- For `say_before`: if there is a first text and it was said, then the call opened with it.
pub text_opened : (journal journal' : List Event) (said : List ℕ) (answer : TellAnswer) → 0 < length said
    → journal' ≡ journal ++ Say said answer ∷ []
    → IsOpened journal journal' said
text_opened journal journal' [] answer some says = absurd (omega (arith, some))
text_opened journal journal' (b ∷ said) answer some says = (Say (b ∷ said) answer ∷ [], spoken, says)

-- a call that only said texts after a first one only said texts
only_says_more : {said : List ℕ} {opened : List Event} → Opens said opened → (journal journal' : List Event)
    → OnlySays (journal ++ opened) journal' → OnlySays journal journal'
only_says_more silent journal journal' only = subst (λ j. OnlySays j journal') (append-nil journal) only
only_says_more (spoken {b} {text} {told}) journal journal' (said, grown, are) =
    (Say (b ∷ text) told ∷ said, grown ∙ append_assoc journal (Say (b ∷ text) told ∷ []) said, are)

-- For `say_and_carry_out`: if the first text was said and then the work done, or memory lacked for it, then that is what a call says and
-- does.
pub work_spoken : (name : List ℕ) (journal journal' journal'' : List Event) (prepared : Prepared) (said : List ℕ) (outcome : Outcome)
    → said ≡ prepared.said
    → IsOpened journal journal' said → Worked name journal' journal'' prepared outcome → Spoken name journal journal'' prepared outcome
work_spoken name journal journal' journal'' prepared said OutOfMemory same (opened, opens, grown) only =
    only_says_more opens journal journal'' (subst (λ j. OnlySays j journal'') grown only)
work_spoken name journal journal' journal'' prepared said (Done status) same (opened, opens, grown) does =
    (opened, subst (λ t. Opens t opened) same opens, subst (λ j. DoesNoted name j journal'' prepared (Done status)) grown does)
work_spoken name journal journal' journal'' prepared said (Unnoted status) same (opened, opens, grown) does =
    (opened, subst (λ t. Opens t opened) same opens, subst (λ j. DoesNoted name j journal'' prepared (Unnoted status)) grown does)

-- after its variables were set

-- For `carried_out`: if all variables were set and then the text said and the work done, then the line was carried out.
pub carried : (name : List ℕ) (journal journal' journal'' : List Event) (prepared : Prepared) (children : List Variable)
    (before after : List HostEvent) (outcome : Outcome)
    → children ≡ prepared.children → Noted before after (λ events. events ≡ settings (length journal) children) → journal' ≡ journal
    → Spoken name journal' journal'' prepared outcome
    → Noted before after (λ events. Carried name journal journal'' prepared events outcome)
carried name journal journal' journal'' prepared children before after OutOfMemory are (events, grown, set) same only =
    (events, grown, subst (λ j. OnlySays j journal'') same only)
carried name journal journal' journal'' prepared children before after (Done status) are (events, grown, set) same does =
    (events, grown, (set ∙ ap (settings (length journal)) are, subst (λ j. OpensWork name j journal'' prepared (Done status)) same does))
carried name journal journal' journal'' prepared children before after (Unnoted status) are (events, grown, set) same does =
    (events, grown, (set ∙ ap (settings (length journal)) are, subst (λ j. OpensWork name j journal'' prepared (Unnoted status)) same does))

-- For `carried_out`: if memory lacked for a variable, then nothing was said and nothing done.
pub nothing_carried : (name : List ℕ) (journal journal' : List Event) (prepared : Prepared) (before after : List HostEvent)
    → Noted before after (λ events. ⊤) → journal' ≡ journal
    → Noted before after (λ events. Carried name journal journal' prepared events OutOfMemory)
nothing_carried name journal journal' prepared before after (events, grown, set) same =
    (events, grown, ([], same ∙ sym (append-nil journal), tt))

-- the whole call

-- `prepare` holds for all facts that say what the table says
abbrev pub Prepares : Facts → Calling → Option (List ℕ) → List (List ℕ) → ℕ → Prepared → List HostEvent → Type 0
Prepares F' calling own args seed prepared events = (G : Facts) → Extends F' G → Comes G calling own args seed events prepared

-- the events of all steps make the journal and the notes of the call
with_notes : {journal mid journal'' : List Event} {F' : Facts} {first notes notes' notes'' : List HostEvent} (calling : Calling)
    (own : Option (List ℕ)) (args : List (List ℕ)) (seed : ℕ)
    (prepared : Prepared) (outcome : Outcome) → Going journal mid first notes F'
    → Noted notes notes' (Prepares F' calling own args seed prepared)
    → Noted notes' notes'' (λ events. (events ≡ settings (length mid) prepared.children)
    × OpensWork calling.name mid journal'' prepared outcome)
    → Compiled journal journal'' first notes'' calling own args seed outcome
with_notes {journal} {F' = F'} calling own args seed prepared outcome before (resolved, grown, comes)
    (set, set_after, (set_is, (opened, opens, does))) = record {
      asked = before.asked;
      tried = before.tried;
      said = opened ++ does.did ++ does.noted;
      resolved = resolved;
      set = set;
      facts = F';
      questions = before.questions;
      journal_grows =
          does.journal_grows ∙ ap (λ j. j ++ opened ++ does.did ++ does.noted) before.journal_grows
          ∙ joined (journal ++ before.asked) opened does.did does.noted;
      notes_grow = set_after ∙ ap (λ n. n ++ set) grown ∙ ap (λ n. n ++ resolved ++ set) before.notes_grow;
      goes_by = goes_by outcome before;
      ends =
          subst (λ events. Ends F' (length (journal ++ before.asked)) calling own args seed outcome resolved events
          (opened ++ does.did ++ does.noted))
          (sym (set_is ∙ ap (λ j. settings (length j) prepared.children) before.journal_grows))
          (worked opened does.did (comes F' (extends_refl F')) opens does.does does.told);
    }

-- For `compile_settled`: if all was prepared and carried out, then the call is `Compiled` with the outcome of its work: done, or for lack
-- of memory.
compiled_by : {journal mid journal'' : List Event} {F' : Facts} {first notes notes' notes'' : List HostEvent} (calling : Calling)
    (own : Option (List ℕ)) (args : List (List ℕ)) (seed : ℕ)
    (prepared : Prepared) (outcome : Outcome) → Going journal mid first notes F'
    → Noted notes notes' (Prepares F' calling own args seed prepared)
    → Noted notes' notes'' (λ events. Carried calling.name mid journal'' prepared events outcome)
    → Compiled journal journal'' first notes'' calling own args seed outcome
compiled_by calling own args seed prepared (Done status) before prepares carries =
    with_notes calling own args seed prepared (Done status) before prepares carries
compiled_by calling own args seed prepared (Unnoted status) before prepares carries =
    with_notes calling own args seed prepared (Unnoted status) before prepares carries
compiled_by {F' = F'} calling own args seed prepared OutOfMemory before (resolved, grown, comes) (set, set_after, only) = record {
  asked = before.asked;
  tried = before.tried;
  said = only.0;
  resolved = resolved;
  set = set;
  facts = F';
  questions = before.questions;
  journal_grows = only.1 ∙ ap (λ j. j ++ only.0) before.journal_grows;
  notes_grow = set_after ∙ ap (λ n. n ++ set) grown ∙ ap (λ n. n ++ resolved ++ set) before.notes_grow;
  goes_by = goes_by OutOfMemory before;
  ends = cut_short only.2;
}

-- For `compile_settled`: if what was prepared was carried out in the name of the call, then the call is `Compiled`.
pub compiled_done : {journal mid journal'' : List Event} {F' : Facts} {first notes notes' notes'' : List HostEvent} (calling : Calling)
    (own : Option (List ℕ)) (args : List (List ℕ)) (seed : ℕ)
    (prepared : Prepared) (name : List ℕ) (outcome : Outcome) → name ≡ calling.name → Going journal mid first notes F'
    → Noted notes notes' (Prepares F' calling own args seed prepared)
    → Noted notes' notes'' (λ events. Carried name mid journal'' prepared events outcome)
    → Compiled journal journal'' first notes'' calling own args seed outcome
compiled_done {mid = mid} {journal'' = journal''} {notes' = notes'}
    {notes'' = notes''} calling own args seed prepared name outcome named before prepares carries =
    compiled_by calling own args seed prepared outcome before prepares
    (subst (λ n. Noted notes' notes'' (λ events. Carried n mid journal'' prepared events outcome)) named carries)

-- the text that `prepare` refuses with holds for all facts that say what the table says
abbrev pub Declined : Facts → Calling → Option (List ℕ) → List (List ℕ) → ℕ → Stop → List HostEvent → Type 0
Declined F' calling own args seed stop events = (G : Facts) → Extends F' G → IfTold stop (Refuses G calling own args seed events)

-- For `say_stop`: if a refusal was said with the status 1, then the call is `Compiled` with it.
refusal_said : {journal mid journal'' : List Event} {F' : Facts} {first notes notes' : List HostEvent} (calling : Calling)
    (own : Option (List ℕ)) (args : List (List ℕ)) (seed : ℕ)
    (text : List ℕ) (status : ℕ) → Going journal mid first notes F'
    → Noted notes notes' (λ events. (G : Facts) → Extends F' G → Refuses G calling own args seed events text)
    → TellsText mid journal'' text (Done status) → Compiled journal journal'' first notes' calling own args seed (Done status)
refusal_said {journal} {F' = F'} {first = first} calling own args seed text status before (resolved, grown, refuses) (told, one, says) =
    record {
      asked = before.asked;
      tried = before.tried;
      said = Say text told ∷ [];
      resolved = resolved;
      set = [];
      facts = F';
      questions = before.questions;
      journal_grows = says ∙ ap (λ j. j ++ Say text told ∷ []) before.journal_grows;
      notes_grow = grown ∙ ap (λ n. n ++ resolved) before.notes_grow ∙ sym (append-nil (first ++ before.tried ++ resolved));
      goes_by = goes_by (Done status) before;
      ends =
          subst (λ s. Ends F' (length (journal ++ before.asked)) calling own args seed (Done s) resolved [] (Say text told ∷ [])) (sym one)
          (refused (refuses F' (extends_refl F')));
    }

-- For `say_stop`: if a refusal was said, or memory lacked and nothing was, then the call is `Compiled`.
pub compiled_stopped : {journal mid journal'' : List Event} {F' : Facts} {first notes notes' : List HostEvent} (calling : Calling)
    (own : Option (List ℕ)) (args : List (List ℕ)) (seed : ℕ)
    (stop : Stop) (outcome : Outcome) → Going journal mid first notes F' → Noted notes notes' (Declined F' calling own args seed stop)
    → TellsStop mid journal'' stop outcome → Compiled journal journal'' first notes' calling own args seed outcome
compiled_stopped calling own args seed (Told text) (Done status) before declined tells =
    refusal_said calling own args seed text status before declined tells
compiled_stopped calling own args seed (Undone text line) (Done status) before declined tells =
    refusal_said calling own args seed text status before declined tells
compiled_stopped calling own args seed Memory (Done status) before declined tells = absurd tells
compiled_stopped calling own args seed stop (Unnoted status) before declined tells = absurd tells
compiled_stopped {journal} {F' = F'} {first = first} calling own args seed stop OutOfMemory before (resolved, grown, refuses) same =
    record {
      asked = before.asked;
      tried = before.tried;
      said = [];
      resolved = resolved;
      set = [];
      facts = F';
      questions = before.questions;
      journal_grows = same ∙ before.journal_grows ∙ sym (append-nil (journal ++ before.asked));
      notes_grow = grown ∙ ap (λ n. n ++ resolved) before.notes_grow ∙ sym (append-nil (first ++ before.tried ++ resolved));
      goes_by = goes_by OutOfMemory before;
      ends = cut_short tt;
    }

-- memory lacked before

-- For `compile`: if memory lacked for the folder of temporaries, then the call is `Compiled` without facts.
pub compiled_by_none : {journal mid : List Event} {notes notes' : List HostEvent} (calling : Calling) (own : Option (List ℕ))
    (args : List (List ℕ)) (seed : ℕ)
    → BeginsToGo journal mid notes notes' → Compiled journal mid notes notes' calling own args seed OutOfMemory
compiled_by_none {journal} {notes = notes} calling own args seed before = record {
  asked = before.asked;
  said = [];
  tried = before.tried;
  resolved = [];
  set = [];
  facts = no_facts;
  questions = before.questions;
  journal_grows = before.journal_grows ∙ sym (append-nil (journal ++ before.asked));
  notes_grow = before.notes_grow ∙ sym (append-nil (notes ++ before.tried)) ∙ sym (append-nil (notes ++ before.tried ++ []));
  goes_by = tried_goes before.is_tried;
  ends = cut_short tt;
}
