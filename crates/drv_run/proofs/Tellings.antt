use Rattle.drv_run.specs.Calls.{Announces, AreSaid, DoesWork, OnlySays, Says, notices_text}
use Rattle.drv_run.specs.Executed.{Executed}
use Rattle.drv_run.specs.Code.Telling.{AnnouncesPlan, ShowsPlan}
use Rattle.drv_run.specs.declared.work.Manner.{Manner}
use Rattle.drv_run.specs.declared.work.Telling.TheVariants.{Commands, Notices}
use Rattle.drv_run.specs.declared.work.Telling.{Telling}
use Rattle.drv_run.specs.declared.work.Work.TheVariants.{CarryOut, Dump}
use Rattle.drv_system.proofs.Running.{run_of-append}
use Rattle.drv_system.specs.Asking.{AreQuestions}
use Rattle.drv_system.specs.Running.{run_of}
use Rattle.drv_system.specs.declared.event.Event.TheVariants.{Kind, Put, Read, Run, Say, Variable}
use Rattle.drv_system.specs.declared.event.Event.{Event}
use Rattle.drv_words.specs.Lines.{lines_of}
use Rattle.drv_words.specs.Printed.{lines_text}
use Rattle.drv_words.specs.Stepping.{pipe_pending}
use Rattle.drv_words.specs.declared.plan.Plan.{Plan}
use Rattle.std.proofs.Common.{◌≡◌, ◌∙◌, Err, IfOk, List, [], ◌∷◌, ◌++◌, Ok, OnErr, Result, ap, append_assoc, false, map, refl, subst}
use Rattle.std.proofs.Common.{sym, ℕ}
use Rattle.std.proofs.lemmas.List.{append-nil}

-- For `do_work`: the texts that a call prints (notices, and with -v the commands), and the run after them. Only a run makes steps, so
-- questions and texts leave no pipe pending.
-- Names: `journal` is the journal before. `journal'` is the journal after. `plan` is the plan. `name` is the name of the program, for its
-- messages. `said` is what was said: messages for the user, and printed texts. `run_of` is the events of a run among those of a journal.
-- `pipe_pending` says that a pipe is pending after events. `AreSaid` says that events are no steps of a run.

-- to print a text makes no step of a run
said_only : (text : List ℕ) (status : ℕ) (said : List Event) → Says text status said → AreSaid said
said_only [] status said is = subst (λ events. AreSaid events) (sym is.1) tt
said_only (b ∷ text) status said is = subst (λ events. AreSaid events) (sym is.1) tt

-- two lists of texts are texts alone
said_both : (first second : List Event) → AreSaid first → AreSaid second → AreSaid (first ++ second)
said_both [] second a b = b
said_both (Say text answer ∷ first) second a b = said_both first second a b
said_both (Read path answer ∷ first) second a b = absurd a
said_both (Kind path kind ∷ first) second a b = absurd a
said_both (Variable name value ∷ first) second a b = absurd a
said_both (Put text answer ∷ first) second a b = absurd a
said_both (Run e ∷ first) second a b = absurd a

-- what is said before a plan is carried out is texts alone
pub announces_only : (name : List ℕ) (telling : Telling) (plan : Plan) (said : List Event) → Announces name telling plan said → AreSaid said
announces_only name Commands plan said (status, shows) =
    subst (λ events. AreSaid events) (sym shows.joined)
    (said_both shows.notices shows.commands (said_only (notices_text name plan.notices) shows.noticed shows.notices shows.notices_are)
    (said_only (lines_text (lines_of plan)) status shows.commands shows.commands_are))
announces_only name Notices plan said (status, says) = said_only (notices_text name plan.notices) status said says

-- what is said, and then the run

-- the texts, and then the run, are the plan carried out
pub plan_carried_out : (name : List ℕ) (journal journal' journal'' : List Event) (plan : Plan) (manner : Manner) (status : ℕ)
    → AnnouncesPlan name journal journal' manner.telling plan → Executed plan manner.pass_codes manner.window journal' journal'' status
    → DoesWork name journal journal'' (CarryOut plan manner) status
plan_carried_out name journal journal' journal'' plan manner status announces executes = (
  announces.0 ++ map Run executes.events,
  executes.journal_grows ∙ ap (λ before. before ++ map Run executes.events) announces.1
      ∙ append_assoc journal announces.0 (map Run executes.events),
  record {
    announced = announces.0;
    ran = map Run executes.events;
    joined = refl;
    announces = announces.2;
    executes = record {
      events = executes.events;
      journal_grows = refl;
      windowed = executes.windowed;
      few =
          executes.few;
      status_is = executes.status_is;
    };
  },
)

-- no step of a run is among questions and texts, so no pipe is pending after them that was not before

-- no step of a run is among texts
pub none_ran : (said : List Event) → AreSaid said → run_of said ≡ []
none_ran [] is = refl
none_ran (Say text answer ∷ said) is = none_ran said is
none_ran (Read path answer ∷ said) is = absurd is
none_ran (Kind path kind ∷ said) is = absurd is
none_ran (Variable name value ∷ said) is = absurd is
none_ran (Put text answer ∷ said) is = absurd is
none_ran (Run e ∷ said) is = absurd is

-- no step of a run is among questions
pub none_ran_asking : (asked : List Event) → AreQuestions asked → run_of asked ≡ []
none_ran_asking [] is = refl
none_ran_asking (Read path answer ∷ asked) is = none_ran_asking asked is.1
none_ran_asking (Kind path kind ∷ asked) is = none_ran_asking asked is.1
none_ran_asking (Variable name value ∷ asked) is = none_ran_asking asked is.1
none_ran_asking (Say text answer ∷ asked) is = absurd is.0
none_ran_asking (Put text answer ∷ asked) is = absurd is.0
none_ran_asking (Run e ∷ asked) is = absurd is.0

-- events without a step of a run leave a pipe pending or not
pipe_stays : (journal events : List Event) → run_of events ≡ [] → pipe_pending (run_of journal) ≡ false
    → pipe_pending (run_of (journal ++ events)) ≡ false
pipe_stays journal events none before =
    ap pipe_pending (run_of-append journal events ∙ ap (λ run. run_of journal ++ run) none ∙ append-nil (run_of journal)) ∙ before

-- where no pipe was pending, none is after questions
pub pipe_after_questions : (journal asked : List Event) → AreQuestions asked → pipe_pending (run_of journal) ≡ false
    → pipe_pending (run_of (journal ++ asked)) ≡ false
pipe_after_questions journal asked are before = pipe_stays journal asked (none_ran_asking asked are) before

-- where no pipe was pending, none is after what is said of a plan
pub no_pipe_after_announced : (name : List ℕ) (journal journal' : List Event) (telling : Telling) (plan : Plan)
    → AnnouncesPlan name journal journal' telling plan → pipe_pending (run_of journal) ≡ false → pipe_pending (run_of journal') ≡ false
no_pipe_after_announced name journal journal' telling plan announces before =
    ap (λ after. pipe_pending (run_of after)) announces.1
    ∙ pipe_stays journal announces.0 (none_ran announces.0 (announces_only name telling plan announces.0 announces.2)) before

-- nor after texts, and a work that runs nothing

-- where no pipe was pending, none is after texts
pub no_pipe_after_texts : (journal journal' : List Event) → OnlySays journal journal' → pipe_pending (run_of journal) ≡ false
    → pipe_pending (run_of journal') ≡ false
no_pipe_after_texts journal journal' only before = ap (λ after. pipe_pending (run_of after)) only.1
    ∙ pipe_stays journal only.0 (none_ran only.0 only.2) before

-- where no pipe was pending, none is after a dump
pub no_pipe_after_dump : {E : Type 0} (name : List ℕ) (journal journal' : List Event) (text : List ℕ) (result : Result ℕ E)
    → IfOk result (λ status. DoesWork name journal journal' (Dump text) status)
    → OnErr result (OnlySays journal journal') → pipe_pending (run_of journal) ≡ false → pipe_pending (run_of journal') ≡ false
no_pipe_after_dump name journal journal' text (Ok status) does only before = ap (λ after. pipe_pending (run_of after)) does.1
    ∙ pipe_stays journal does.0 (ap run_of does.2.1) before
no_pipe_after_dump name journal journal' text (Err e) does only before = no_pipe_after_texts journal journal' only before

-- where no pipe was pending, none is after a plan that is shown
pub no_pipe_after_shown : {E : Type 0} (name : List ℕ) (journal journal' : List Event) (plan : Plan) (result : Result ℕ E)
    → IfOk result (λ status. ShowsPlan name journal journal' plan status)
    → OnErr result (OnlySays journal journal') → pipe_pending (run_of journal) ≡ false → pipe_pending (run_of journal') ≡ false
no_pipe_after_shown name journal journal' plan (Ok status) shows only before =
    no_pipe_after_announced name journal journal' Commands plan (shows.0, shows.1, (status, shows.2)) before
no_pipe_after_shown name journal journal' plan (Err e) shows only before = no_pipe_after_texts journal journal' only before
