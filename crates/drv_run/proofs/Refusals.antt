use Rattle.drv_run.proofs.Tellings.{announces_only, none_ran, none_ran_asking}
use Rattle.drv_run.specs.Calls.{Does, Drove, OnlyAsked}
use Rattle.drv_run.specs.declared.ending.Ending.TheVariants.{Refused}
use Rattle.drv_run.specs.declared.ending.Refusal.{Refusal}
use Rattle.drv_run.specs.declared.work.Telling.TheVariants.{Commands}
use Rattle.drv_run.specs.declared.work.Work.TheVariants.{Show}
use Rattle.drv_system.proofs.Asking.{are_questions}
use Rattle.drv_system.proofs.Running.{run_of-append}
use Rattle.drv_system.specs.Facts.{no_facts}
use Rattle.drv_system.specs.Running.{run_of}
use Rattle.drv_system.specs.declared.event.Event.{Event}
use Rattle.drv_words.specs.declared.plan.Plan.{Plan}
use Rattle.std.proofs.Common.{◌≡◌, ◌∙◌, ◌++◌, [], List, ap, ℕ}
use Rattle.std.proofs.lemmas.List.{append-nil}

-- For refused_does_nothing and shown_starts_nothing: a call that is refused, or whose plan is only shown (-###), makes no step of a run.
-- Names: `run_of` is the events of a run among those of a journal. The names of temporaries contain the `seed`.

-- a call that is refused asked, and did nothing else
pub does_nothing : (journal later : List Event) (args : List (List ℕ)) (seed : ℕ) (refusal : Refusal)
    → Drove journal later args seed (Refused refusal) → OnlyAsked journal later
does_nothing journal later args seed refusal d = record {
  asked = d.asked;
  questions = d.questions;
  journal_grows = grows;
  no_step = ap run_of grows ∙ run_of-append journal d.asked
      ∙ ap (λ run. run_of journal ++ run) (none_ran_asking d.asked (are_questions no_facts d.asked d.questions))
      ∙ append-nil (run_of journal);
}
  where
    -- Plan: `grows` says that the journal grew by questions alone.
    grows : later ≡ journal ++ d.asked
    grows = d.journal_grows ∙ ap (λ said. journal ++ d.asked ++ said) d.ends.1 ∙ append-nil (journal ++ d.asked)

-- a plan that is shown makes no step of a run
pub makes_no_step : (name : List ℕ) (plan : Plan) (status : ℕ) (said : List Event) → Does name (Show plan) status said → run_of said ≡ []
makes_no_step name plan status said shows = none_ran said (announces_only name Commands plan said (status, shows))
