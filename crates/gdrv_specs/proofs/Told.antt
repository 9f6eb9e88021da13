use Rattle.drv_run.specs.Drives.{Comes}
use Rattle.drv_run.specs.declared.ending.Ending.TheVariants.{Done, OutOfMemory, Refused}
use Rattle.drv_run.specs.declared.ending.Ending.{Ending}
use Rattle.drv_run.specs.declared.work.Work.{Work}
use Rattle.drv_system.proofs.Asking.{extends_refl}
use Rattle.drv_system.specs.Asking.{AreNew, Asks, Extends}
use Rattle.drv_system.specs.Facts.{Facts, learn, no_facts}
use Rattle.drv_system.specs.declared.event.Event.{Event}
use Rattle.gdrv_specs.specs.Told.{Stops, Telling, Tells, TellsWork}
use Rattle.gdrv_specs.specs.declared.outcome.Outcome.TheVariants.{Ended}
use Rattle.gdrv_specs.specs.declared.outcome.Outcome.{Outcome}
use Rattle.std.proofs.Common.{◌≡◌, ◌∙◌, ◌++◌, Err, List, Ok, [], ap, inl, inr, refl, subst, sym, ℕ}
use Rattle.std.proofs.lemmas.List.{append-nil}

-- For `tell_driver_plan` and `tell_plan` (src/planning.rt): a call adds questions to the journal, and one text at most.
-- Names: `F`, `F'` and `G` are what is known of the outside. `journal` is the events of the system before, `journal'` after the questions,
-- and `journal''` at the end. `line` is the words of the line. `seed` is that for the names of temporaries. `work` is what the line asks
-- for, and `ending` how it ends in place of that. `T` says what is printed of a work. `outcome` is how the call ends. `Comes F args seed
-- result`: the arguments ask for that work, or end so (drv_run). `Asks journal journal' F F'`: questions were added, and their answers to
-- the facts (drv_system). `learn F events` is F with the answers of these events.

-- the answers to the questions of a call that began with an empty table
pub known : {journal journal' : List Event} {F F' : Facts} → F ≡ no_facts → (asks : Asks journal journal' F F')
    → F' ≡ learn no_facts asks.asked
known empty asks = asks.facts_grow ∙ ap (λ G. learn G asks.asked) empty

-- a line that has no work ends the call so, whatever would have been printed
pub stops : (F : Facts) (line : List (List ℕ)) (seed : ℕ) (ending : Ending) → Comes F line seed (Err ending)
    → Stops F line seed (Ended ending) []
stops F line seed (Done status) comes = absurd comes
stops F line seed (Refused refusal) comes = (comes, refl)
stops F line seed OutOfMemory comes = refl

-- before its work is printed
pub tells_before : {journal journal' : List Event} {F F' : Facts} (T : Telling) (line : List (List ℕ)) (seed : ℕ) (ending : Ending)
    → F ≡ no_facts
    → Asks journal journal' F F' → ((G : Facts) → Extends F' G → Comes G line seed (Err ending))
    → Tells T journal journal' line seed (Ended ending)
tells_before {journal} {F' = F'} T line seed ending empty asks comes = record {
  asked = asks.asked;
  told = [];
  questions = subst (λ G. AreNew G asks.asked) empty asks.questions;
  journal_grows = asks.journal_grows ∙ sym (append-nil (journal ++ asks.asked));
  ends =
      inl (stops (learn no_facts asks.asked) line seed ending (subst (λ G. Comes G line seed (Err ending)) (known empty asks) (comes F'
      (extends_refl F'))));
}

-- a work whose text was written
pub tells_after : {journal journal' journal'' : List Event} {F F' : Facts} (T : Telling) (line : List (List ℕ)) (seed : ℕ) (work : Work)
    (outcome : Outcome)
    → F ≡ no_facts → Asks journal journal' F F' → ((G : Facts) → Extends F' G → Comes G line seed (Ok work))
    → TellsWork T journal' journal'' work outcome
    → Tells T journal journal'' line seed outcome
tells_after {F' = F'} T line seed work outcome empty asks comes tells = record {
  asked = asks.asked;
  told = tells.0;
  questions = subst (λ G. AreNew G asks.asked) empty asks.questions;
  journal_grows = tells.1 ∙ ap (λ events. events ++ tells.0) asks.journal_grows;
  ends = inr (work, subst (λ G. Comes G line seed (Ok work)) (known empty asks) (comes F' (extends_refl F')), tells.2);
}

-- a call that lacks memory before it asks anything
pub tells_nothing : (T : Telling) (journal : List Event) (line : List (List ℕ)) (seed : ℕ)
    → Tells T journal journal line seed (Ended OutOfMemory)
tells_nothing T journal line seed = record {
  asked = [];
  told = [];
  questions = tt;
  journal_grows = sym (append-nil journal) ∙ sym (append-nil (journal ++ []));
  ends = inl refl;
}
