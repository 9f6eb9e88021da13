use Rattle.drv_run.proofs.Tellings.{pipe_after_questions}
use Rattle.drv_run.specs.Calls.{DoesWork, Drove, Ends, OnlySays}
use Rattle.drv_run.specs.Drives.{Comes, Drives}
use Rattle.drv_run.specs.Code.Telling.{EndsWork}
use Rattle.drv_run.specs.declared.ending.Ending.TheVariants.{Done, OutOfMemory, Refused}
use Rattle.drv_run.specs.declared.ending.Ending.{Ending}
use Rattle.drv_run.specs.declared.work.Work.{Work}
use Rattle.drv_system.proofs.Asking.{are_questions, extends_refl}
use Rattle.drv_system.specs.Asking.{AreNew, Asks, Extends}
use Rattle.drv_system.specs.Facts.{Facts, learn, no_facts}
use Rattle.drv_system.specs.Running.{run_of}
use Rattle.drv_system.specs.declared.event.Event.{Event}
use Rattle.drv_words.specs.Stepping.{pipe_pending}
use Rattle.std.proofs.Common.{◌≡◌, ◌∙◌, ◌++◌, Err, List, Ok, [], ap, codes, false, refl, subst, sym, ℕ}
use Rattle.std.proofs.lemmas.List.{append-nil}

-- For `drive`: each way to end is one that the contract has (`Drove`): before its work is done, for a refusal or lack of memory; with its
-- work done; or for lack of memory in its work.
-- Names: `F` is what is known of the outside before the call. `F'` is what is known after the call. `G` is the facts of all answers of the
-- call. `args` is the arguments of the call. `seed` is the number from which names of temporaries are made. `journal` is the journal
-- before. `journal'` is the journal after. `journal''` is the journal after the work. `ending` is how the call ends. `work` is what the
-- call is to do. `Comes F args seed result` says that arguments ask for this work, or end the call so. `Asks` says that a call only asked,
-- and learned the answers. `Extends F G` says that G keeps every answer of F. `Drove` is the contract of a whole call. `run_of` is the
-- events of a run among those of a journal. `pipe_pending` says that a pipe is pending after events. `learn F events` is the facts after
-- events.

-- the answers to the questions of a call that began with an empty table
known : {journal journal' : List Event} {F F' : Facts} → F ≡ no_facts → (asks : Asks journal journal' F F') → F' ≡ learn no_facts asks.asked
known empty asks = asks.facts_grow ∙ ap (λ G. learn G asks.asked) empty

-- a call that ends before its work says nothing after its questions
ends_before : (F : Facts) (args : List (List ℕ)) (seed : ℕ) (ending : Ending) → Comes F args seed (Err ending) → Ends F args seed ending []
ends_before F args seed (Done status) comes = absurd comes
ends_before F args seed (Refused refusal) comes = (comes, refl)
ends_before F args seed OutOfMemory comes = tt

-- a call that ended before its work was done has an ending of the contract
pub drove_before : {journal journal' : List Event} {F F' : Facts} (args : List (List ℕ)) (seed : ℕ) (ending : Ending) → F ≡ no_facts
    → Asks journal journal' F F' → ((G : Facts) → Extends F' G → Comes G args seed (Err ending)) → Drove journal journal' args seed ending
drove_before {journal} {F' = F'} args seed ending empty asks comes = record {
  asked = asks.asked;
  said = [];
  questions = subst (λ G. AreNew G asks.asked) empty asks.questions;
  journal_grows = asks.journal_grows ∙ sym (append-nil (journal ++ asks.asked));
  ends = ends_before (learn no_facts asks.asked) args seed ending
      (subst (λ G. Comes G args seed (Err ending)) (known empty asks) (comes F' (extends_refl F')));
}

-- a call whose work is done
drove_done : {journal journal' journal'' : List Event} {F F' : Facts} {args : List (List ℕ)} {seed status : ℕ} {work : Work} → F ≡ no_facts
    → Asks journal journal' F F' → ((G : Facts) → Extends F' G → Comes G args seed (Ok work))
    → DoesWork (codes "gdrv") journal' journal'' work status
    → Drove journal journal'' args seed (Done status)
drove_done {F' = F'} {args = args} {seed = seed} {work = work} empty asks comes does = record {
  asked = asks.asked;
  said = does.0;
  questions = subst (λ G. AreNew G asks.asked) empty asks.questions;
  journal_grows = does.1 ∙ ap (λ events. events ++ does.0) asks.journal_grows;
  ends = (work, subst (λ G. Drives G args seed work) (known empty asks) (comes F' (extends_refl F')), does.2);
}

-- a call that lacked memory for its work: it only said something
drove_short : {journal journal' journal'' : List Event} {F F' : Facts} {args : List (List ℕ)} {seed : ℕ} → F ≡ no_facts
    → Asks journal journal' F F' → OnlySays journal' journal'' → Drove journal journal'' args seed OutOfMemory
drove_short empty asks only = record {
  asked = asks.asked;
  said = only.0;
  questions = subst (λ G. AreNew G asks.asked) empty asks.questions;
  journal_grows = only.1 ∙ ap (λ events. events ++ only.0) asks.journal_grows;
  ends = only.2;
}

-- a call that had a work, however that ended, has an ending of the contract
pub drove_with_work : {journal journal' journal'' : List Event} {F F' : Facts} (args : List (List ℕ)) (seed : ℕ) (work : Work)
    (ending : Ending) → F ≡ no_facts
    → Asks journal journal' F F' → ((G : Facts) → Extends F' G → Comes G args seed (Ok work)) → EndsWork journal' journal'' work ending
    → Drove journal journal'' args seed ending
drove_with_work args seed work (Done status) empty asks comes does = drove_done empty asks comes does
drove_with_work args seed work (Refused refusal) empty asks comes does = absurd does
drove_with_work args seed work OutOfMemory empty asks comes only = drove_short empty asks only

-- after questions alone no pipe is pending
pub no_pipe_after_questions : {journal journal' : List Event} {F F' : Facts} → Asks journal journal' F F'
    → pipe_pending (run_of journal) ≡ false → pipe_pending (run_of journal') ≡ false
no_pipe_after_questions {journal} {F = F} asks before =
    ap (λ after. pipe_pending (run_of after)) asks.journal_grows
    ∙ pipe_after_questions journal asks.asked (are_questions F asks.asked asks.questions) before
