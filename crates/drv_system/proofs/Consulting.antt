use Rattle.drv_system.proofs.Asking.{asks_new, asks_unchanged}
use Rattle.drv_system.specs.Asking.{Asks, Consults, IsNew}
use Rattle.drv_system.specs.Facts.{Facts, learnt}
use Rattle.drv_system.specs.declared.event.Event.{Event}
use Rattle.std.proofs.Common.{refl}
use Rattle.std.specs.Prelude.{◌≡◌, Err, List, [], ◌∷◌, ◌++◌, None, Ok, Option, Result, Some}

-- For `FactTable`: one look-up, over the journal and the facts before and after it.
-- Names: `X`, `Y`: any type. `E`: the type of a refusal.

module _ {X : Type 0} (journal journal' : List Event) (F F' : Facts) (event : X → Event) (before after : Option X)
    (new : None ≡ before) where
  -- the question was answered
  pub consulted : {Y : Type 0} (E : Type 0) (answer : X) (y : Y) → after ≡ Some answer
      → journal' ≡ journal ++ event answer ∷ [] → F' ≡ learnt F (event answer)
      → Consults {E = E} journal journal' F F' event before (Ok y) after
  consulted E answer y is journal_grows facts_grow = rw (← new, is) (journal_grows, facts_grow)

  -- there was no memory to ask it
  pub not_consulted : (Y : Type 0) {E : Type 0} (e : E) → journal' ≡ journal → F' ≡ F
      → Consults {Y = Y} journal journal' F F' event before (Err e) after
  not_consulted Y e same_journal same_facts = rw (← new) (same_journal, same_facts)

-- a look-up only asks
module _ {X Y E : Type 0} (journal journal' : List Event) (F F' : Facts) (event : X → Event) where
  -- a look-up that asks, or finds the answer, only asked
  pub consults_asks : (before after : Option X) (result : Result Y E) → ((answer : X) → before ≡ None → IsNew F (event answer))
      → Consults journal journal' F F' event before result after → Asks journal journal' F F'
  consults_asks (Some known) after result question is = asks_unchanged is.0 is.1
  consults_asks None (Some answer) (Ok y) question is = asks_new (event answer) (question answer refl) is.0 is.1
  consults_asks None None (Ok y) question is = absurd is
  consults_asks None after (Err e) question is = asks_unchanged is.0 is.1
