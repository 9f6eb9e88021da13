use Rattle.drv_system.specs.Code.Asked.{Asked}
use Rattle.drv_system.specs.declared.outside.Outside.{Outside}
use Rattle.drv_system.proofs.Asking.{asks_extends, asks_nothing, asks_then, extends_then}
use Rattle.drv_system.specs.Asking.{Extends}
use Rattle.drv_system.specs.Facts.{Facts}
use Rattle.drv_system.specs.declared.event.Event.{Event}
use Rattle.std.proofs.Common.{◌∙◌, List, refl}

-- For each call that asks through `Outside`: several calls that only ask, one after another, only ask.
-- Names: `o` is the outside: the system, and the facts that are known of it.

-- the same of an `Outside`, which has the system and its facts together
module _ {S : Type 0} {events : S → List Event} where
  -- a call that leaves the outside as it was only asked
  pub asked_none : (o : Outside S) → Asked events o o
  asked_none o = record { asks = asks_nothing (events o.sys.now) o.facts.now; same_sys = refl; same_facts = refl }

  -- two calls that only asked, one after the other, only asked
  pub asked_further : {o p q : Outside S} → Asked events o p → Asked events p q → Asked events o q
  asked_further a b = record {
    asks = asks_then a.asks b.asks;
    same_sys = b.same_sys ∙ a.same_sys;
    same_facts = b.same_facts
        ∙ a.same_facts;
  }

  -- a table that extends the one after a call extends the one before it
  pub extends_before : {o p : Outside S} {F : Facts} → Asked events o p → Extends p.facts.now F → Extends o.facts.now F
  extends_before a e = extends_then (asks_extends a.asks) e
