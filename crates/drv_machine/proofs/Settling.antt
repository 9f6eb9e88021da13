use Rattle.drv_machine.specs.Context.{Context}
use Rattle.drv_machine.specs.Code.Running.{Machine}
use Rattle.drv_machine.specs.Code.Walking.{Left, Settled}
use Rattle.drv_machine.specs.Working.{Answer}
use Rattle.drv_machine.specs.declared.walk.Walk.{Walk}
use Rattle.drv_system.specs.Facts.{Facts}
use Rattle.drv_system.specs.Known.{Is}
use Rattle.std.proofs.Common.{◌≡◌, Bool, List, Ok, false, sym, true, ℕ}
use Rattle.std.proofs.lemmas.Bool.{false≢true}

-- For `settle` (turns.rt), which closes the open parts that have ended and says whether an item is left: what `Settled` says of each
-- answer.
-- Names: `s`: the machine: what has been cut, and the world. `given`: what the walk gives in the end. `F`: what is known of the outside.
-- `C`: what the text is run for (switches, texts). `w`: the walk over the text: its place and the open parts.

-- what `settle` answers for a walk
module _ (F : Facts) (C : Context) (text : List ℕ) (w : Walk) (s : Machine) (given : Answer (Unit {0} × Machine)) where
  -- an item is left: so is something of the walk
  pub settled_more : (more : Bool) → more ≡ true → Settled F C text w s given (Ok more) → Left F C text w s given
  settled_more true e left = left
  settled_more false e same = absurd (false≢true e)

  -- none is left: the walk is at its end
  pub settled_none : (more : Bool) → more ≡ false → Settled F C text w s given (Ok more) → given ≡ Is (Ok (tt, s))
  settled_none true e left = absurd (false≢true (sym e))
  settled_none false e same = same
