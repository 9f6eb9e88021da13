use Rattle.drv_core.proofs.leftovers.Leftovers.count.Given as goal
use Rattle.drv_core.specs.Code.Leftovers.{called_by, noted}
use Rattle.std.proofs.Common.{◌≡◌, ◌≤◌, drop, get_or, ℕ}

-- what is counted, and then what is left, is all; so far no more claims than events
abbrev pub invariant-loop-index : goal.invariant-loop-index
invariant-loop-index l = record {
  claimed : noted l.self.claimed.items (drop l.index l.events) ≡ noted l.fn.self.claimed.items l.events;
  called : called_by l.self.called.items (drop l.index l.events) ≡ called_by l.fn.self.called.items l.events;
  few : (k : ℕ) → get_or l.self.claimed.items k 0 ≤ l.index;
  files : l.self.files ≡ l.fn.self.files;
  gone : l.self.gone ≡ l.fn.self.gone;
  due : l.self.due ≡ l.fn.self.due;
}
