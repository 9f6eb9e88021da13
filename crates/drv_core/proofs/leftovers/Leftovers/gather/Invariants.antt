use Rattle.drv_core.proofs.leftovers.Leftovers.gather.Given as goal
use Rattle.drv_core.specs.Code.LeftoverView.{leftover_list}
use Rattle.drv_core.specs.Code.Leftovers.{gathered}
use Rattle.std.proofs.Common.{◌≡◌, ◌≤◌, ◌++◌, drop, length}
use Rattle.std.specs.Vec.{vec_capacity}

-- what is gathered, and then what is left, is all
abbrev pub invariant-loop-index : goal.invariant-loop-index
invariant-loop-index l = record {
  all : l.self.due.items ++ gathered l.self.claimed.items l.self.called.items l.self.gone.items
      (leftover_list (drop l.index l.self.files.items))
      ≡ gathered l.fn.self.claimed.items l.fn.self.called.items l.fn.self.gone.items (leftover_list l.fn.self.files.items);
  few : length l.self.due.items ≤ l.index;
  room : vec_capacity l.self.due ≡ vec_capacity l.fn.self.due;
  files : l.self.files ≡ l.fn.self.files;
  claimed : l.self.claimed ≡ l.fn.self.claimed;
  called : l.self.called ≡ l.fn.self.called;
}
