use Rattle.drv_plan.proofs.sources.add_inputs.Given as goal
use Rattle.drv_plan.specs.Denoted.{with_inputs}
use Rattle.drv_system.specs.Asking.{Extends}
use Rattle.drv_system.specs.Code.Asked.{Asked}
use Rattle.drv_system.specs.Facts.{Facts}
use Rattle.std.proofs.Common.{◌≡◌, drop}

-- the progress so far, with the inputs that are left, gives what all inputs give; the call only asked
abbrev pub invariant-loop-place : goal.invariant-loop-place
invariant-loop-place g l = record {
  asks : Asked g.S.System.events l.fn.outside l.outside;
  rest : (F : Facts) → Extends l.outside.facts.now F → with_inputs F l.set l.place (drop l.place l.inputs) l.progress
      ≡ with_inputs F l.set 0 l.inputs l.fn.progress;
}
