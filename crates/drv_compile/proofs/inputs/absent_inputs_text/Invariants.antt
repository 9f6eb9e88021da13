use Rattle.drv_compile.proofs.Absent.{after_text}
use Rattle.drv_compile.proofs.inputs.absent_inputs_text.Given as goal
use Rattle.drv_compile.specs.Inputs.{absent_of}
use Rattle.drv_system.specs.Asking.{Extends}
use Rattle.drv_system.specs.Code.Asked.{Asked}
use Rattle.drv_system.specs.Facts.{Facts}
use Rattle.std.proofs.Common.{◌≡◌, drop}

-- The text so far, with what the inputs left add, is the whole.
abbrev pub invariant-loop-input : goal.invariant-loop-input
invariant-loop-input g l = record {
  asks : Asked g.S.System.events l.fn.outside l.outside;
  rest : (F : Facts) → Extends l.outside.facts.now F
      → after_text l.text (absent_of F l.name (drop l.input-index l.inputs)) ≡ absent_of F l.name l.inputs;
}
