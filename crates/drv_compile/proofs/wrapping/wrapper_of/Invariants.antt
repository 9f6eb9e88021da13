use Rattle.drv_compile.proofs.wrapping.wrapper_of.Given as goal
use Rattle.drv_compile.specs.Wrapper.{wrapper_of}
use Rattle.std.proofs.Common.{◌≡◌, drop}

abbrev pub invariant-loop-item : goal.invariant-loop-item
invariant-loop-item l = wrapper_of (drop l.item-index l.items) ≡ wrapper_of l.items
