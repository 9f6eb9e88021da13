use Rattle.drv_compile.proofs.suffixing.suffixed_items.Given as goal
use Rattle.drv_compile.specs.Suffixes.{with_suffix}
use Rattle.std.proofs.Common.{◌≡◌, ◌++◌, drop, map}

abbrev pub invariant-loop-item : goal.invariant-loop-item
invariant-loop-item l = l.made ++ map (with_suffix l.suffix) (drop l.item-index l.fn.items) ≡ map (with_suffix l.suffix) l.fn.items
