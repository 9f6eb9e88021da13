use Rattle.drv_compile.proofs.deciding.copies_of.Given as goal
use Rattle.drv_compile.specs.Places.{companion}
use Rattle.std.proofs.Common.{◌≡◌, ◌++◌, drop, map}

abbrev pub invariant-loop-ending : goal.invariant-loop-ending
invariant-loop-ending l =
    l.copies ++ map (companion l.specs) (drop l.ending-index l.ending-items) ≡ map (companion l.specs) l.ending-items
