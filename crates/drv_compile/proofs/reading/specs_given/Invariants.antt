use Rattle.drv_compile.proofs.reading.specs_given.Given as goal
use Rattle.drv_compile.specs.Reading.{specs_given}
use Rattle.std.proofs.Common.{◌≡◌, ◌++◌, drop}

abbrev pub invariant-loop-item : goal.invariant-loop-item
invariant-loop-item l = l.files ++ specs_given (drop l.item-index l.items) ≡ specs_given l.items
