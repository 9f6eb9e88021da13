use Rattle.drv_system.proofs.WholeFiles.{too_large, whole, within_limit}
use Rattle.std.proofs.Common.{◌+◌, ◌<◌, ap, arith, length, take}
use Rattle.std.proofs.lemmas.Grind.{common_steps}
use Rattle.drv_system.proofs.reading.OpenFile.read_within.Goals as goal

-- Names: `too_large`: more than a file may have. `whole`: at its end they are all bytes that it had left.

-- at the end of the file all its bytes were read
pub returns-in-Ok-eq0-clause-read : goal.returns-in-Ok-eq0-clause-read
returns-in-Ok-eq0-clause-read g c = whole _ _ _ _ _
    (take c.in-Ok-eq0.field-0 c.read.new.buffer) c.loop.invariant.left c.in-Ok-eq0.ensures.bytes.0
    (ap (λ n. take n c.read.new.buffer) c.in-Ok-eq0.field-0-test) (c.in-Ok-eq0.ensures.end c.in-Ok-eq0.field-0-test) c.from_vec.ensures

-- one byte more than the limit: the file is too large
pub returns-then-count-len-clause-read : goal.returns-then-count-len-clause-read
returns-then-count-len-clause-read g c =
    let over : 16777216 < length c.loop.bytes.items + length (take c.in-Ok.count c.read.new.buffer) = grind (arith, common_steps) in
    too_large _ _ _ _ (take c.in-Ok.count c.read.new.buffer) c.loop.invariant.left c.in-Ok.ensures.bytes.0 over

-- what was read is within the limit
pub returns-in-Ok-eq0-clause-within : goal.returns-in-Ok-eq0-clause-within
returns-in-Ok-eq0-clause-within g c = within_limit _ _ c.loop.invariant.within c.from_vec.ensures
