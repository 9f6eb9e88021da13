use Rattle.drv_words.proofs.sums.checksum.Given as goal
use Rattle.drv_words.specs.Checksums.{turn}
use Rattle.std.proofs.Common.{fold, take, ◌≡◌}

-- the sum is that of the bytes before the index
abbrev pub invariant-loop-byte : goal.invariant-loop-byte
invariant-loop-byte l = l.sum ≡ fold turn 0xcbf29ce484222325 (take l.byte-index l.bytes)
