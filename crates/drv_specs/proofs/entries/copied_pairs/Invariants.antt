use Rattle.std.proofs.Common.{◌≡◌, ◌++◌, drop}
use Rattle.drv_specs.proofs.entries.copied_pairs.Given as goal

-- the copies so far, with the pairs that are left, are all
abbrev pub invariant-loop-key : goal.invariant-loop-key
invariant-loop-key l = l.copies ++ drop l.key-index l.pairs ≡ l.pairs
