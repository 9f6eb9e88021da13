use Rattle.drv_specs.specs.Dumping.{entry_text}
use Rattle.std.proofs.Common.{◌≡◌, ◌++◌, drop, flat_map}
use Rattle.drv_specs.proofs.dumping.push_pairs.Given as goal

-- the dump so far, with the pairs that are left, is that before and all pairs
abbrev pub invariant-loop-key : goal.invariant-loop-key
invariant-loop-key l = l.dump ++ flat_map entry_text (drop l.key-index l.pairs) ≡ l.fn.dump ++ flat_map entry_text l.pairs
