use Rattle.std.proofs.Common.{◌≡◌, ◌++◌, drop}
use Rattle.drv_search.proofs.prefixes.with_folders.Given as goal

-- the prefixes so far, with those that are left, are those of -B
abbrev pub invariant-loop-prefix : goal.invariant-loop-prefix
invariant-loop-prefix l = l.prefixes ++ drop l.prefix-index l.given ≡ l.given
