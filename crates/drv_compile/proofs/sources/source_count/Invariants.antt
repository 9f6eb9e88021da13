use Rattle.drv_compile.proofs.sources.source_count.Given as goal
use Rattle.drv_compile.specs.Runs.{is_source}
use Rattle.std.proofs.Common.{◌≡◌, ◌≤◌, ◌+◌, drop}
use Rattle.std.specs.Prelude.{count_by}

abbrev pub invariant-loop-input : goal.invariant-loop-input
invariant-loop-input l = (l.count + count_by (is_source l.set) (drop l.input-index l.inputs) ≡ count_by (is_source l.set) l.inputs)
    × (l.count ≤ l.input-index)
