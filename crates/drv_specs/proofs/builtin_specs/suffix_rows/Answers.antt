use Rattle.drv_specs.proofs.builtin_specs.suffix_rows.Goals as goal
use Rattle.drv_specs.specs.Builtin.{builtin_pairs}
use Rattle.std.proofs.Common.{refl}

-- the rows are the built-in pairs that have no text to run
pub returns : goal.returns
unfolding builtin_pairs
returns c = refl
