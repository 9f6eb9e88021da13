use Rattle.drv_specs.proofs.builtin_specs.named_rows.Goals as goal
use Rattle.drv_specs.specs.Builtin.{builtin_named}
use Rattle.std.proofs.Common.{refl}

-- the texts of the rows are the built-in ones
pub returns : goal.returns
unfolding builtin_named
returns c = refl
