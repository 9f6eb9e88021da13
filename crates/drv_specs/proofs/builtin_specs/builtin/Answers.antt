use Rattle.drv_specs.proofs.BuiltinKept.{kept_builtin}
use Rattle.drv_specs.proofs.builtin_specs.builtin.Goals as goal

pub invariant_of-result : goal.invariant_of-result
invariant_of-result c = kept_builtin c.in-Ok.entries c.in-Ok.ensures
