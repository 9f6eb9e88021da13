use Rattle.drv_specs.proofs.BuiltinKept.{kept_suffixes}
use Rattle.drv_specs.proofs.builtin_specs.suffixes.Goals as goal

pub invariant_of-result : goal.invariant_of-result
invariant_of-result c = kept_suffixes c.in-Ok.entries c.in-Ok.ensures
