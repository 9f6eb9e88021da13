use Rattle.drv_cc.proofs.checks.is_check.Goals as goal
use Rattle.std.proofs.Common.{refl}

pub returns : goal.returns
returns c = rw (c.is_empty.ensures, c.stands_in.ensures, c.is.ensures, c.is-2.ensures) refl
