use Rattle.drv_compile.proofs.Stamped.{Looking}
use Rattle.drv_compile.proofs.stamps.any_other.Given as goal

-- no file so far has another stamp
abbrev pub invariant-loop-stamp : goal.invariant-loop-stamp
invariant-loop-stamp g l = Looking l.stamps l.stamp-index (g.H.Host.notes l.fn.host) (g.H.Host.notes l.host)
