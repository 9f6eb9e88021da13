use Rattle.drv_compile.proofs.Done.{Setting}
use Rattle.drv_compile.proofs.compiling.set_children.Given as goal
use Rattle.std.proofs.Common.{◌≡◌, length}

-- The first variables were set, and the system's journal is the same.
abbrev pub invariant-loop-variable : goal.invariant-loop-variable
invariant-loop-variable g l = record {
  sets : Setting (length (g.S.System.events l.fn.sys)) l.children l.variable-index (g.H.Host.notes l.fn.host) (g.H.Host.notes l.host);
  same : g.S.System.events l.sys ≡ g.S.System.events l.fn.sys;
}
