use Rattle.drv_compile.proofs.Settled.{Choosing, Trying}
use Rattle.drv_compile.proofs.temp_folder.first_usable.Given as goal

-- No folder so far is usable: the choice is among the names left, and those before were tried.
abbrev pub invariant-loop-name : goal.invariant-loop-name
invariant-loop-name g l = record {
  chooses : Choosing l.names l.name-index (g.H.Host.notes l.fn.host) (g.H.Host.notes l.host);
  tries : Trying l.names l.name-index (g.H.Host.notes l.fn.host) (g.H.Host.notes l.host);
}
