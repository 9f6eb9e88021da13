use Rattle.drv_compile.proofs.overwriting.overwrites.Given as goal
use Rattle.drv_compile.specs.Inputs.{Noted}
use Rattle.drv_compile.specs.Overwriting.{First, IsRead}
use Rattle.drv_compile.specs.declared.host.HostEvent.{HostEvent}
use Rattle.drv_compile.specs.declared.overwriting.Clash.{Clash}
use Rattle.std.proofs.Common.{List, Option, ◌++◌, drop}

-- No output so far is read, so those that are left decide, by the events so far and theirs.
abbrev pub invariant-loop-output : goal.invariant-loop-output
invariant-loop-output g l =
    Noted (g.H.Host.notes l.fn.host) (g.H.Host.notes l.host)
    (λ events. (more : List HostEvent) (found : Option Clash) → First (IsRead l.files) (drop l.output-index l.outputs) more found
    → First (IsRead l.files) l.outputs (events ++ more) found)
