use Rattle.drv_compile.proofs.overwriting.first_at.Given as goal
use Rattle.drv_compile.specs.Inputs.{Noted}
use Rattle.drv_compile.specs.Overwriting.{First, IsAt}
use Rattle.drv_compile.specs.declared.host.HostEvent.{HostEvent}
use Rattle.drv_compile.specs.declared.overwriting.ReadAs.{ReadAs}
use Rattle.std.proofs.Common.{List, Option, ◌++◌, drop}

-- No file so far leads there, so those that are left decide, by the events so far and theirs.
abbrev pub invariant-loop-file : goal.invariant-loop-file
invariant-loop-file g l =
    Noted (g.H.Host.notes l.fn.host) (g.H.Host.notes l.host)
    (λ events. (more : List HostEvent) (found : Option ReadAs) → First (IsAt l.path) (drop l.file-index l.files) more found
    → First (IsAt l.path) l.files (events ++ more) found)
