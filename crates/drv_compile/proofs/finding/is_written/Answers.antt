use Rattle.drv_compile.proofs.Files.{whole_read}
use Rattle.drv_compile.proofs.finding.is_written.Goals as goal
use Rattle.drv_system.proofs.Asking.{asks_extends, extends_then}
use Rattle.std.proofs.Common.{◌∙◌, ap, sym}
use Rattle.drv_system.specs.Known.{Is}

-- Names: `whole_read`: `is_written` does the same without a copy of the lines. `asks_extends`: a call that only asked keeps every answer.

-- a plain file: whether it is whole is known by its text
pub returns-then-is_plain-clause-is : goal.returns-then-is_plain-clause-is
returns-then-is_plain-clause-is g c F e =
    whole_read F c.args.path.now c.in_ok-kind.kind c.read_answer.result.now (sym c.is_plain.ensures ∙ c.if-is_plain.true)
    ((extends_then (asks_extends c.read.ensures.asks) e).kinds c.args.path.now c.in_ok-kind.kind c.in_ok-kind.ensures.known)
    (e.reads c.args.path.now c.read_answer.result.now c.read_answer.ensures) ∙ ap Is (sym c.is_whole.ensures)
