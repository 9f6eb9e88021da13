use Rattle.drv_compile.proofs.Files.{written_read}
use Rattle.drv_compile.proofs.finding.written_lines.Goals as goal
use Rattle.drv_system.proofs.Asking.{asks_extends, extends_then}
use Rattle.std.proofs.Common.{◌∙◌, sym}

-- Names: `written_read`: `written_lines` reads a plain file, and takes its lines if it is whole. `asks_extends`: a call that only asked
-- keeps every answer.

-- a plain file: its lines are those before the mark, if it is whole
pub returns-then-is_plain-clause-lines : goal.returns-then-is_plain-clause-lines
returns-then-is_plain-clause-lines g c F e =
    written_read F c.args.path.now c.in_ok-kind.kind c.read_answer.result.now c.lines_in.result
    (sym c.is_plain.ensures ∙ c.if-is_plain.true)
    ((extends_then (asks_extends c.read.ensures.asks) e).kinds c.args.path.now c.in_ok-kind.kind c.in_ok-kind.ensures.known)
    (e.reads c.args.path.now c.read_answer.result.now c.read_answer.ensures) c.lines_in.ensures
