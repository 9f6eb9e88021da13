use Rattle.drv_compile.proofs.Names.{items_read_at}
use Rattle.drv_compile.proofs.naming.items_at.Goals as goal
use Rattle.drv_system.proofs.Asking.{asks_extends, extends_then}
use Rattle.std.proofs.Common.{◌∙◌, sym}

-- Names: `is`: the clause's equation. `items_read_at`: `items_at` takes that file if it is a plain one. `asks_extends`: a call that only
-- asked keeps every answer.

-- a plain file: the items are by the names in its text, if it is whole
pub returns-then-is_plain-clause-items : goal.returns-then-is_plain-clause-items
returns-then-is_plain-clause-items g c words is F e =
    items_read_at F c.args.path.now words c.in_ok-kind.kind c.read_answer.result.now c.items_in.result
    (sym c.is_plain.ensures ∙ c.if-is_plain.true)
    ((extends_then (asks_extends c.read.ensures.asks) e).kinds c.args.path.now c.in_ok-kind.kind c.in_ok-kind.ensures.known)
    (e.reads c.args.path.now c.read_answer.result.now c.read_answer.ensures) (c.items_in.ensures words is)
