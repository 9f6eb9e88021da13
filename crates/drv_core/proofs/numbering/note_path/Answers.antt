use Rattle.drv_core.proofs.Notes.{by_same}
use Rattle.drv_core.proofs.numbering.note_path.Goals as goal

-- a path without a number gets the next one, and the others keep theirs
pub returns-then-first-number : goal.returns-then-first-number
returns-then-first-number c p = by_same _ _ _ _ _ c.if-first-number.true (c.in_ok-insert.ensures.updates.0 (record c.args.path { now = p }))
