use Rattle.drv_machine.proofs.Draws.{drawn_at}
use Rattle.drv_machine.proofs.machine.naming.last_drawn.Goals as goal
use Rattle.std.proofs.Common.{arith, sym, ◌-◌, ◌∙◌}

-- Names: `drawn_at`: the code looks from the end.

-- the name is the last one that was drawn so, for none after it was
pub returns-then-is_drawn : goal.returns-then-is_drawn
returns-then-is_drawn c =
    drawn_at c.args.drawing c.args.suffix.now c.args.drawn.now (c.loop-i.i - 1) c.loop-i.i c.index-drawn-i.result c.as_bytes.result.now
    (omega arith) (omega arith) c.index-drawn-i.is c.loop-i.invariant.none
    (sym c.is_drawn.ensures ∙ c.if-is_drawn.true) c.as_bytes.ensures
