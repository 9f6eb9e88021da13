use Rattle.drv_funcs.proofs.Ends.{ends_before}
use Rattle.drv_funcs.proofs.changes.add_before.Goals as goal

-- Names: `are`: the clause's condition `EndsBy`. `ends_before`: a change before those in the map.

-- the ends of all changes follow from those of the later ones and this one
pub returns : goal.returns
returns c changes are =
    ends_before c.args.ends.now c.insert.new.self c.args.change.now c.in_ok-clone.field-0 c.in_ok-end.end changes are
    c.in_ok-clone.ensures.cases c.in_ok-end.ensures c.in_ok-insert.ensures.updates.0
