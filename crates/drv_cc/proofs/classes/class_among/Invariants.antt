use Rattle.drv_cc.proofs.classes.class_among.Given as goal
use Rattle.drv_cc.specs.Items.{class_in}
use Rattle.std.proofs.Common.{◌≡◌, drop, map}

abbrev pub invariant-loop-row : goal.invariant-loop-row
invariant-loop-row l =
    class_in (map (λ row. (row.0.now, row.1.now)) (drop l.row-index l.rows)) l.name
    ≡ class_in (map (λ row. (row.0.now, row.1.now)) l.rows) l.name
