use Rattle.drv_cc.proofs.table.row_among.Given as goal
use Rattle.drv_cc.specs.Items.{fits}
use Rattle.drv_cc.specs.Table.{row_by}
use Rattle.std.proofs.Common.{◌≡◌, drop, find, map}

abbrev pub invariant-loop-row : goal.invariant-loop-row
invariant-loop-row l =
    find (fits l.word) (map (λ row. row_by row.0.now row.1 row.2.now row.3 row.4) (drop l.row-index l.rows))
    ≡ find (fits l.word) (map (λ row. row_by row.0.now row.1 row.2.now row.3 row.4) l.rows)
