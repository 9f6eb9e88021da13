use Rattle.drv_args.specs.Options.{row, row_fits}
use Rattle.std.proofs.Common.{◌≡◌, drop, find, map}
use Rattle.drv_args.proofs.reading.first_fit.Given as goal

-- no row so far fits, so the first that fits is among those that are left
abbrev pub invariant-loop-row : goal.invariant-loop-row
invariant-loop-row l =
    find (row_fits l.word) (map (λ r. row r.0.now r.1 r.2) (drop l.row-index l.table))
    ≡ find (row_fits l.word) (map (λ r. row r.0.now r.1 r.2) l.table)
