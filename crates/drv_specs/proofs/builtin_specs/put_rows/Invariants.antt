use Rattle.drv_specs.proofs.builtin_specs.put_rows.Given as goal
use Rattle.drv_specs.specs.Code.Tables.{all_put, row_shown}
use Rattle.std.proofs.Common.{◌≡◌, drop, map}

-- the texts so far, with those of the rows that are left, are all
abbrev pub invariant-loop-row : goal.invariant-loop-row
invariant-loop-row l = all_put l.entries (map row_shown (drop l.row-index l.rows)) ≡ all_put l.fn.entries (map row_shown l.rows)
