use Rattle.drv_specs.proofs.builtin_specs.add_rows.Given as goal
use Rattle.drv_specs.specs.Code.Tables.{all_added, row_shown}
use Rattle.std.proofs.Common.{◌≡◌, drop, map}

-- the pairs so far, with those of the rows that are left, are all
abbrev pub invariant-loop-row : goal.invariant-loop-row
invariant-loop-row l = all_added l.entries (map row_shown (drop l.row-index l.rows)) ≡ all_added l.fn.entries (map row_shown l.rows)
