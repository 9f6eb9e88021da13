use Rattle.drv_compile.proofs.languages.row_of.Given as goal
use Rattle.drv_compile.specs.Languages.{ends_so, foreign_suffixes}
use Rattle.std.proofs.Common.{◌≡◌, drop, find, map}

abbrev pub invariant-loop-row : goal.invariant-loop-row
invariant-loop-row l =
    find (λ row. ends_so l.name row.0) (map (λ row. (row.0.now, row.1.now)) (drop l.row-index l.row-items))
    ≡ find (λ row. ends_so l.name row.0) foreign_suffixes
