use Rattle.drv_args.proofs.Lookups.{looked_up}
use Rattle.drv_args.proofs.reading.start_of.Goals as goal
use Rattle.drv_args.specs.Options.{row}
use Rattle.std.proofs.Common.{◌∙◌, None, Some, ap, arith, map, sym}
use Rattle.std.specs.Option.{option_map}

-- Names: `looked_up`: how a word begins a front, by the row that was found for it.

pub returns-in-Some-clause-start : goal.returns-in-Some-clause-start
returns-in-Some-clause-start c =
    c.start_by_row.ensures.start
    ∙ looked_up c.args.word.now (map (λ r. row r.0.now r.1 r.2) c.rows_after.result.now)
    (Some (row c.in-Some.row.0.now c.in-Some.row.1 c.in-Some.row.2)) c.in-45.len_at_least (omega arith) c.rows_after.ensures
    (ap (option_map (λ r. row r.0.now r.1 r.2)) (sym c.in-Some.is) ∙ c.first_fit.ensures.first)

pub returns-in-None-clause-start : goal.returns-in-None-clause-start
returns-in-None-clause-start c =
    looked_up c.args.word.now (map (λ r. row r.0.now r.1 r.2) c.rows_after.result.now) None c.in-45.len_at_least (omega arith)
    c.rows_after.ensures
    (ap (option_map (λ r. row r.0.now r.1 r.2)) (sym c.in-None.is) ∙ c.first_fit.ensures.first)
