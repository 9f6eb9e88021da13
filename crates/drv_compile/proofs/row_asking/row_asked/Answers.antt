use Rattle.drv_compile.proofs.RowsAsked.{found_unasked, missing_asked, unneeded_unasked}
use Rattle.drv_compile.proofs.row_asking.row_asked.Goals as goal
use Rattle.drv_compile.specs.declared.machines.LineRow.TheVariants.{Missing}
use Rattle.std.proofs.Common.{◌∙◌, ap, sym}
use Rattle.std.specs.Option.{option_copied}

-- Names: `found_unasked`: nothing is asked where the text has the row. `missing_asked`: the host is asked once for a row that is missing,
-- and its answer read.

pub returns-in-Unneeded : goal.returns-in-Unneeded
returns-in-Unneeded g c =
    unneeded_unasked c.args.specs.now (option_copied c.args.text) c.args.items.now _ _ c.in_ok-row_of.ensures c.in-Unneeded.is

pub returns-in-Found : goal.returns-in-Found
returns-in-Found g c =
    found_unasked c.args.specs.now (option_copied c.args.text) c.args.items.now _ c.in-Found.row _ c.in_ok-row_of.ensures c.in-Found.is

-- the text lacks the row: the host is asked once, and the row is the one of its answer
pub returns-in_ok-answer-in-Missing : goal.returns-in_ok-answer-in-Missing
returns-in_ok-answer-in-Missing g c =
    missing_asked c.args.specs.now (option_copied c.args.text) c.args.items.now _ c.as_bytes-key.result.now
    c.in_ok-options-in-Missing.options c.in_ok-answer-in-Missing.answer _ _ _ c.row_among.result c.in_ok-row_of.ensures
    (c.in-Missing.is ∙ ap Missing (sym c.as_bytes-key.ensures)) c.in_ok-options-in-Missing.ensures
    c.in_ok-answer-in-Missing.ensures.event c.as_bytes.ensures c.row_among.ensures
