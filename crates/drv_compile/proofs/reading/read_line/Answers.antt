use Rattle.drv_compile.proofs.Names.{line_known, line_unknown}
use Rattle.drv_compile.proofs.reading.read_line.Goals as goal
use Rattle.std.proofs.Common.{◌∙◌, sym}

-- Names: `line_known`: a line without one. `line_unknown`: a line with an unknown word.

pub returns-then-has_unknown-clause-reading : goal.returns-then-has_unknown-clause-reading
returns-then-has_unknown-clause-reading g c F e =
    line_unknown F c.args.specs.now c.args.around.now c.args.words.now c.in_ok-items.items c.read_by.result c.in_ok-items.ensures
    (sym c.has_unknown.ensures ∙ c.if-has_unknown.true) (c.read_by.ensures.reading c.args.words.now c.in_ok-items.ensures F e)

-- every word is known without names: the answer is by the items that were read first
pub returns-clause-reading : goal.returns-clause-reading
returns-clause-reading g c F e =
    line_known F c.args.specs.now c.args.around.now c.args.words.now c.in_ok-items.items c.in_ok-answer.answer c.empty-known.result
    c.in_ok-items.ensures
    (sym c.has_unknown.ensures ∙ c.if-has_unknown.false) c.in_ok-answer.ensures c.empty-known.ensures
