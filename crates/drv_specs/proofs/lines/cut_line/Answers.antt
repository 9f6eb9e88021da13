use Rattle.drv_specs.proofs.Sliced.{line_first}
use Rattle.drv_specs.proofs.lines.cut_line.Goals as goal
use Rattle.drv_specs.specs.Lines.{lines_of}
use Rattle.std.proofs.Common.{◌+◌, ◌∙◌, ◌∷◌, ap, sym, take}
use Rattle.std.proofs.lemmas.List.{take_rest}

-- Names: `line_first`: the line up to the first newline is the first line of a text. `lines_of`: the lines of a text, without their
-- newlines.

pub returns-in-Some-clause-lines : goal.returns-in-Some-clause-lines
returns-in-Some-clause-lines c =
    line_first c.args.text.now c.find_byte.result c.in-Some.at c.find_byte.ensures c.in-Some.is
    ∙ ap (λ rest. take c.in-Some.at c.args.text.now ∷ lines_of rest) (sym (take_rest c.args.text.now (c.in-Some.at + 1)))
