use Rattle.drv_specs.proofs.Sliced.{blanks_before, ends_then, first_some, inside_some, tail_is, tail_lines}
use Rattle.drv_specs.proofs.reading.body_start.Goals as goal
use Rattle.drv_specs.specs.Lines.{lines_of}
use Rattle.drv_specs.specs.Code.Slices.{bytes_from, lines_left, text_left}
use Rattle.std.proofs.Common.{◌∙◌, sym}

-- Names: `text_left`: the text that is left, if a line is left. `blanks_before`: a text without the blanks at its front is an end of it.
-- `ends_then`: an end of an end of a text is an end of the text.

-- something follows the colon, so it is the body's first line
pub returns-clause-body : goal.returns-clause-body
returns-clause-body c =
    let ends = ends_then c.args.line.now c.args.value.now c.without_blanks-rest.result.now c.requires.value
    (blanks_before c.args.value.now c.without_blanks-rest.result.now c.without_blanks-rest.ensures.bytes) in
    first_some c.args.value.now c.without_blanks-rest.result.now (lines_left c.args.lines)
    (lines_of c.following.result.now) c.without_blanks-rest.ensures.bytes (sym c.has_byte.ensures ∙ c.if-not-has_byte.false)
    (tail_lines c.following.result.now c.args.line.now c.without_blanks-rest.result.now (text_left c.args.lines)
    (c.following.ensures ∙ tail_is c.args.text.now c.args.line.now c.without_blanks-rest.result.now
    (bytes_from (text_left c.args.lines)) c.requires.whole ends) c.requires.line ends)

-- and what follows the body is the same as from the next line on
pub returns-clause-left : goal.returns-clause-left
returns-clause-left c =
    let ends = ends_then c.args.line.now c.args.value.now c.without_blanks-rest.result.now c.requires.value
    (blanks_before c.args.value.now c.without_blanks-rest.result.now c.without_blanks-rest.ensures.bytes) in
    inside_some c.args.value.now c.without_blanks-rest.result.now (lines_left c.args.lines)
    (lines_of c.following.result.now) c.args.lines.number c.without_blanks-rest.ensures.bytes
    (sym c.has_byte.ensures ∙ c.if-not-has_byte.false)
    (tail_lines c.following.result.now c.args.line.now c.without_blanks-rest.result.now (text_left c.args.lines)
    (c.following.ensures ∙ tail_is c.args.text.now c.args.line.now c.without_blanks-rest.result.now
    (bytes_from (text_left c.args.lines)) c.requires.whole ends) c.requires.line ends)
    c.requires.number
