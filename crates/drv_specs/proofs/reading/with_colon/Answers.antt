use Rattle.drv_specs.proofs.Sliced.{ends_at, ends_then, place_found}
use Rattle.drv_specs.proofs.reading.with_colon.Goals as goal
use Rattle.drv_specs.specs.Directives.{body_lines, by_colon, by_key, first_line, is_colon}
use Rattle.drv_specs.specs.Code.Slices.{lines_left}
use Rattle.drv_words.specs.Bytes.{newline}
use Rattle.std.proofs.Common.{◌+◌, ◌-◌, [], ◌∷◌, ◌++◌, ◌∙◌, ap, sym, take}
use Rattle.std.specs.List.{join_with_byte}

-- Names: `lines_left`: the lines that are left. `place_found`: the code's search finds the first colon. `by_colon`: the directive of a line
-- by its first colon.

pub returns-in_default-clause-directive : goal.returns-in_default-clause-directive
returns-in_default-clause-directive c =
    ap (λ d. d ∷ []) (sym (ap (by_colon (c.args.lines.number - 1) c.args.start.now (lines_left c.args.lines))
    (place_found is_colon c.args.start.now c.find_byte.result c.find_byte.ensures ∙ c.in_default.is)))

pub body_start-requires-clause-value : goal.body_start-requires-clause-value
body_start-requires-clause-value c =
    ends_then c.args.line.now c.args.start.now c.following-value.result.now c.requires.start
    (ends_at c.args.start.now c.following-value.result.now (c.in-Some.at + 1) c.following-value.ensures)

-- the directive of the key before the colon and of the body after it
pub returns-clause-directive : goal.returns-clause-directive
returns-clause-directive c =
    ap (λ d. d ∷ []) (c.by_key.ensures
    ∙ ap (by_key (take c.in-Some.at c.args.start.now))
    (c.cut_body-body.ensures.body ∙ ap (join_with_byte newline)
    (c.body_start.ensures.body ∙ ap (λ v. first_line v ++ body_lines (lines_left c.args.lines)) c.following-value.ensures))
    ∙ sym (ap (by_colon (c.args.lines.number - 1) c.args.start.now (lines_left c.args.lines))
    (place_found is_colon c.args.start.now c.find_byte.result c.find_byte.ensures ∙ c.in-Some.is)))
