use Rattle.drv_specs.proofs.Sliced.{body_over, outside_now}
use Rattle.drv_specs.proofs.lines.full_line.Goals as goal
use Rattle.drv_specs.specs.Directives.{body_lines, read_lines}
use Rattle.drv_specs.specs.Code.Slices.{lines_from}
use Rattle.std.proofs.Common.{◌∙◌, ap, false, sym, true}
use Rattle.std.specs.Option.{option_map}

-- Names: `lines_from`: what follows a line, where its newline is there. `read_lines`: the directives of lines, the first of which has this
-- number and is in a body or not.

-- an empty line ends a body
pub returns-then-is_empty_line-clause-none : goal.returns-then-is_empty_line-clause-none
returns-then-is_empty_line-clause-none c =
    ap (λ t. body_lines (lines_from (option_map (λ b. b.now) t))) c.in-Some.is
    ∙ ap body_lines c.cut_line.ensures.lines
    ∙ body_over c.cut_line.result.0.now (lines_from (option_map (λ b. b.now) c.cut_line.result.1))
    (sym c.is_empty_line.ensures ∙ c.if-is_empty_line.true)

-- after an empty line what follows is in no body
pub returns-then-is_empty_line-clause-outside : goal.returns-then-is_empty_line-clause-outside
returns-then-is_empty_line-clause-outside c n =
    ap (λ t. read_lines true n (lines_from (option_map (λ b. b.now) t))) c.in-Some.is
    ∙ ap (read_lines true n) c.cut_line.ensures.lines
    ∙ outside_now c.cut_line.result.0.now (lines_from (option_map (λ b. b.now) c.cut_line.result.1))
    (sym c.is_empty_line.ensures ∙ c.if-is_empty_line.true) n
    ∙ sym (ap (λ t. read_lines false n (lines_from (option_map (λ b. b.now) t))) c.in-Some.is
    ∙ ap (read_lines false n) c.cut_line.ensures.lines)

pub returns-clause-lines : goal.returns-clause-lines
returns-clause-lines c =
    ap (λ t. lines_from (option_map (λ b. b.now) t)) c.in-Some.is
    ∙ c.cut_line.ensures.lines
