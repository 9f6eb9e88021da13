use Rattle.drv_specs.proofs.Sliced.{begins_body, begins_keyword, begins_none, blanks_before}
use Rattle.drv_specs.proofs.reading.begin.Goals as goal
use Rattle.drv_specs.specs.Code.Slices.{directives_left, found, lines_from}
use Rattle.drv_specs.specs.Directives.{by_colon, is_colon, shown}
use Rattle.std.proofs.Common.{◌≡◌, ◌+◌, ◌-◌, [], ◌∷◌, ◌∙◌, ap, arith, sym, ℕ}
use Rattle.std.specs.List.{position}
use Rattle.std.specs.Option.{option_map}

-- Names: `begins_body`: any other line begins a directive with a body. `begins_keyword`: a line that begins with % is a directive of one
-- line. `begins_none`: a line that is empty or a comment begins nothing. `blanks_before`: a text without the blanks at its front is an end
-- of it.

-- the line before the next one has this number
number_is : (n : ℕ) → n + 1 - 1 ≡ n
number_is n = omega arith

-- the line without its first blanks is an end of the line
pub with_colon-requires-clause-start : goal.with_colon-requires-clause-start
with_colon-requires-clause-start c = blanks_before c.cut_line.result.0.now c.without_blanks-start.result.now
    c.without_blanks-start.ensures.bytes

-- a line that is empty or a comment
pub returns-then-is_passed-clause-directives : goal.returns-then-is_passed-clause-directives
returns-then-is_passed-clause-directives c =
    begins_none c.args.number c.args.text.now c.cut_line.result.0.now c.without_blanks-start.result.now
    (option_map (λ b. b.now) c.cut_line.result.1) c.cut_line.ensures.whole c.cut_line.ensures.line c.without_blanks-start.ensures.bytes
    (sym c.is_passed.ensures ∙ c.if-is_passed.true)

-- a line that begins with %
pub returns-then-is_keyword-clause-directives : goal.returns-then-is_keyword-clause-directives
returns-then-is_keyword-clause-directives c =
    begins_keyword c.args.number c.args.text.now c.cut_line.result.0.now c.without_blanks-start.result.now
    (option_map (λ b. b.now) c.cut_line.result.1) c.cut_line.ensures.whole c.cut_line.ensures.line c.without_blanks-start.ensures.bytes
    (shown c.by_keyword.result) (sym c.is_passed.ensures ∙ c.if-is_passed.false)
    (sym c.is_keyword.ensures ∙ c.if-is_keyword.true) c.by_keyword.ensures

-- a line that is neither passed over nor one with %
pub returns-clause-directives : goal.returns-clause-directives
returns-clause-directives c =
    begins_body c.args.number c.args.text.now c.cut_line.result.0.now c.without_blanks-start.result.now
    (option_map (λ b. b.now) c.cut_line.result.1) c.cut_line.ensures.whole c.cut_line.ensures.line c.without_blanks-start.ensures.bytes
    (found c.with_colon.result.directive) (directives_left c.with_colon.result.left) (sym c.is_passed.ensures ∙ c.if-is_passed.false)
    (sym c.is_keyword.ensures ∙ c.if-is_keyword.false)
    (c.with_colon.ensures.directive ∙ ap (λ n. by_colon n c.without_blanks-start.result.now
    (lines_from (option_map (λ b. b.now) c.cut_line.result.1)) (position is_colon c.without_blanks-start.result.now) ∷ [])
    (number_is c.args.number))
    c.with_colon.ensures.left
