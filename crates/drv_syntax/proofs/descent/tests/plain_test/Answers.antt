use Rattle.drv_syntax.proofs.Given.{plain_turn}
use Rattle.drv_syntax.proofs.Taken.{gives_same}
use Rattle.drv_syntax.proofs.descent.tests.plain_test.Goals as goal
use Rattle.drv_syntax.specs.Code.Tests.{alternative_of, operand_seen, order_seen}
use Rattle.drv_syntax.specs.Code.Writing.{seen}
use Rattle.std.proofs.Common.{inr, refl, ◌∙◌}

-- Names: `seen`: what a `Reader` of the code has read. `plain_turn`: once what a test asks is read. `alternative_of`: the alternative that
-- is open at a test in this place, if one is.

-- the text ends after the test
pub returns-in_default : goal.returns-in_default
returns-in_default c =
    inr (plain_turn c.args.outer c.args.at (order_seen c.args.test.order) (alternative_of c.args.test.order) c.args.test.begun.start
    c.args.test.begun.negated (seen c.args.r.now) (seen c.plain_operand.new.r)
    (operand_seen c.in_ok-operand.operand c.plain_operand.new.r.word.items) c.in_ok-operand.ensures c.plain_operand.new.r.rest.at refl _
    c.skip_white.ensures
    ∙ rw (← c.in_default.ensures, c.unclosed_fault.ensures) refl)

-- what the test asks and white space are taken; the byte after them decides
pub returns : goal.returns
returns c =
    gives_same _ _ (plain_turn c.args.outer c.args.at (order_seen c.args.test.order) (alternative_of c.args.test.order)
    c.args.test.begun.start c.args.test.begun.negated (seen c.args.r.now) (seen c.plain_operand.new.r)
    (operand_seen c.in_ok-operand.operand c.plain_operand.new.r.word.items) c.in_ok-operand.ensures _ c.at-end.ensures.place _
    c.skip_white.ensures
    ∙ rw (← c.in-Some.ensures) refl) c.judge.ensures
