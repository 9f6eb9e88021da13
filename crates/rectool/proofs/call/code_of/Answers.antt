use Rattle.rectool.proofs.Calls.{accepted, refused}
use Rattle.rectool.proofs.call.code_of.Goals as goal
use Rattle.std.proofs.Common.{sym, ◌∙◌}

-- Names: `accepted`: so the code's loop ends with the status of all digits. `refused`: the digits that are left decide that there is no
-- code.

-- a byte is no digit, or the number is over 255: there is no status
pub returns-in_err-code : goal.returns-in_err-code
returns-in_err-code c =
    c.from_residual.ensures ∙ sym (refused c.args.digits.now c.loop-digit.code c.loop-digit.digit-index (sym c.if-is_empty.ensures)
    c.loop-digit-test.true c.loop-digit.invariant.rest
    (sym c.with_digit.ensures ∙ c.in_err-code.was))

-- all digits were read: their number is the status
pub returns : goal.returns
returns c =
    accepted c.args.digits.now c.loop-digit.code c.loop-digit.digit-index (sym c.if-is_empty.ensures) c.loop-digit-test.false
    c.loop-digit.invariant.small c.loop-digit.invariant.rest
