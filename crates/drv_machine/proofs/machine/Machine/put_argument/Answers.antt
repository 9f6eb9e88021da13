use Rattle.drv_machine.proofs.Cutter.{argument_none, argument_open, put_failed, put_last, whole_failed, whole_last}
use Rattle.drv_machine.proofs.machine.Machine.put_argument.Goals as goal
use Rattle.drv_machine.specs.Code.Running.{reached}
use Rattle.drv_machine.specs.Context.{argument}
use Rattle.drv_machine.specs.Working.{Break, Put, word_of}
use Rattle.drv_system.proofs.AskedCalls.{asked_further, extends_before}
use Rattle.std.proofs.Common.{◌∙◌, Some, [], ◌∷◌, ap, map, rules, sym}

-- Names: `n`: how many items were reached. `F`: what is known of the outside. `e`: that `F` extends the facts of this call. `reached n s`:
-- the machine s where n items were reached. `argument`: the argument of the switch at a place, if it has one. `argument_open`: a switch
-- with one. `put_failed`: where the first part of a list is refused, the whole is.

-- the word of the switch can't end
pub returns-in_err-end_word-clause-does : goal.returns-in_err-end_word-clause-does
returns-in_err-end_word-clause-does g c n F e =
    let failed = put_failed F c.args.context.now (reached n c.args.self.now) (Break ∷ [])
    (word_of (argument c.args.context.now c.args.i)) c.in_err-end_word.field-0.0 (c.in_err-end_word.ensures.does n F e) in
    let handed = c.from_residual.ensures in search rules

-- the switch has no argument
pub returns-in_default-clause-does : goal.returns-in_default-clause-does
returns-in_default-clause-does g c n F e =
    argument_none F c.args.context.now (reached n c.args.self.now) (reached n c.end_word.new.self) (argument c.args.context.now c.args.i)
    (sym c.argument.ensures ∙ c.in_default.is) (c.in_ok-end_word.ensures.does n F e)

-- no memory for the argument
pub returns-in_err-put-clause-does : goal.returns-in_err-put-clause-does
returns-in_err-put-clause-does g c n F e =
    let whole = argument_open F c.args.context.now (reached n c.args.self.now) (reached n c.end_word.new.self) (reached n c.open.new.self)
    (argument c.args.context.now c.args.i) c.as_bytes.result.now
    (sym c.argument.ensures ∙ c.in-Some.is ∙ ap Some (sym c.as_bytes.ensures)) (c.in_ok-end_word.ensures.does n F e)
    (c.open.ensures.does n F c.args.context.now) in
    let failed = whole_failed F c.args.context.now c.in_err-put.field-0.0 whole
    (put_failed F c.args.context.now (reached n c.open.new.self) (map Put c.as_bytes.result.now) (Break ∷ []) c.in_err-put.field-0.0
    (c.in_err-put.ensures n F c.args.context.now)) in
    let handed = c.from_residual-in_err-put.ensures in search rules

-- the argument is put as a word
pub returns-clause-does : goal.returns-clause-does
returns-clause-does g c n F e =
    let whole = argument_open F c.args.context.now (reached n c.args.self.now) (reached n c.end_word.new.self) (reached n c.open.new.self)
    (argument c.args.context.now c.args.i) c.as_bytes.result.now (sym c.argument.ensures ∙ c.in-Some.is ∙ ap Some (sym c.as_bytes.ensures))
    (c.in_ok-end_word.ensures.does n F (extends_before c.end_word-2.ensures.asks e)) (c.open.ensures.does n F c.args.context.now) in
    whole_last F c.args.context.now (reached n c.end_word-2.new.self) c.end_word-2.result whole
    (put_last F c.args.context.now (reached n c.open.new.self) (reached n c.put.new.self) (reached n c.end_word-2.new.self)
    (map Put c.as_bytes.result.now) (Break ∷ []) c.end_word-2.result (c.in_ok-put.ensures n F c.args.context.now)
    (c.end_word-2.ensures.does n F e))

-- what was asked, where the word of the switch can't end
pub returns-in_err-end_word-clause-asks : goal.returns-in_err-end_word-clause-asks
returns-in_err-end_word-clause-asks g c = c.end_word.ensures.asks

-- what was asked for the word of the switch
pub returns-in_default-clause-asks : goal.returns-in_default-clause-asks
returns-in_default-clause-asks g c = c.end_word.ensures.asks

-- what was asked, where there is no memory for the argument
pub returns-in_err-put-clause-asks : goal.returns-in_err-put-clause-asks
returns-in_err-put-clause-asks g c = c.end_word.ensures.asks

-- what was asked for both words
pub returns-clause-asks : goal.returns-clause-asks
returns-clause-asks g c = asked_further c.end_word.ensures.asks c.end_word-2.ensures.asks
