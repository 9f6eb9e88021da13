use Rattle.drv_machine.proofs.Onward.{went_in}
use Rattle.drv_machine.proofs.TurnSteps.{at_place, inner_later, inner_there, turn_builtin, turn_choose, turn_failure, turn_filed}
use Rattle.drv_machine.proofs.TurnSteps.{turn_function, turn_item, turn_plain, turn_text, turn_uncounted}
use Rattle.drv_machine.proofs.turns.turn.Goals as goal
use Rattle.drv_machine.specs.Code.Counting.{state}
use Rattle.drv_machine.specs.Code.Running.{reached}
use Rattle.drv_machine.specs.declared.walk.Walk.{Walk}
use Rattle.std.proofs.Common.{Ok, ap, arith, rules}

-- Names: `F`: what is known of the outside. `given`: what the walk gives in the end. `e`: that `F` extends the facts of this call. `left`:
-- the clause's condition `Left`. `before_end`, `token`, `there`, `plain`: the fields of `AtByte` (specs/Code/PlainRuns). `state`: the state
-- of a machine and its count. `at_place`: the item that is reached is a token of the list. `inner_there`: the parts inside the item that is
-- reached are whole parts. `inner_later`: the end of the item that is reached is after its beginning. `reached n s`: the machine s where n
-- items were reached.

-- the item is a token of the text
pub token_at-token-requires : goal.token_at-token-requires
token_at-token-requires g c = at_place c.args.walk.now.text.now c.args.walk.now c.requires.lain c.requires.at_item

-- the alternatives lie inside the item
pub choose-requires : goal.choose-requires
choose-requires g c = inner_there c.args.walk.now.text.now c.args.walk.now c.requires.at_item c.token_at-token.result
    c.token_at-token.ensures c.requires.lain

-- the item is a token of the text
pub work_item-requires-clause-in_list : goal.work_item-requires-clause-in_list
work_item-requires-clause-in_list g c = at_place c.args.walk.now.text.now c.args.walk.now c.requires.lain c.requires.at_item

-- the parts inside the item lie there
pub work_item-requires-clause-spans : goal.work_item-requires-clause-spans
work_item-requires-clause-spans g c = inner_there c.args.walk.now.text.now c.args.walk.now c.requires.at_item c.token_at-token.result
    c.token_at-token.ensures c.requires.lain

-- the place after the item's token is a number of the machine
pub overflow_add-inside : goal.overflow_add-inside
overflow_add-inside g c =
    grind (
      arith,
      inner_later c.args.walk.now.text.now c.args.walk.now c.requires.at_item c.token_at-token.result c.token_at-token.ensures
          c.requires.lain,
    )

-- the item is a plain byte
pub work_run-requires-clause-at_byte : goal.work_run-requires-clause-at_byte
work_run-requires-clause-at_byte g c = record {
  before_end = c.requires.at_item.before_end;
  token = c.token_at-token.result;
  there = c.token_at-token.ensures;
  plain = c.in-Plain.is;
}

-- the plain byte is a token of the text
pub word-requires-in-Plain : goal.word-requires-in-Plain
word-requires-in-Plain g c = at_place c.args.walk.now.text.now c.args.walk.now c.requires.lain c.requires.at_item

-- the named text's item is a token of the text
pub word-requires : goal.word-requires
word-requires g c = at_place c.args.walk.now.text.now c.args.walk.now c.requires.lain c.requires.at_item

-- the item of %a or another letter is a token of the text
pub word-requires-in-BuiltinText : goal.word-requires-in-BuiltinText
word-requires-in-BuiltinText g c = at_place c.args.walk.now.text.now c.args.walk.now c.requires.lain c.requires.at_item

-- the parts of the %W lie inside the item
pub work_failure-requires : goal.work_failure-requires
work_failure-requires g c = inner_there c.args.walk.now.text.now c.args.walk.now c.requires.at_item c.token_at-token.result
    c.token_at-token.ensures c.requires.lain

-- the function's token is before the next part
pub open_call-requires : goal.open_call-requires
open_call-requires g c =
    grind (
      arith,
      inner_later c.args.walk.now.text.now c.args.walk.now c.requires.at_item c.token_at-token.result c.token_at-token.ensures
          c.requires.lain,
    )

-- the parts of the %@ lie inside the item
pub work_filed-requires : goal.work_filed-requires
work_filed-requires g c = inner_there c.args.walk.now.text.now c.args.walk.now c.requires.at_item c.token_at-token.result
    c.token_at-token.ensures c.requires.lain

-- the text has too many items
pub returns-in_err-count-clause-does : goal.returns-in_err-count-clause-does
returns-in_err-count-clause-does g c F e given left =
    let failed = turn_uncounted c.args.walk.now.text.now c.args.walk.now c.requires.at_item c.token_at-token.result c.token_at-token.ensures
    F c.args.context.now (state c.args.tally.now) given left c.in_err-count.field-0.0 (c.in_err-count.ensures.does F c.args.context.now) in
    let f = c.from_residual.ensures in
    search rules

-- braces with alternatives
pub returns-in-Choose-clause-does : goal.returns-in-Choose-clause-does
returns-in-Choose-clause-does g c F e given left =
    turn_choose c.args.walk.now.text.now c.args.walk.now c.requires.at_item c.token_at-token.result c.token_at-token.ensures F
    c.args.context.now (state c.args.tally.now) given left (state c.count.new.self)
    (c.in_ok-count.ensures.does F c.args.context.now) c.in-Choose.is _
    (λ choices stands following. c.choose.ensures.does c.count.new.self.items F choices given stands following)

-- an item that opens no part
pub returns-in_default-clause-does : goal.returns-in_default-clause-does
returns-in_default-clause-does g c F e given left =
    turn_item c.args.walk.now.text.now c.args.walk.now c.requires.at_item c.token_at-token.result c.token_at-token.ensures F
    c.args.context.now (state c.args.tally.now) given left (state c.count.new.self)
    (c.in_ok-count.ensures.does F c.args.context.now) c.work_item.result (reached c.count.new.self.items c.work_item.new.machine)
    (λ levels inner means. c.work_item.ensures.does c.count.new.self.items F e levels inner means)

-- plain bytes that follow one another, worked at once
pub returns-then-has_byte-clause-does : goal.returns-then-has_byte-clause-does
returns-then-has_byte-clause-does g c F e given left =
    went_in F c.args.context.now c.args.walk.now.text.now c.work_run.new.walk.text.now c.work_run.new.walk (state c.work_run.new.tally)
    given c.work_run.result (ap (λ (w : Walk). w.text.now) c.work_run.ensures.same)
    (c.work_run.ensures.does F c.args.context.now (state c.args.tally.now) given (c.in_ok-count.ensures.does F c.args.context.now) left)

-- a plain byte alone
pub returns-in_ok-put_bytes-in-Plain-clause-does : goal.returns-in_ok-put_bytes-in-Plain-clause-does
returns-in_ok-put_bytes-in-Plain-clause-does g c F e given left =
    turn_plain c.args.walk.now.text.now c.args.walk.now c.requires.at_item c.token_at-token.result c.token_at-token.ensures F
    c.args.context.now (state c.args.tally.now) given left (state c.count.new.self)
    (c.in_ok-count.ensures.does F c.args.context.now) c.in-Plain.is c.word-in-Plain.result.now c.word-in-Plain.ensures
    (Ok tt) (reached c.count.new.self.items c.put_bytes.new.self) (c.in_ok-put_bytes-in-Plain.ensures c.count.new.self.items F
    c.args.context.now)

-- a named text
pub returns-in-NamedText-clause-does : goal.returns-in-NamedText-clause-does
returns-in-NamedText-clause-does g c F e given left =
    c.open_named_text.ensures.does F given
    (turn_text c.args.walk.now.text.now c.args.walk.now c.requires.at_item c.token_at-token.result c.token_at-token.ensures F
    c.args.context.now (state c.args.tally.now) given left (state c.count.new.self)
    (c.in_ok-count.ensures.does F c.args.context.now) c.in-NamedText.is c.word.result.now c.word.ensures)

-- a text that a letter such as %a denotes
pub returns-in-BuiltinText-clause-does : goal.returns-in-BuiltinText-clause-does
returns-in-BuiltinText-clause-does g c F e given left =
    c.open_named_text-in-BuiltinText.ensures.does F given
    (turn_builtin c.args.walk.now.text.now c.args.walk.now c.requires.at_item c.token_at-token.result c.token_at-token.ensures F
    c.args.context.now (state c.args.tally.now) given left (state c.count.new.self)
    (c.in_ok-count.ensures.does F c.args.context.now) c.in-BuiltinText.is c.word-in-BuiltinText.result.now c.word-in-BuiltinText.ensures)

-- a %W
pub returns-in-FailureFile-clause-does : goal.returns-in-FailureFile-clause-does
returns-in-FailureFile-clause-does g c F e given left =
    turn_failure c.args.walk.now.text.now c.args.walk.now c.requires.at_item c.token_at-token.result c.token_at-token.ensures F
    c.args.context.now (state c.args.tally.now) given left (state c.count.new.self)
    (c.in_ok-count.ensures.does F c.args.context.now) c.in-FailureFile.is _
    (λ brace stands following. c.work_failure.ensures.does c.count.new.self.items F e brace given stands following)

-- a function
pub returns-in-Function-clause-does : goal.returns-in-Function-clause-does
returns-in-Function-clause-does g c F e given left =
    turn_function c.args.walk.now.text.now c.args.walk.now c.requires.at_item c.token_at-token.result c.token_at-token.ensures F
    c.args.context.now (state c.args.tally.now) given left (state c.count.new.self)
    (c.in_ok-count.ensures.does F c.args.context.now) c.in-Function.is _ (λ name items word stands following.
    c.open_call.ensures.does c.count.new.self.items F c.args.context.now name items given
    (at_place c.args.walk.now.text.now c.args.walk.now c.requires.lain c.requires.at_item) word stands following)

-- a %@
pub returns-in-ArgumentsFile-clause-does : goal.returns-in-ArgumentsFile-clause-does
returns-in-ArgumentsFile-clause-does g c F e given left =
    turn_filed c.args.walk.now.text.now c.args.walk.now c.requires.at_item c.token_at-token.result c.token_at-token.ensures F
    c.args.context.now (state c.args.tally.now) given left (state c.count.new.self)
    (c.in_ok-count.ensures.does F c.args.context.now) c.in-ArgumentsFile.is _
    (λ brace stands following. c.work_filed.ensures.does c.count.new.self.items F e brace given stands following)
