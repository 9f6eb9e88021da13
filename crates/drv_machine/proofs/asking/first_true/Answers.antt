use Rattle.drv_machine.proofs.Standing.{front_in, here, nearer}
use Rattle.drv_machine.proofs.TrueTests.{found_asks, found_false, found_true, no_tests_left}
use Rattle.drv_machine.proofs.asking.first_true.Goals as goal
use Rattle.drv_machine.specs.Atoms as atoms
use Rattle.drv_machine.specs.Code.Running.{reached, run}
use Rattle.std.proofs.Common.{ap, arith, refl, sym, ◌∙◌}

-- Names: `n`: how many items were reached. `F`: what is known of the outside. `levels`: what items mean after each part that may still be
-- opened. `star`: the value of `%*`. `s`: the clause's condition `Stands`. `rest`, `stands`, `same`: the fields of `PartsLeft`
-- (proofs/Standing). `reached n s`: the machine s where n items were reached. `front_in`: a place before the end of whole parts is one of
-- the list. `here`: at a place before the end of whole parts the token is in the list. `nearer`: the parts after a token are nearer to the
-- end than the token, so the loop ends. `found_asks`: here is a test by a function.

-- before the first test all are left
pub loop-at-init : goal.loop-at-init
loop-at-init c = record {
  low = omega arith;
  spans = c.requires;
  left = λ n F tests levels star s. record { rest = tests; stands = s; same = refl };
}

-- the place is a token of the text
pub is_call-requires : goal.is_call-requires
is_call-requires c = front_in c.args.text.now c.loop-at.at c.args.end c.loop-at-test.true c.loop-at.invariant.spans

-- the test is not by a function
pub truth-requires-clause-no_result : goal.truth-requires-clause-no_result
truth-requires-clause-no_result c = sym c.is_call.ensures ∙ c.if-is_call.false

-- a test by a function must be asked first
pub returns-then-is_call-clause-does : goal.returns-then-is_call-clause-does
returns-then-is_call-clause-does c n F tests levels star s =
    found_asks F c.args.context.now c.args.text.now (reached n c.args.machine.now) (reached n c.args.machine.now) c.loop-at.at c.args.end
    c.loop-at-test.true tests levels star (c.loop-at.invariant.left n F tests levels star s) (sym c.is_call.ensures ∙ c.if-is_call.true)

-- the test by a function is one of the tests
pub returns-then-is_call-clause-within : goal.returns-then-is_call-clause-within
returns-then-is_call-clause-within c = (
  c.loop-at.invariant.low,
  c.loop-at-test.true,
  front_in c.args.text.now c.loop-at.at c.args.end c.loop-at-test.true
      c.loop-at.invariant.spans,
)

-- the test is a token of the text
pub truth-requires-clause-in_list : goal.truth-requires-clause-in_list
truth-requires-clause-in_list c = front_in c.args.text.now c.loop-at.at c.args.end c.loop-at-test.true c.loop-at.invariant.spans

-- the test is a token of the text, for its !
pub is_negated-requires : goal.is_negated-requires
is_negated-requires c = front_in c.args.text.now c.loop-at.at c.args.end c.loop-at-test.true c.loop-at.invariant.spans

-- the test is a token of the text, for its end
pub token_at-at-requires : goal.token_at-at-requires
token_at-at-requires c = front_in c.args.text.now c.loop-at.at c.args.end c.loop-at-test.true c.loop-at.invariant.spans

-- a test takes a token at least
pub loop-at-smaller : goal.loop-at-smaller
loop-at-smaller c = nearer c.args.text.now c.loop-at.at c.args.end c.loop-at-test.true c.token_at-at.result c.token_at-at.ensures
    c.loop-at.invariant.spans

-- a test is true, its ! considered
pub returns-then-truth-is_negated-clause-does : goal.returns-then-truth-is_negated-clause-does
returns-then-truth-is_negated-clause-does c n F tests levels star s =
    found_true F c.args.context.now c.args.text.now (reached n c.args.machine.now) (reached n c.args.machine.now) c.loop-at.at c.args.end
    c.loop-at-test.true tests levels star
    (c.loop-at.invariant.left n F tests levels star s) (sym c.is_call.ensures ∙ c.if-is_call.false) (reached n c.args.machine.now)
    c.truth.result c.is_negated.result c.is_negated.ensures (c.truth.ensures n F) c.if-truth-is_negated.true

-- a test is false, and those after it are left
pub loop-at-preserved : goal.loop-at-preserved
loop-at-preserved c =
    let h = here c.args.text.now c.loop-at.at c.args.end c.loop-at-test.true c.token_at-at.result c.token_at-at.ensures
    c.loop-at.invariant.spans in record {
      low = omega (arith, c.loop-at.invariant.low, h.later);
      spans = (here c.args.text.now c.loop-at.at c.args.end c.loop-at-test.true c.token_at-at.result c.token_at-at.ensures
          c.loop-at.invariant.spans).following;
      left = λ n F tests levels star s.
          found_false F c.args.context.now c.args.text.now (reached n c.args.machine.now) (reached n c.args.machine.now) c.loop-at.at
          c.args.end c.loop-at-test.true tests levels star
          (c.loop-at.invariant.left n F tests levels star s) (sym c.is_call.ensures ∙ c.if-is_call.false) (reached n c.args.machine.now)
          c.truth.result c.is_negated.result c.is_negated.ensures (c.truth.ensures n F)
          c.if-truth-is_negated.false c.token_at-at.result c.token_at-at.ensures;
    }

-- no test is true
pub returns-clause-does : goal.returns-clause-does
returns-clause-does c n F tests levels star s =
    let left = c.loop-at.invariant.left n F tests levels star s in
    let none = no_tests_left c.args.text.now c.loop-at.at left.rest c.args.end (omega (arith, c.loop-at-test.false)) left.stands in
    sym left.same ∙ ap (λ ts. run F c.args.context.now (reached n c.args.machine.now)
    (atoms.first_true F c.args.context.now ts levels star)) none

-- the test that is true is one of the tests
pub returns-then-truth-is_negated-clause-within : goal.returns-then-truth-is_negated-clause-within
returns-then-truth-is_negated-clause-within c = (
  c.loop-at.invariant.low,
  c.loop-at-test.true,
  front_in c.args.text.now c.loop-at.at c.args.end c.loop-at-test.true
      c.loop-at.invariant.spans,
)
