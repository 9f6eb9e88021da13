use Rattle.drv_machine.proofs.Standing.{front_in, here, nearer, not_test, passed_end, passed_step, passed_stop}
use Rattle.drv_machine.specs.Code.Standing.{Stands, is_test}
use Rattle.drv_machine.proofs.tokens_at.tests_end.Goals as goal
use Rattle.drv_syntax.specs.Labels.{Nodes}
use Rattle.std.proofs.Common.{ap, arith}

-- Names: `s`: the clause's condition `Stands`. `passed_end`: where the loop has reached the end of the parts, the tests end there.
-- `front_in`: a place before the end of whole parts is one of the list. `here`: at a place before the end of whole parts the token is in
-- the list. `nearer`: the parts after a token are nearer to the end than the token, so the loop ends.

-- the part is a token of the text
pub token_at-token-requires : goal.token_at-token-requires
token_at-token-requires c = front_in c.args.tree.now c.loop-at.at c.args.end c.loop-at-test.true c.loop-at.invariant.spans

-- a test takes a token at least
pub loop-at-smaller : goal.loop-at-smaller
loop-at-smaller c = nearer c.args.tree.now c.loop-at.at c.args.end c.loop-at-test.true c.token_at-token.result c.token_at-token.ensures
    c.loop-at.invariant.spans

-- after a test the other parts lie from its end on
pub loop-at-preserved : goal.loop-at-preserved
loop-at-preserved c = record {
  spans = (here c.args.tree.now c.loop-at.at c.args.end c.loop-at-test.true c.token_at-token.result c.token_at-token.ensures
      c.loop-at.invariant.spans).following;
  passed = λ nodes s.
      passed_step c.args.tree.now c.loop-at.at c.args.end c.loop-at-test.true c.token_at-token.result c.token_at-token.ensures c.args.start
      nodes (c.loop-at.invariant.passed nodes s)
      (ap is_test c.in-Test.is);
}

-- a part that is no test ends the tests
pub returns-in_default : goal.returns-in_default
returns-in_default c =
    let stop = λ (nodes : Nodes) (s : Stands c.args.tree.now c.args.start nodes c.args.end).
    passed_stop c.args.tree.now c.loop-at.at c.args.end c.loop-at-test.true c.token_at-token.result c.token_at-token.ensures c.args.start
    nodes (c.loop-at.invariant.passed nodes s)
    (not_test c.token_at-token.result.kind c.in_default.not-Test) in record {
      tests = λ nodes s. (stop nodes s).0;
      rest = λ nodes s. (stop nodes s).1;
    }

-- at the end of the parts all of them are tests, which lie up to it
pub returns-clause-tests : goal.returns-clause-tests
returns-clause-tests c nodes s = (passed_end c.args.tree.now c.args.start c.loop-at.at nodes c.args.end
    (omega (arith, c.loop-at-test.false)) (c.loop-at.invariant.passed nodes s)).0

-- at the end of the parts none is left after the tests
pub returns-clause-rest : goal.returns-clause-rest
returns-clause-rest c nodes s = (passed_end c.args.tree.now c.args.start c.loop-at.at nodes c.args.end (omega (arith, c.loop-at-test.false))
    (c.loop-at.invariant.passed nodes s)).1
