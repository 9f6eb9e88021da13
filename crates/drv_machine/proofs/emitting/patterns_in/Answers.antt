use Rattle.drv_machine.proofs.EmitSteps.{patterns_end, patterns_step}
use Rattle.drv_machine.proofs.Standing.{front_in, here, nearer}
use Rattle.drv_machine.proofs.emitting.patterns_in.Goals as goal
use Rattle.std.proofs.Common.{arith}

-- Names: `s`: the clause's condition `Stands`. `front_in`: a place before the end of whole parts is one of the list. `patterns_step`: the
-- loop's invariant after one more pattern is taken, by its token's label. `here`: at a place before the end of whole parts the token is in
-- the list.

-- the pattern is a token of the text
pub pattern_at-requires : goal.pattern_at-requires
pattern_at-requires c = front_in c.args.text.now c.loop-at.at c.args.end c.loop-at-test.true c.loop-at.invariant.spans

-- the pattern is a token of the text, for its end
pub token_at-at-requires : goal.token_at-at-requires
token_at-at-requires c = front_in c.args.text.now c.loop-at.at c.args.end c.loop-at-test.true c.loop-at.invariant.spans

-- a pattern takes a token at least
pub loop-at-smaller : goal.loop-at-smaller
loop-at-smaller c = nearer c.args.text.now c.loop-at.at c.args.end c.loop-at-test.true c.token_at-at.result c.token_at-at.ensures
    c.loop-at.invariant.spans

-- one pattern is taken, and the others are left
pub loop-at-preserved : goal.loop-at-preserved
loop-at-preserved c = record {
  spans = (here c.args.text.now c.loop-at.at c.args.end c.loop-at-test.true c.token_at-at.result c.token_at-at.ensures
      c.loop-at.invariant.spans).following;
  left = λ patterns s.
      patterns_step c.args.text.now c.loop-at.at c.args.end c.loop-at-test.true c.token_at-at.result c.token_at-at.ensures
      c.loop-at.patterns c.push.new.self c.pattern_at.result
      c.pattern_at.ensures c.in_ok-push.ensures.ok patterns (c.loop-at.invariant.left patterns s);
}

-- all patterns of the braces are taken
pub returns : goal.returns
returns c patterns s = patterns_end c.args.text.now c.loop-at.at c.args.end
    (omega (arith, c.loop-at-test.false)) c.loop-at.patterns patterns (c.loop-at.invariant.left patterns s)
