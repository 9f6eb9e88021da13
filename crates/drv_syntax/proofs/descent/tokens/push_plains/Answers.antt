use Rattle.drv_syntax.proofs.PlainTokens.{tokens_step}
use Rattle.drv_syntax.proofs.descent.tokens.push_plains.Goals as goal
use Rattle.std.proofs.Common.{arith, ◌∙◌}

-- Names: `tokens_step`: a step of the loop of `push_plains` keeps the list of tokens that the loop leads to.

-- one token more is put, in reserved room
pub loop-byte-preserved : goal.loop-byte-preserved
loop-byte-preserved c =
    record {
      same =
          tokens_step c.loop-byte.list.items c.push_reserved.new.self.items _ c.loop-byte.place c.loop-byte.next c.loop-byte._byte-index
          c.args.run.now c.loop-byte-test.true c.push_reserved.ensures.items
          c.loop-byte.invariant.same;
      place = omega (arith, c.loop-byte.invariant.place);
      next = omega (arith, c.loop-byte.invariant.next);
      size = omega (arith, c.push_reserved.ensures.len, c.loop-byte.invariant.size);
      room = c.push_reserved.ensures.capacity ∙ c.loop-byte.invariant.room;
    }
