use Rattle.drv_syntax.proofs.MarkedWords.{marks_step}
use Rattle.drv_syntax.proofs.labels.push_marks.Goals as goal
use Rattle.std.proofs.Common.{arith, ◌∙◌}

-- Names: `marks_step`: a step of the loop of `push_marks` keeps the list of marks that the loop leads to.

-- one mark more is put, in reserved room
pub loop-byte-preserved : goal.loop-byte-preserved
loop-byte-preserved c =
    record {
      same = marks_step c.loop-byte.marks.items c.push_reserved.new.self.items _ c.loop-byte.place c.loop-byte._byte-index c.args.run.now
          c.loop-byte-test.true c.push_reserved.ensures.items c.loop-byte.invariant.same;
      place = omega (arith, c.loop-byte.invariant.place);
      size = omega (arith, c.push_reserved.ensures.len, c.loop-byte.invariant.size);
      room = c.push_reserved.ensures.capacity ∙ c.loop-byte.invariant.room;
    }
