use Rattle.drv_compile.proofs.Done.{all_set, none_set, set_more, some_set}
use Rattle.drv_compile.proofs.compiling.set_children.Goals as goal
use Rattle.std.proofs.Common.{◌∙◌, ap, arith, length, rules}

pub loop-variable-init : goal.loop-variable-init
loop-variable-init g c = record { sets = none_set _ _ _; same = search rules }

-- One variable more was set (`set_more`), and the system's journal is the same.
pub loop-variable-preserved : goal.loop-variable-preserved
loop-variable-preserved g c = record {
  sets =
      set_more _ c.args.children.now c.loop-variable.variable-index c.variable-item.result _ _ _ _ c.loop-variable-test.true
      c.variable-item.is
      (ap length c.loop-variable.invariant.same) c.in_ok-set_for_children.ensures.event c.loop-variable.invariant.sets;
  same = c.set_for_children.ensures.unchanged ∙ c.loop-variable.invariant.same;
}

pub returns-in_err-set_for_children-clause-sets : goal.returns-in_err-set_for_children-clause-sets
returns-in_err-set_for_children-clause-sets g c = some_set _ _ _ _ _ _ c.from_residual.result _ c.loop-variable.invariant.sets
    c.in_err-set_for_children.ensures.memory c.from_residual.ensures.1

pub returns-in_err-set_for_children-clause-unchanged : goal.returns-in_err-set_for_children-clause-unchanged
returns-in_err-set_for_children-clause-unchanged g c = c.set_for_children.ensures.unchanged ∙ c.loop-variable.invariant.same

pub returns-clause-sets : goal.returns-clause-sets
returns-clause-sets g c = all_set _ c.args.children.now c.loop-variable.variable-index _ _
    (omega (arith, c.loop-variable-test.false)) c.loop-variable.invariant.sets
