use Rattle.drv_machine.proofs.Cutter.{begun_with}
use Rattle.drv_machine.proofs.machine.Machine.new.Goals as goal
use Rattle.std.proofs.Common.{◌∙◌}

-- Names: `begun_with`: the fields that `Machine` is made with are the state before the first item.

-- a new machine has cut nothing, and its world is that of the context
pub returns : goal.returns
returns c F =
    rw (
      c.new-2.ensures,
      c.new-3.ensures,
      c.none.ensures,
      c.new-4.ensures,
      c.new-5.ensures,
      c.new-6.ensures,
      c.new-9.ensures,
      c.new-10.ensures,
      c.new-11.ensures,
    )
    (begun_with F c.args.context.now c.in_ok-new.field-0 c.switches.result.now c.in_ok-copy_words.field-0 c.in_ok-copy_words-2.field-0
    c.number.result
    c.switches.ensures c.in_ok-new.ensures (c.in_ok-copy_words.ensures ∙ c.accumulated.ensures) c.number.ensures
    (c.in_ok-copy_words-2.ensures ∙ c.outputs.ensures))
