use Rattle.drv_cc.proofs.Staying.{noted_class}
use Rattle.drv_cc.proofs.keeping.note_class.Goals as goal
use Rattle.std.proofs.Common.{◌∙◌}

pub returns-clause-noted : goal.returns-clause-noted
returns-clause-noted c p some =
    noted_class p c.args.class.now c.of.result _ _ (c.of.ensures ∙ c.as_bytes.ensures) (c.in_ok-insert.ensures.updates.0 p)
