use Rattle.drv_compile.proofs.MachineRows.{rows_left_out, suffix_left_out}
use Rattle.drv_compile.proofs.machines.for_machines.Goals as goal

pub returns-clause-rows : goal.returns-clause-rows
returns-clause-rows c items = rows_left_out c.args.text.now c.has_either.result items c.has_either.ensures c.if-has_either.false

pub returns-clause-suffix : goal.returns-clause-suffix
returns-clause-suffix c items = suffix_left_out c.args.text.now c.has_either.result items c.has_either.ensures c.if-has_either.false
