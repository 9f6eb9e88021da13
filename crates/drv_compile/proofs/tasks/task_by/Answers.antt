use Rattle.drv_compile.proofs.Leading.{answer_asks, answer_refused, answer_runs}
use Rattle.drv_compile.proofs.tasks.task_by.Goals as goal

-- Names: `answer_refused`: `task_by` tells the refusals of a line that is refused. `answer_runs`: a line that is carried out of another.

pub returns-in-Ask : goal.returns-in-Ask
returns-in-Ask c = answer_asks c.args.file c.args.around c.args.reading c.in-Ask.is

pub returns-in-Run : goal.returns-in-Run
returns-in-Run c = answer_runs c.args.file c.args.around c.args.reading c.in-Run.call c.in-Run.is

-- a line that is refused: the call says its refusals
pub returns-in_ok-text-in-Refuse : goal.returns-in_ok-text-in-Refuse
returns-in_ok-text-in-Refuse c =
    answer_refused c.args.calling.now c.args.file c.args.around c.args.reading c.in-Refuse.refusals _ _ _ c.in_ok-text-in-Refuse.text
    c.in-Refuse.is c.as_bytes-name.ensures c.as_bytes.ensures
    c.as_slice.ensures c.in_ok-text-in-Refuse.ensures
