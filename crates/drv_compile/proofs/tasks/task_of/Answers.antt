use Rattle.drv_compile.proofs.Leading.{compiler_declined, damaged_declined}
use Rattle.drv_compile.proofs.tasks.task_of.Goals as goal

-- Names: `compiler_declined`: the text about a compiler that is not named declines the line. `damaged_declined`: the text about a file that
-- isn't whole declines it.

pub returns-in_ok-text-in-NoCompiler : goal.returns-in_ok-text-in-NoCompiler
returns-in_ok-text-in-NoCompiler c =
    compiler_declined c.args.calling.now c.args.decision c.in-NoCompiler.specs c.as_bytes.result.now c.in_ok-text-in-NoCompiler.text
    c.in-NoCompiler.is c.as_bytes.ensures c.in_ok-text-in-NoCompiler.ensures

-- a file isn't whole: the call declines the line with a text about that file
pub returns-in_ok-text-in-Damaged : goal.returns-in_ok-text-in-Damaged
returns-in_ok-text-in-Damaged c =
    damaged_declined c.args.calling.now c.args.decision c.in-Damaged.specs c.in-Damaged.path c.as_bytes-in-Damaged-2.result.now
    c.as_bytes-in-Damaged.result.now c.in_ok-text-in-Damaged.text c.in-Damaged.is c.as_bytes-in-Damaged-2.ensures
    c.as_bytes-in-Damaged.ensures c.in_ok-text-in-Damaged.ensures
