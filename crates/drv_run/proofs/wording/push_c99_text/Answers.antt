use Rattle.drv_run.proofs.wording.push_c99_text.Goals as goal

-- push_c99_text (src/wording.rt). Adds the text of a fault of a line of `c99`.

pub returns-in-Memory : goal.returns-in-Memory
returns-in-Memory c = rw c.in-Memory.is c.extend_from_slice.ensures.ok

pub returns-in-UnknownOption : goal.returns-in-UnknownOption
returns-in-UnknownOption c = rw c.in-UnknownOption.is c.push_around.ensures

pub returns-in-MissingArgument : goal.returns-in-MissingArgument
returns-in-MissingArgument c = rw c.in-MissingArgument.is c.push_around-in-MissingArgument.ensures

pub returns-in-NoOperand : goal.returns-in-NoOperand
returns-in-NoOperand c = rw c.in-NoOperand.is c.extend_from_slice-in-NoOperand.ensures.ok

pub returns-in-BadLevel : goal.returns-in-BadLevel
returns-in-BadLevel c = rw c.in-BadLevel.is c.push_around-in-BadLevel.ensures
