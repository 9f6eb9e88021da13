use Rattle.drv_machine.proofs.CutLines.{arguments_are, lines_are, stray_is}
use Rattle.drv_machine.proofs.cut_laws.command_law.Goals as goal

-- Names: `arguments_are`: the words of a function's arguments are those of the last command. `lines_are`: a list of atoms without a file is
-- cut into the commands that the definition says.

-- the commands of the cut are those of the definition
pub returns-clause-lines : goal.returns-clause-lines
returns-clause-lines c = lines_are

-- a pipe of the cut is stray exactly where the definition says
pub returns-clause-stray : goal.returns-clause-stray
returns-clause-stray c = stray_is

-- the words of arguments are those of the list's last command
pub returns-clause-arguments : goal.returns-clause-arguments
returns-clause-arguments c = arguments_are
