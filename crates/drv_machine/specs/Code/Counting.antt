use Rattle.drv_machine.specs.Code.Running.{Machine, reached}
use Rattle.drv_machine.specs.declared.machine.tally.Tally.{Tally}

-- The machine and the count of items, which the code holds apart: no item changes the count. For the clauses of the walk's loop (turns.rt),
-- and of what counts itself.

-- the state of a machine and its count
abbrev pub state : Tally → Machine
state t = reached t.items t.machine
