use Rattle.drv_system.specs.declared.processes.Output.{Output}
use Rattle.drv_system.specs.declared.processes.Output.TheVariants.{Own, Pipe}
use Rattle.std.specs.Prelude.{Bool, false, true}

-- The destination of a command's standard output, as the code sees it. Only private clauses cite it.

-- whether a command writes into a pipe
abbrev pub is_pipe : Output → Bool
is_pipe Pipe = true
is_pipe Own = false
