use Rattle.drv_compile.proofs.reading.unknown_switches.Given as goal
use Rattle.drv_compile.specs.Reading.{unknown_switches}
use Rattle.std.proofs.Common.{◌≡◌, ◌++◌, drop}

abbrev pub invariant-loop-refusal : goal.invariant-loop-refusal
invariant-loop-refusal l = l.switches ++ unknown_switches (drop l.refusal-index l.refusals) ≡ unknown_switches l.refusals
