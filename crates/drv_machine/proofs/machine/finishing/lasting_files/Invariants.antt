use Rattle.drv_machine.proofs.machine.finishing.lasting_files.Given as goal
use Rattle.drv_machine.specs.Working.{is_among}
use Rattle.std.proofs.Common.{map, ◌≡◌}
use Rattle.std.specs.List.{filter}
use Rattle.std.specs.Prelude.{not}

-- the files kept are those so far that are no temporaries
abbrev pub invariant-loop-file : goal.invariant-loop-file
invariant-loop-file l = l.kept ≡ filter (λ file. not (is_among (map (λ name. name.path) l.drawn) file)) l.yielded
