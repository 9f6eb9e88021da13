use Rattle.drv_core.proofs.numbering.Numbering.add_temps.Given as goal
use Rattle.drv_core.specs.Code.LeftoverView.{leftover_list}
use Rattle.drv_core.specs.Windowed.{temp_files}
use Rattle.drv_core.specs.Code.Numbering.{Noting, number_in}
use Rattle.drv_core.specs.Code.NumberingView.{IsNoted}
use Rattle.drv_core.specs.Windowed.{File}
use Rattle.std.proofs.Common.{◌++◌, List, drop}

-- the added files and those that are left are all
abbrev pub invariant-loop-index : goal.invariant-loop-index
invariant-loop-index l = (before : List File) → IsNoted before l.fn.self
    → Noting (before ++ temp_files l.number 0 l.temp-items) (temp_files l.number l.index (drop l.index l.temp-items))
    (leftover_list l.self.files.items) (number_in l.self.known.entries (λ k. k.now))
