use Rattle.drv_core.proofs.numbering.Numbering.add_sources.Given as goal
use Rattle.drv_core.specs.Code.LeftoverView.{leftover_list}
use Rattle.drv_core.specs.Windowed.{files_from}
use Rattle.drv_core.specs.Code.Numbering.{Noting, number_in}
use Rattle.drv_core.specs.Code.NumberingView.{IsNoted}
use Rattle.drv_core.specs.Windowed.{File}
use Rattle.std.proofs.Common.{◌++◌, List, drop}

-- the added files and those that are left are all
abbrev pub invariant-loop-number : goal.invariant-loop-number
invariant-loop-number l = (before : List File) → IsNoted before l.fn.self
    → Noting (before ++ files_from 0 l.jobs) (files_from l.number (drop l.number l.jobs)) (leftover_list l.self.files.items)
    (number_in l.self.known.entries (λ k. k.now))
