use Rattle.drv_core.specs.Code.LeftoverView.{leftover_list}
use Rattle.drv_core.specs.Code.Numbering.{Noted, number_in}
use Rattle.drv_core.specs.Windowed.{File}
use Rattle.drv_core.specs.declared.numbering.Numbering.{Numbering}
use Rattle.std.specs.Prelude.{List, ◌++◌, OnOk, Result}

-- How the numbered files in the code are seen. Only private clauses cite it.

-- these files were numbered, as the code's list and map show
abbrev pub IsNoted : List File → Numbering → Type 0
IsNoted before n = Noted before (leftover_list n.files.items) (number_in n.known.entries (λ k. k.now))

-- these files were added to those that were already noted
abbrev pub Adds : {E : Type 0} → Result (Unit {0}) E → List File → Numbering → Numbering → Type 0
Adds result more old new = (before : List File) → IsNoted before old → OnOk result (IsNoted (before ++ more) new)
