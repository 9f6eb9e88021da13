use Rattle.drv_gcc.proofs.composing.push_all_included.Given as goal
use Rattle.drv_gcc.specs.SpecFile.{included_text}
use Rattle.std.specs.List.{flat_map}
use Rattle.std.proofs.Common.{◌≡◌, ◌++◌, drop}

abbrev pub invariant-loop-file : goal.invariant-loop-file
invariant-loop-file l = l.text ++ flat_map included_text (drop l.file-index l.files) ≡ l.fn.text ++ flat_map included_text l.files
