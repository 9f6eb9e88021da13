use Rattle.drv_forms.specs.Script.{marked_text}
use Rattle.std.proofs.Common.{◌≡◌, ◌++◌, drop}
use Rattle.std.specs.List.{flat_map}
use Rattle.drv_forms.proofs.scripting.push_all_marked.Given as goal

abbrev pub invariant-loop-path : goal.invariant-loop-path
invariant-loop-path l =
    l.text.items ++ flat_map (marked_text l.stem) (drop l.path-index l.paths)
    ≡ l.fn.text.items ++ flat_map (marked_text l.stem) l.paths
