use Rattle.drv_forms.specs.Script.{group_text}
use Rattle.std.proofs.Common.{◌≡◌, ◌++◌, drop}
use Rattle.std.specs.List.{flat_map}
use Rattle.drv_forms.proofs.scripting.push_groups.Given as goal

abbrev pub invariant-loop-group : goal.invariant-loop-group
invariant-loop-group l =
    l.text.items ++ flat_map (group_text l.stem) (drop l.group-index l.groups)
    ≡ l.fn.text.items ++ flat_map (group_text l.stem) l.groups
