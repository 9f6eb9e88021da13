use Rattle.drv_forms.specs.Script.{member_text}
use Rattle.std.proofs.Common.{◌≡◌, ◌++◌, drop}
use Rattle.std.specs.List.{flat_map}
use Rattle.drv_forms.proofs.scripting.push_members.Given as goal

abbrev pub invariant-loop-command : goal.invariant-loop-command
invariant-loop-command l = l.text.items ++ flat_map (member_text l.stem) (drop l.command-index l.commands) ≡ l.fn.text.items
    ++ flat_map (member_text l.stem) l.commands
