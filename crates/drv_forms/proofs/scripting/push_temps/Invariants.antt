use Rattle.drv_forms.specs.Script.{temp_text}
use Rattle.std.proofs.Common.{◌≡◌, ◌++◌, drop}
use Rattle.std.specs.List.{flat_map}
use Rattle.drv_forms.proofs.scripting.push_temps.Given as goal

abbrev pub invariant-loop-temp : goal.invariant-loop-temp
invariant-loop-temp l =
    l.text.items ++ flat_map (temp_text l.stem) (drop l.temp-index l.temps)
    ≡ l.fn.text.items ++ flat_map (temp_text l.stem) l.temps
