use Rattle.drv_forms.specs.PlanJson.{items_json, temp_json}
use Rattle.json.specs.Token.{begin_array}
use Rattle.json.specs.Tree.{items_tokens}
use Rattle.std.proofs.Common.{◌≡◌, ◌∷◌, ◌++◌, drop}
use Rattle.drv_forms.proofs.json_form.put_temps.Given as goal

abbrev pub invariant-loop-temp : goal.invariant-loop-temp
invariant-loop-temp l = l.out ++ items_tokens (items_json temp_json (drop l.temp-index l.temps)) ≡ l.fn.out ++ begin_array
    ∷ items_tokens (items_json temp_json l.temps)
