use Rattle.drv_forms.specs.PlanJson.{items_json, group_json}
use Rattle.json.specs.Token.{begin_array}
use Rattle.json.specs.Tree.{items_tokens}
use Rattle.std.proofs.Common.{◌≡◌, ◌∷◌, ◌++◌, drop}
use Rattle.drv_forms.proofs.json_form.put_groups.Given as goal

abbrev pub invariant-loop-group : goal.invariant-loop-group
invariant-loop-group l = l.out ++ items_tokens (items_json group_json (drop l.group-index l.groups)) ≡ l.fn.out ++ begin_array
    ∷ items_tokens (items_json group_json l.groups)
