use Rattle.drv_forms.specs.PlanJson.{items_json, command_json}
use Rattle.json.specs.Token.{begin_array}
use Rattle.json.specs.Tree.{items_tokens}
use Rattle.std.proofs.Common.{◌≡◌, ◌∷◌, ◌++◌, drop}
use Rattle.drv_forms.proofs.json_form.put_group.Given as goal

abbrev pub invariant-loop-command : goal.invariant-loop-command
invariant-loop-command l = l.out ++ items_tokens (items_json command_json (drop l.command-index l.command-items)) ≡ l.fn.out ++ begin_array
    ∷ items_tokens (items_json command_json l.command-items)
