use Rattle.drv_forms.specs.PlanJson.{items_json, number_json}
use Rattle.json.specs.Token.{begin_array}
use Rattle.json.specs.Tree.{items_tokens}
use Rattle.std.proofs.Common.{◌≡◌, ◌∷◌, ◌++◌, drop}
use Rattle.drv_forms.proofs.json_form.put_bytes.Given as goal

abbrev pub invariant-loop-byte : goal.invariant-loop-byte
invariant-loop-byte l = l.out ++ items_tokens (items_json number_json (drop l.byte-index l.bytes)) ≡ l.fn.out ++ begin_array
    ∷ items_tokens (items_json number_json l.bytes)
