use Rattle.drv_forms.specs.PlanJson.{items_json, word_json}
use Rattle.json.specs.Tree.{items_tokens}
use Rattle.std.proofs.Common.{◌≡◌, ◌++◌, drop}
use Rattle.drv_forms.proofs.json_form.put_last_words.Given as goal

abbrev pub invariant-loop-word : goal.invariant-loop-word
invariant-loop-word l = l.out ++ items_tokens (items_json word_json (drop l.word-index l.words)) ≡ l.fn.out
    ++ items_tokens (items_json word_json l.words)
