use Rattle.drv_forms.proofs.Documents.{document_of, plan_shallow}
use Rattle.drv_forms.proofs.Reading.{plan_back}
use Rattle.drv_forms.specs.PlanJson.{plan_json}
use Rattle.drv_forms.specs.PlanOfJson.{plan_of}
use Rattle.json.specs.Lex.{tokens}
use Rattle.json.specs.Tree.{json_tokens}
use Rattle.std.proofs.Common.{◌≡◌, option_and_then, ap, ◌∙◌, arith}
use Rattle.std.proofs.lemmas.Grind.{common_steps}
use Rattle.drv_forms.proofs.json_form.plan_json.Goals as goal

-- Names: `plan_json`: a plan as an object. `document_of`: tokens of a value are its whole text, if the value doesn't nest too deep.

pub returns-clause-document : goal.returns-clause-document
returns-clause-document c =
    let are : tokens c.from_vec.result ≡ json_tokens (plan_json c.args.plan.now) = grind (arith, common_steps) in
    document_of c.from_vec.result (plan_json c.args.plan.now) are (plan_shallow c.args.plan.now)

pub returns-clause-reads_back : goal.returns-clause-reads_back
returns-clause-reads_back c is =
    let are : tokens c.from_vec.result ≡ json_tokens (plan_json c.args.plan.now) = grind (arith, common_steps) in
    ap (option_and_then plan_of) (document_of c.from_vec.result (plan_json c.args.plan.now) are (plan_shallow c.args.plan.now))
    ∙ plan_back c.args.plan.now is
