use Rattle.drv_forms.specs.PlanJson.{items_json, job_json}
use Rattle.json.specs.Token.{begin_array}
use Rattle.json.specs.Tree.{items_tokens}
use Rattle.std.proofs.Common.{◌≡◌, ◌∷◌, ◌++◌, drop}
use Rattle.drv_forms.proofs.json_form.put_jobs.Given as goal

abbrev pub invariant-loop-job : goal.invariant-loop-job
invariant-loop-job l = l.out ++ items_tokens (items_json job_json (drop l.job-index l.jobs)) ≡ l.fn.out ++ begin_array
    ∷ items_tokens (items_json job_json l.jobs)
