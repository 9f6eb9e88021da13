use Rattle.drv_forms.specs.PlanJson.{plan_json}
use Rattle.drv_forms.specs.Script.{script}
use Rattle.drv_words.specs.Bytes.{newline}
use Rattle.drv_words.specs.Lines.{lines_of}
use Rattle.drv_words.specs.Printed.{lines_text}
use Rattle.drv_words.specs.declared.plan.Plan.{Plan}
use Rattle.gdrv_specs.specs.declared.forms.Form.TheVariants.{Json, Lines, Script}
use Rattle.gdrv_specs.specs.declared.forms.Form.{Form}
use Rattle.json.specs.Layout.{pretty}
use Rattle.json.specs.Tree.{json_tokens}
use Rattle.std.specs.Prelude.{List, [], ◌∷◌, ◌++◌, ℕ}

-- A plan in each of its forms: as -### prints it, as JSON with a newline at its end, or as a script of the shell.
-- For clauses of src/forms.rt and src/planning.rt. A new form is also an option of src/options.rt.
abbrev pub form_text : Form → Plan → List ℕ
form_text Lines plan = lines_text (lines_of plan)
form_text Json plan = pretty (json_tokens (plan_json plan)) ++ newline ∷ []
form_text Script plan = script plan
