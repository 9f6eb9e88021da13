use Rattle.drv_words.proofs.Shown.{shown_text}
use Rattle.drv_words.specs.Lines.{lines_of}
use Rattle.std.proofs.lemmas.Result.{IfOk-weaker}
use Rattle.drv_words.proofs.printing.render_plan.Goals as goal

-- the text shows the lines of the plan, since it is their printed form
pub returns-clause-shows : goal.returns-clause-shows
returns-clause-shows c = IfOk-weaker _ _ _ (λ text is. shown_text text (lines_of c.args.plan.now) is) c.plan_text.ensures
