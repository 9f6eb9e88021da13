use Rattle.drv_plan.proofs.Steps.{lent_is, link_done, link_refused, link_tried, refusal_given, refused_alike}
use Rattle.drv_plan.proofs.planning.link_of.Goals as goal
use Rattle.drv_plan.specs.Denoted.{with_link, with_text}
use Rattle.std.proofs.Common.{Some, refl, ◌∙◌}

-- Names: `F`: what is known of the outside. `e`: that `F` extends the facts of this call. `link_tried`: with an output the text of the link
-- is looked up. `lent_is`: a borrowed item that is there shows a value.

-- the link's text is refused
pub returns-in_err-work_link-in-Some-clause-works : goal.returns-in_err-work_link-in-Some-clause-works
returns-in_err-work_link-in-Some-clause-works g c F e =
    refusal_given c.in_err-work_link-in-Some.field-0.0 c.from_residual.result _ (with_link F c.args.set.now c.args.progress.now)
    c.from_residual.ensures.1
    (refused_alike c.in_err-work_link-in-Some.field-0.0 (with_text F (Some c.in-Some.text.now) c.args.progress.now)
    (with_link F c.args.set.now c.args.progress.now)
    (link_tried F c.args.set.now c.args.progress.now c.as_slice.result.now c.is_empty_link.result _
    (Some c.in-Some.text.now) c.as_slice.ensures c.is_empty_link.ensures c.if-is_empty_link.false refl
    (lent_is _ c.tree.result c.in-Some.text _ c.tree.ensures c.in-Some.is))
    (link_refused F c.in-Some.text.now c.args.progress.now c.in_err-work_link-in-Some.field-0.0
    (c.in_err-work_link-in-Some.ensures.works F e)))

-- there are outputs and a text for the link, which is processed
pub returns-in_ok-work_link-in-Some-clause-works : goal.returns-in_ok-work_link-in-Some-clause-works
returns-in_ok-work_link-in-Some-clause-works g c F e =
    link_tried F c.args.set.now c.args.progress.now c.as_slice.result.now c.is_empty_link.result _
    (Some c.in-Some.text.now) c.as_slice.ensures c.is_empty_link.ensures c.if-is_empty_link.false refl
    (lent_is _ c.tree.result c.in-Some.text _ c.tree.ensures c.in-Some.is)
    ∙ link_done F c.in-Some.text.now c.args.progress.now c.work_link.new.self c.in_ok-work_link-in-Some.field-0 c.with_command.result
    (c.in_ok-work_link-in-Some.ensures.works F e) c.with_command.ensures
