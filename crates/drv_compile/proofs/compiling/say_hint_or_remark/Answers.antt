use Rattle.drv_compile.proofs.Done.{after_all, closing_noted}
use Rattle.drv_compile.proofs.compiling.say_hint_or_remark.Goals as goal
use Rattle.drv_compile.proofs.compiling.say_hint_or_remark.Goals.{else-lacks_program, then-lacks_program}
use Rattle.std.proofs.Common.{◌∙◌, ap, sym}
use Rattle.std.specs.Prelude.{false, true}

-- By what was found in the events of the work: the hint, or else the remark, was said.
pub returns-clause-notes : goal.returns-clause-notes
returns-clause-notes g c =
    let finds =
    after_all c.args.prepared.now _ _ c.args.before c.journal.ensures ∙ sym c.lacks_program.ensures
    in elim c.if-lacks_program.branch [
      | then-lacks_program w ↦
          closing_noted _ _ c.args.before c.args.prepared.now true _ c.args.status c.say_after.result (finds ∙ w.if-lacks_program.true)
          (ap (λ b. b.now) w.text-is) c.say_after.ensures.closes
      | else-lacks_program w ↦
          closing_noted _ _ c.args.before c.args.prepared.now false _ c.args.status c.say_after.result (finds ∙ w.if-lacks_program.false)
          (ap (λ b. b.now) w.text-is) c.say_after.ensures.closes
    ]
