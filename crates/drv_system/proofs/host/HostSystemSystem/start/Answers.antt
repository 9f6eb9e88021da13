use Rattle.drv_system.proofs.Holding.{holds_is_new, holds_started, holds_step}
use Rattle.drv_words.specs.declared.answers.StartAnswer.TheVariants as start
use Rattle.std.proofs.Common.{◌≡◌, ◌∙◌, ap, refl, sym}
use Rattle.drv_system.proofs.host.HostSystemSystem.start.Goals as goal
use Rattle.drv_system.proofs.host.HostSystemSystem.start.Goals.{else-to_pipe, then-to_pipe}
use Rattle.drv_system.specs.Code.Output.{is_pipe}

-- Names: `is_pipe`: whether a command writes into a pipe. `holds_step`: what holds, still holds after a step that starts no child.
-- `holds_started`: what holds, still holds after a start.

-- the numbers of children stay below the count, and the end of a pipe is kept exactly while one is pending
pub invariant_of-self : goal.invariant_of-self
invariant_of-self c = holds_step _ _ c.self.invariant c.push_reserved.ensures.items refl tt refl

-- a pipe is pending if the child writes one, and the child has the next number
pub invariant_of-self-in-Ok : goal.invariant_of-self-in-Ok
invariant_of-self-in-Ok c =
    let out : is_pipe c.if-to_pipe.output ≡ c.args.to_pipe =
    elim c.if-to_pipe.branch [
      | then-to_pipe w ↦ ap is_pipe w.output-is
          ∙ sym w.if-to_pipe.true
      | else-to_pipe w ↦ ap is_pipe w.output-is ∙ sym w.if-to_pipe.false
    ] in
    holds_started _ c.self.invariant c.push_reserved-in-Ok-2.ensures.items c.push_reserved-in-Ok.ensures.len c.len.ensures
    (c.in-Ok.ensures ∙ out)

-- the same where the command was not started
pub invariant_of-self-in-Err : goal.invariant_of-self-in-Err
invariant_of-self-in-Err c = holds_step _ _ c.self.invariant c.push_reserved-in-Err.ensures.items refl tt refl

-- the number of the child is new: no event has it
pub returns-in-Ok-clause-fresh : goal.returns-in-Ok-clause-fresh
returns-in-Ok-clause-fresh c = rw (← c.self.view_is) (holds_is_new c.self.invariant (ap start.Started c.len.ensures))
