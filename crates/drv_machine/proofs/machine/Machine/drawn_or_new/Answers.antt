use Rattle.drv_machine.proofs.Draws.{none_drawn, not_found}
use Rattle.drv_machine.proofs.machine.Machine.drawn_or_new.Goals as goal
use Rattle.drv_machine.specs.Code.Running.{Machine, reached}
use Rattle.drv_machine.specs.declared.fault.MachineFault.TheVariants.{Memory}
use Rattle.drv_system.specs.Gives.{GivesKnown}
use Rattle.std.proofs.Common.{ap, subst, ◌∙◌}

-- Names: `n`: how many items were reached. `F`: what is known of the outside. `e`: that `F` extends the facts of this call. `reached n s`:
-- the machine s where n items were reached. `none_drawn`: where no name was drawn so, a new one is.

-- no name was drawn so: a new one is
pub returns-clause-does : goal.returns-clause-does
returns-clause-does g c n F e =
    let none = not_found _ c.last_drawn.result c.args.drawing c.args.suffix.now c.as_slice.result.now c.args.self.now.world.drawn
    c.last_drawn.ensures (c.as_slice.ensures ∙ ap (λ (m : Machine). m.world.drawn) c.self.view_is) c.in_default.is in
    subst (λ given. GivesKnown Memory (λ path. (path, reached n c.draw.new.self)) c.draw.result given)
    (none_drawn F c.args.context.now (reached n c.args.self.now) c.args.drawing c.args.suffix.now none) (c.draw.ensures.does n F e)
