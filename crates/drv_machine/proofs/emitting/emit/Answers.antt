use Rattle.drv_machine.proofs.EmitSteps.{all_in_line, emitted_found}
use Rattle.drv_machine.proofs.emitting.emit.Goals as goal
use Rattle.drv_machine.specs.Code.ByKind.{put_at}
use Rattle.drv_machine.specs.Code.Running.{Machine, reached, run}
use Rattle.drv_machine.specs.Working.{puts}
use Rattle.drv_machine.specs.declared.fault.MachineFault.TheVariants.{Memory}
use Rattle.drv_system.specs.Gives.{GivesKnown}
use Rattle.std.proofs.Common.{ap, subst, ◌∙◌}

-- Names: `n`: how many items were reached. `F`: what is known of the outside. `e`: that `F` extends the facts of this call. `s`: the
-- clause's condition `Stands`. `reached n s`: the machine s where n items were reached. `all_in_line`: the places that the look-up found
-- are places of the line.

-- the switches that are hit are on the line
pub words_at-requires : goal.words_at-requires
words_at-requires g c = all_in_line c.args.context.now c.switches.result.now c.in_ok-places.places c.as_slice-places.result.now
    c.in_ok-places.ensures.within c.as_slice-places.ensures c.switches.ensures

-- the switches that are put are on the line
pub put_switches-requires : goal.put_switches-requires
put_switches-requires g c = all_in_line c.args.context.now c.switches.result.now c.in_ok-places.places c.as_slice-places.result.now
    c.in_ok-places.ensures.within c.as_slice-places.ensures c.switches.ensures

-- the switches that the patterns hit are put, in the order of the line
pub returns-clause-does : goal.returns-clause-does
returns-clause-does g c n F e patterns s =
    let same =
    emitted_found F c.args.context.now patterns c.args.machine.now.world.hidden c.hidden-hidden.result.now c.switches.result.now
    c.as_slice.result.now c.in_ok-places.places c.as_slice-places.result.now
    c.as_slice-places.ensures c.in_ok-places.ensures.places c.switches.ensures c.hidden-hidden.ensures
    (c.as_slice.ensures ∙ c.in_ok-patterns.ensures patterns s) in
    subst (λ given. GivesKnown Memory (λ u. (tt, (reached n c.put_switches.new.machine))) c.put_switches.result given)
    (ap (λ (m : Machine). run F c.args.context.now (reached n m) (puts (put_at F c.args.context.now c.as_slice-places.result.now)))
    c.make_room.ensures
    ∙ ap (λ list. run F c.args.context.now (reached n c.args.machine.now) (puts list)) same) (c.put_switches.ensures.does n F e)
