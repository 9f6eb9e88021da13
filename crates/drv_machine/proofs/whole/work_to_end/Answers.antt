use Rattle.drv_machine.proofs.Laws.{outcome_runs}
use Rattle.drv_machine.proofs.whole.work_to_end.Goals as goal
use Rattle.drv_machine.specs.Atoms.{whole_text}
use Rattle.drv_machine.specs.Outcome.{finished}
use Rattle.drv_machine.specs.Code.Running.{Machine, reached, run}
use Rattle.drv_machine.specs.Working.{◌>>-◌}
use Rattle.drv_machine.specs.declared.fault.MachineFault.TheVariants.{Memory}
use Rattle.drv_syntax.specs.Parsed.{tree_of}
use Rattle.drv_system.specs.Gives.{GivesKnown}
use Rattle.std.proofs.Common.{ap, subst, sym, ◌∙◌}

-- Names: `F`: what is known of the outside. `e`: that `F` extends the facts of this call. `tree_of`: the tree of a text. `outcome_runs`:
-- the definition's outcome of a whole text is what the code's streaming gives.

-- a new machine is the state before the first item, so what `finish` gives is the outcome of the text
pub returns-clause-does : goal.returns-clause-does
returns-clause-does g c F e =
    subst (λ given. GivesKnown Memory (λ o. o) c.finish.result given)
    (ap (λ (s : Machine). run F c.args.context.now (reached 0 s) (whole_text F c.args.context.now (tree_of c.args.text.now))
    >>- λ r. finished F c.args.context.now r.1.world r.1.cut) (c.in_ok-machine.ensures F)
    ∙ sym (outcome_runs F c.args.context.now (tree_of c.args.text.now))) (c.finish.ensures.does F e)
