use Rattle.gdrv_specs.proofs.Told.{tells_nothing}
use Rattle.gdrv_specs.proofs.planning.tell_plan.Goals as goal
use Rattle.gdrv_specs.specs.Plans.{TellsOf}

-- memory lacks for the words of the line: nothing was asked
pub returns-in-Err : goal.returns-in-Err
returns-in-Err g c = record {
  driver = λ is.
      tells_nothing (TellsOf c.args.form) (g.S.System.events c.args.sys.now) c.args.command.now.words c.args.command.now.seed;
}
