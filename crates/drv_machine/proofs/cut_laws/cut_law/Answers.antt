use Rattle.drv_machine.proofs.CutFailures.{failures_are}
use Rattle.drv_machine.proofs.CutOpen.{open_are}
use Rattle.drv_machine.proofs.CutRuns.{each_found, output_is, removed_are}
use Rattle.drv_machine.proofs.cut_laws.cut_law.Goals as goal
use Rattle.drv_machine.specs.Cuts.{Failure, File}

-- Names: `failures_are`: the failure files of a whole list that is cut. `output_is`: the output of a list that is cut is that of the
-- definition.

-- each clause is a lemma: CutRuns, CutFailures and CutOpen
pub returns : goal.returns
returns c = record {
  output = output_is;
  removed = removed_are;
  failures = failures_are;
  found = each_found;
  inside = λ F C atoms cut n. open_are F C atoms cut Failure n;
  outer = λ F C atoms cut n. open_are F C atoms cut File n;
}
