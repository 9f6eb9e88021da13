use Rattle.drv_args.proofs.Verdicts.{line_judged, line_refused, none_is_judged, refused_line}
use Rattle.drv_args.proofs.reading.read.Goals as goal
use Rattle.drv_args.specs.Lines.{line_fault}
use Rattle.std.proofs.Common.{Ok, arith, refl}

-- the words are refused
pub returns-in_err-line : goal.returns-in_err-line
returns-in_err-line c = record {
  line = line_refused c.args.expanded.now c.args.expanded.now.words c.in_err-line.field-0.0 c.from_residual.result refl (omega arith)
      c.in_err-line.ensures c.from_residual.ensures.1;
}

-- the line of the words is refused
pub returns-in_err-line_fault : goal.returns-in_err-line_fault
returns-in_err-line_fault c = record {
  line = line_judged c.args.expanded.now c.args.expanded.now.words c.in_ok-line.line c.from_residual-in_err-line_fault.result refl
      (omega arith) c.in_ok-line.ensures
      (refused_line c.in_ok-line.line (line_fault c.in_ok-line.line) c.in_err-line_fault.field-0.0 c.from_residual-in_err-line_fault.result
      c.in_err-line_fault.ensures c.from_residual-in_err-line_fault.ensures.1);
}

pub returns : goal.returns
returns c = record {
  line = line_judged c.args.expanded.now c.args.expanded.now.words c.in_ok-line.line (Ok c.in_ok-line.line) refl (omega arith)
      c.in_ok-line.ensures (none_is_judged c.in_ok-line.line (line_fault c.in_ok-line.line) c.in_ok-line_fault.ensures);
}
