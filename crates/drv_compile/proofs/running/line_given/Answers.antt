use Rattle.drv_args.specs.Lines.{line_judged}
use Rattle.drv_args.specs.declared.fault.ArgsFault.TheVariants as args_fault
use Rattle.drv_compile.proofs.running.line_given.Goals as goal
use Rattle.drv_words.specs.Gives.{Gives}
use Rattle.std.proofs.Common.{subst}

-- Names: `line_judged`: the line of items, or its refusal.

pub returns : goal.returns
returns c = record {
  line = subst (λ items. Gives args_fault.Memory (λ line. line) c.line_of.result
      (line_judged c.args.given.now.from_file items)) c.as_slice.ensures c.line_of.ensures.line;
}
