use Rattle.drv_syntax.proofs.Messages.{run_whole}
use Rattle.drv_syntax.proofs.descent.reading.says.Goals as goal

-- the run that is counted has all bytes
pub returns : goal.returns
returns c h = run_whole _ c.args.more.now c.run_length.result c.run_length.ensures.run h
