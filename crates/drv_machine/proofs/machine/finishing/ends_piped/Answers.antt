use Rattle.drv_machine.proofs.Finished.{ends_piped_last}
use Rattle.drv_machine.proofs.machine.finishing.ends_piped.Goals as goal
use Rattle.std.proofs.Common.{◌∙◌, ap}

-- the last command says whether it ends with a pipe
pub returns-in-len1-up : goal.returns-in-len1-up
returns-in-len1-up c = ap (λ line. line.piped) c.last.view_is
    ∙ ends_piped_last c.args.lines.now c.last-item.result c.in-len1-up.len_at_least c.last-item.is
