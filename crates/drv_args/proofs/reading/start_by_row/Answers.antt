use Rattle.drv_args.proofs.Beginnings.{fits_whole}
use Rattle.drv_args.proofs.reading.start_by_row.Goals as goal
use Rattle.std.proofs.Common.{◌++◌, ◌∙◌, ap}

-- Names: `fits_whole`: in each form the word is the option and what follows.

pub returns-in-Joined-clause-whole : goal.returns-in-Joined-clause-whole
returns-in-Joined-clause-whole c =
    ap (λ argument. c.args.option.now ++ argument) c.rest_of-argument.ensures ∙ fits_whole c.args.form c.args.option.now
    c.args.word.now c.requires
