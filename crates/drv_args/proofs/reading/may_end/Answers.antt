use Rattle.drv_args.proofs.LastBytes.{fits_last}
use Rattle.drv_args.proofs.reading.may_end.Goals as goal
use Rattle.std.proofs.Common.{arith}
use Rattle.std.proofs.lemmas.Bool.{eq-eqb}

pub returns-then-option-word : goal.returns-then-option-word
returns-then-option-word c = λ form e. eq-eqb _ _ (fits_last form c.args.option.now c.args.word.now 0
    (omega (arith, c.in-len1-up.len_at_least)) e).1
