use Rattle.drv_compile.proofs.Worded.{front_stops}
use Rattle.drv_compile.proofs.expanding.words_of_front.Goals as goal
use Rattle.drv_compile.specs.Words.{words_of_front}
use Rattle.drv_run.specs.declared.ending.Ending.TheVariants.{OutOfMemory}
use Rattle.drv_words.specs.Gives.{Gives}
use Rattle.std.proofs.Common.{subst, sym}

-- c99 refuses the words, or lacks memory: the call ends so
pub returns-in_err-words-in-C99 : goal.returns-in_err-words-in-C99
returns-in_err-words-in-C99 c =
    subst (λ f. Gives OutOfMemory (λ w. w) c.from_residual.result (words_of_front f c.args.expanded)) (sym c.in-C99.is)
    (front_stops c.args.expanded c.as_slice.result.now c.in_err-words-in-C99.field-0.0 c.from_residual.result c.as_slice.ensures
    c.from_residual.ensures.1 c.in_err-words-in-C99.ensures)
