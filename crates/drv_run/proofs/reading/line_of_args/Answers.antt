use Rattle.drv_run.proofs.LinesRead.{args_unread, ends_unread, line_stops, words_unread}
use Rattle.drv_run.proofs.Steps.{reading_ends, words_end}
use Rattle.drv_run.proofs.reading.line_of_args.Goals as goal
use Rattle.drv_run.specs.Drives.{stopped_by_args}
use Rattle.drv_system.proofs.Asking.{extends_refl}
use Rattle.std.proofs.Common.{Err, refl}

-- Names: `F`: what is known of the outside. `e`: that `F` extends the facts of this call. `stopped_by_args`: how a step's fault ends the
-- call. `ends_unread`: a call that ends so without a line. `line_stops`: a call that ends without a line ends so whatever its seed.

-- arguments that give no words end the call so, whatever the seed
pub returns-in_err-words-clause-comes : goal.returns-in_err-words-clause-comes
returns-in_err-words-clause-comes g c F e =
    line_stops F c.args.args c.in_err-words.field-0.0 c.from_residual.result c.from_residual.ensures.1
    (λ seed. words_end F c.args.args seed c.in_err-words.field-0.0 (Err c.in_err-words.field-0.0) refl (c.in_err-words.ensures.gives F e))

-- words that give no line end the call so, whatever the seed
pub returns-in_err-line-clause-comes : goal.returns-in_err-line-clause-comes
returns-in_err-line-clause-comes g c F e =
    line_stops F c.args.args (stopped_by_args c.in_err-line.field-0.0) c.from_residual-in_err-line.result
    c.from_residual-in_err-line.ensures.1
    (λ seed. reading_ends F c.args.args seed c.in_ok-words.words c.in_err-line.field-0.0
    (Err (stopped_by_args c.in_err-line.field-0.0)) refl
    (c.in_ok-words.ensures.gives F e) c.in_err-line.ensures.line)

-- the line is that of the words that the arguments give
pub returns-clause-comes : goal.returns-clause-comes
returns-clause-comes g c F e = (c.in_ok-words.words, c.in_ok-words.ensures.gives F e, c.in_ok-line.ensures.line)

-- a call that ends so has no line
pub returns-in_err-words-clause-unread : goal.returns-in_err-words-clause-unread
returns-in_err-words-clause-unread g c =
    ends_unread c.in_err-words.field-0.0 c.from_residual.result c.from_residual.ensures.1
    (words_unread c.words_of.new.outside.facts.now c.args.args c.in_err-words.field-0.0
    (c.in_err-words.ensures.gives c.words_of.new.outside.facts.now (extends_refl c.words_of.new.outside.facts.now)))

-- nor has one whose words give no line
pub returns-in_err-line-clause-unread : goal.returns-in_err-line-clause-unread
returns-in_err-line-clause-unread g c =
    ends_unread (stopped_by_args c.in_err-line.field-0.0) c.from_residual-in_err-line.result c.from_residual-in_err-line.ensures.1
    (args_unread c.in_err-line.field-0.0)
