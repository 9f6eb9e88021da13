use Rattle.drv_plan.proofs.Steps.{file_chosen, given_alike, language_refused, refusal_given}
use Rattle.drv_plan.proofs.sources.add_input.Goals as goal
use Rattle.drv_plan.specs.Denoted.{with_file, with_input}
use Rattle.std.proofs.Common.{Ok}

-- Names: `F`: what is known of the outside. `e`: that `F` extends the facts of this call. `with_input`: the progress after one more input.
-- `file_chosen`: a file is processed by the language that was found for it. `given_alike`: an answer to one definition is an answer to an
-- equal one.

-- a file for which no language is found is refused
pub returns-in_err-chosen-in-File-clause-works : goal.returns-in_err-chosen-in-File-clause-works
returns-in_err-chosen-in-File-clause-works g c F e =
    refusal_given c.in_err-chosen-in-File.field-0.0 c.from_residual.result _ (with_input F c.args.set.now c.args.input.place
    c.args.input.of.now
    c.args.progress.now) c.from_residual.ensures.1
    (language_refused F c.args.set.now c.args.input.place c.args.input.of.now c.args.progress.now c.in_err-chosen-in-File.field-0.0
    c.in_err-chosen-in-File.ensures)

-- a file, with what was chosen for it
pub returns-in_ok-chosen-in-File-clause-works : goal.returns-in_ok-chosen-in-File-clause-works
returns-in_ok-chosen-in-File-clause-works g c F e =
    given_alike _ c.add_file.result (with_file F c.args.input.place c.in-File.name (Ok c.in_ok-chosen-in-File.chosen) c.args.progress.now)
    (with_input F c.args.set.now c.args.input.place c.args.input.of.now c.args.progress.now)
    (file_chosen F c.args.set.now c.args.input.place c.args.input.of.now _ _ c.in_ok-chosen-in-File.chosen c.args.progress.now c.in-File.is
    c.in_ok-chosen-in-File.ensures)
    (c.add_file.ensures.works F e)
