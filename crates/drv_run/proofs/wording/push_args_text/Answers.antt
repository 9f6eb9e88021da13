use Rattle.drv_run.proofs.wording.push_args_text.Goals as goal

pub returns-in-Memory : goal.returns-in-Memory
returns-in-Memory c = rw c.in-Memory.is c.extend_from_slice.ensures.ok

pub returns-in-TooManyFiles : goal.returns-in-TooManyFiles
returns-in-TooManyFiles c = rw c.in-TooManyFiles.is c.extend_from_slice-in-TooManyFiles.ensures.ok

pub returns-in-ResponseTooLarge : goal.returns-in-ResponseTooLarge
returns-in-ResponseTooLarge c = rw c.in-ResponseTooLarge.is c.push_around.ensures

pub returns-in-TooManyArguments : goal.returns-in-TooManyArguments
returns-in-TooManyArguments c = rw c.in-TooManyArguments.is c.extend_from_slice-in-TooManyArguments.ensures.ok

pub returns-in-MissingArgument : goal.returns-in-MissingArgument
returns-in-MissingArgument c = rw c.in-MissingArgument.is c.push_around-in-MissingArgument.ensures

pub returns-in-BadJobs : goal.returns-in-BadJobs
returns-in-BadJobs c = rw c.in-BadJobs.is c.push_around-in-BadJobs.ensures

pub returns-in-NoInputs : goal.returns-in-NoInputs
returns-in-NoInputs c = rw c.in-NoInputs.is c.extend_from_slice-in-NoInputs.ensures.ok

pub returns-in-StdinNeedsLanguage : goal.returns-in-StdinNeedsLanguage
returns-in-StdinNeedsLanguage c = rw c.in-StdinNeedsLanguage.is c.extend_from_slice-in-StdinNeedsLanguage.ensures.ok

pub returns-in-OutputWithMany : goal.returns-in-OutputWithMany
returns-in-OutputWithMany c = rw c.in-OutputWithMany.is c.extend_from_slice-in-OutputWithMany.ensures.ok

pub returns-in-OutputIsInput : goal.returns-in-OutputIsInput
returns-in-OutputIsInput c = rw c.in-OutputIsInput.is c.push_around-in-OutputIsInput.ensures
