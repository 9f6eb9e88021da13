use Rattle.drv_run.proofs.wording.push_specs_text.Goals as goal

pub returns-in-TrailingBackslash : goal.returns-in-TrailingBackslash
returns-in-TrailingBackslash c = rw c.in-TrailingBackslash.is c.push_around-in-TrailingBackslash.ensures

pub returns-in-TooManyIncludes : goal.returns-in-TooManyIncludes
returns-in-TooManyIncludes c = rw c.in-TooManyIncludes.is c.extend_from_slice-in-TooManyIncludes.ensures.ok

pub returns-in-BadLine : goal.returns-in-BadLine
returns-in-BadLine c = rw c.in-BadLine.is c.push_numbered.ensures
