use Rattle.drv_run.proofs.wording.push_funcs_text.Goals as goal

pub returns-in-WrongCount : goal.returns-in-WrongCount
returns-in-WrongCount c = rw (c.in-WrongCount.is, ← c.name.ensures) c.push_both.ensures

pub returns-in-BadVersion : goal.returns-in-BadVersion
returns-in-BadVersion c = rw c.in-BadVersion.is c.push_around-in-BadVersion.ensures

pub returns-in-NotInLink : goal.returns-in-NotInLink
returns-in-NotInLink c = rw (c.in-NotInLink.is, ← c.name-in-NotInLink.ensures) c.push_both-in-NotInLink.ensures

pub returns-in-BadOperator : goal.returns-in-BadOperator
returns-in-BadOperator c = rw c.in-BadOperator.is c.push_around-in-BadOperator.ensures
