use Rattle.drv_compile.proofs.Decided.{named_by_variable}
use Rattle.drv_compile.proofs.finding.file_of_variable.Goals as goal
use Rattle.std.specs.Option.{option_copied}

-- Names: `named_by_variable`: `file_of_variable` asks for the variable by a word that it makes of its name.

pub returns-clause-path : goal.returns-clause-path
returns-clause-path g c F e =
    named_by_variable F c.in_ok-name.name (option_copied c.variable_answer.result) c.given_by.result c.in_ok-name.ensures
    (e.variables c.in_ok-name.name (option_copied c.variable_answer.result) c.variable_answer.ensures) c.given_by.ensures
