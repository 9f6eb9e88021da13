use Rattle.drv_compile.proofs.Settled.{name_pushed}
use Rattle.drv_compile.proofs.temp_folder.push_variable.Goals as goal

-- Names: `name_pushed`: `push_variable` adds the value of a variable, if it is set.

pub returns-clause-names : goal.returns-clause-names
returns-clause-names g c F e =
    name_pushed F c.args.variable_name.now c.in_ok-value.value c.args.names.now c.push_if_set.new.names c.push_if_set.result
    (c.in_ok-value.ensures.value F e) c.push_if_set.ensures
