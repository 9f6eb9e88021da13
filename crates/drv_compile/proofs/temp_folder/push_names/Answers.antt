use Rattle.drv_compile.proofs.Settled.{names_pushed}
use Rattle.drv_compile.proofs.temp_folder.push_names.Goals as goal
use Rattle.drv_system.proofs.AskedCalls.{extends_before}

-- Names: `extends_before`: what extends the facts after a call extends those before it. `names_pushed`: `push_names` adds those of three,
-- and then the usual folders.

-- the names are those of three variables, and then of the folders of every system
pub returns-clause-names : goal.returns-clause-names
returns-clause-names g c F e =
    names_pushed F c.args.names.now c.push_variable.new.names c.push_variable-2.new.names c.push_variable-3.new.names
    c.push_folders_of_all.new.names
    c.push_folders_of_all.result
    (c.in_ok-push_variable.ensures.names F (extends_before c.push_variable-2.ensures.asks (extends_before c.push_variable-3.ensures.asks
    e)))
    (c.in_ok-push_variable-2.ensures.names F (extends_before c.push_variable-3.ensures.asks e))
    (c.in_ok-push_variable-3.ensures.names F e) c.push_folders_of_all.ensures
