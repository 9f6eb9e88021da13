use Rattle.drv_compile.proofs.Settled.{names_known}
use Rattle.drv_compile.proofs.temp_folder.folder_names.Goals as goal

pub returns-clause-names : goal.returns-clause-names
returns-clause-names g c F e = names_known F c.new-names.result c.push_names.new.names c.new-names.ensures
    (c.in_ok-push_names.ensures.names F e)
