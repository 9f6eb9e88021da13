use Rattle.drv_compile.proofs.Settled.{folder_chosen, folder_tried, nothing_tried}
use Rattle.drv_compile.proofs.temp_folder.folder_asked.Goals as goal

-- Names: `folder_chosen`: `folder_asked` chooses among the names that it asked for. `folder_tried`: `folder_asked` tried some of the
-- folders where memory lacked.

pub returns-in_err-names-clause-tries : goal.returns-in_err-names-clause-tries
returns-in_err-names-clause-tries g c = nothing_tried _ _

pub returns-clause-folder : goal.returns-clause-folder
returns-clause-folder g c =
    folder_chosen _ c.in_ok-names.names c.as_slice.result.now _ _ c.first_usable.result c.as_slice.ensures c.in_ok-names.ensures.names
    c.first_usable.ensures.chooses

pub returns-clause-tries : goal.returns-clause-tries
returns-clause-tries g c = folder_tried _ c.in_ok-names.names c.as_slice.result.now _ _ c.as_slice.ensures c.in_ok-names.ensures.names
    c.first_usable.ensures.tries
