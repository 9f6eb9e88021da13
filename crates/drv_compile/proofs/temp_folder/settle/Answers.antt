use Rattle.drv_compile.proofs.Settled.{begun, nothing_begun, table_settled}
use Rattle.drv_compile.proofs.temp_folder.settle.Goals as goal
use Rattle.std.proofs.Common.{rules}

-- Names: `begun`: `settle` ends before it has a folder. `nothing_begun`: `settle` ends before its first question. `table_settled`: `settle`
-- puts the folder into the table by its own word for TMPDIR.

pub returns-in_err-name-clause-asks : goal.returns-in_err-name-clause-asks
returns-in_err-name-clause-asks g c = nothing_begun _ _

pub returns-in_err-folder-clause-asks : goal.returns-in_err-folder-clause-asks
returns-in_err-folder-clause-asks g c = let asks = c.folder_asked.ensures.asks.asks in
    begun c.requires (search rules) c.folder_asked.ensures.tries

pub returns-clause-asks : goal.returns-clause-asks
returns-clause-asks g c = let asks = c.folder_asked.ensures.asks.asks in begun c.requires (search rules) c.folder_asked.ensures.tries

-- the table has the folder that was chosen as the value of TMPDIR
pub returns-clause-settles : goal.returns-clause-settles
returns-clause-settles g c =
    let asks = c.folder_asked.ensures.asks.asks in
    table_settled _ _ c.put_variable.result c.in_ok-folder.folder c.in_ok-name.name _ _ c.in_ok-name.ensures (search rules) c.requires
    (search rules)
    c.in_ok-folder.ensures.folder c.put_variable.ensures.ok
