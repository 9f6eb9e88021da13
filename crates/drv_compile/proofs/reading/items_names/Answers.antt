use Rattle.drv_compile.proofs.Names.{items_read}
use Rattle.drv_compile.proofs.reading.items_names.Goals as goal
use Rattle.drv_system.proofs.AskedCalls.{asked_further, extends_before}
use Rattle.std.proofs.Common.{◌∙◌, refl}

-- Names: `items_read`: those of items of the driver's line. `asked_further`: calls that only asked, one after another.

pub returns-clause-asks : goal.returns-clause-asks
returns-clause-asks g c = asked_further (record { asks = c.new.ensures.asks; same_sys = refl; same_facts = refl })
    c.files_names.ensures.asks

-- the names are those of the files of -specs=, searched for in the folders of -B
pub returns-clause-names : goal.returns-clause-names
returns-clause-names g c F e =
    items_read F c.args.items.now c.as_slice.result.now c.as_slice-2.result.now c.in_ok-prefixes.prefixes c.files_names.result
    (c.as_slice.ensures ∙ c.in_ok-folders.ensures) (c.as_slice-2.ensures ∙ c.in_ok-files.ensures)
    (c.in_ok-prefixes.ensures.prefixes F (extends_before c.files_names.ensures.asks e)) (c.files_names.ensures.names F e)
