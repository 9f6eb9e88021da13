use Rattle.drv_compile.proofs.Names.{file_read}
use Rattle.drv_compile.proofs.reading.add_file_names.Goals as goal
use Rattle.drv_system.proofs.Asking.{asks_extends, asks_then, extends_then}
use Rattle.std.proofs.Common.{refl}

-- Names: `file_read`: the names of one file, which was found and read. `asks_extends`: a call that only asked keeps every answer.

pub returns-clause-asks : goal.returns-clause-asks
returns-clause-asks g c = record { asks = asks_then c.find_file.ensures.asks c.read.ensures.asks; same_sys = refl; same_facts = refl }

-- the file was found and read: its names are added
pub returns-clause-names : goal.returns-clause-names
returns-clause-names g c F e =
    file_read F c.args.prefixes.now c.args.file.now c.in_ok-path.path c.read_answer.result.now c.args.named.now c.add_names.new.named
    c.add_names.result
    (c.in_ok-path.ensures.path F (extends_then (asks_extends c.read.ensures.asks) e))
    (e.reads c.in_ok-path.path c.read_answer.result.now c.read_answer.ensures) c.add_names.ensures
