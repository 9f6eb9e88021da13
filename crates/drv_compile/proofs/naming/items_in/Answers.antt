use Rattle.drv_compile.proofs.Names.{whole_named}
use Rattle.drv_compile.proofs.naming.items_in.Goals as goal
use Rattle.std.proofs.Common.{ap}
use Rattle.std.specs.Option.{option_copied}

-- Names: `is`: the clause's equation. `whole_named`: `items_in` reads the words again by the names in a whole file.

pub returns-in_ok-with_names-in-Some : goal.returns-in_ok-with_names-in-Some
returns-in_ok-with_names-in-Some c words is =
    whole_named words c.args.answer.now _ _ _ _ _ c.in-Read.is c.as_bytes.ensures c.whole_lines.ensures (ap option_copied c.in-Some.is)
    (c.in_ok-with_names-in-Some.ensures words is)
