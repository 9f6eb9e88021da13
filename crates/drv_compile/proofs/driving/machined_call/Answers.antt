use Rattle.drv_compile.proofs.DriverCalls.{machined_as}
use Rattle.drv_compile.proofs.driving.machined_call.Goals as goal
use Rattle.std.specs.Option.{option_copied}

-- Names: `machined_as`: `machined_call` takes the rows only of a text that has some.

-- Who carries the line out is known by the row of its machine; the host was asked for that row at most.
pub returns : goal.returns
returns g c =
    machined_as c.args.line.now.chain c.args.path c.as_bytes-about.result.now c.args.call c.args.line.now.given
    (option_copied c.for_machines-rows.result) _ c.in_ok-row.row c.in_ok-children.children c.in_ok-made.made _ _ c.made_call.result
    c.as_bytes-about.ensures c.for_machines-rows.ensures.rows c.for_machines-rows.ensures.suffix
    c.as_slice.ensures c.in_ok-row.ensures c.in_ok-children.ensures c.in_ok-made.ensures c.made_call.ensures
