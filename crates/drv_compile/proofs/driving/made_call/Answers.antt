use Rattle.drv_compile.proofs.DriverCalls.{made_driver}
use Rattle.drv_compile.proofs.driving.made_call.Goals as goal
use Rattle.std.proofs.Common.{refl}
use Rattle.std.specs.Option.{option_copied}

-- Names: `made_driver`: `made_call` calls the driver with the items and the suffix.

pub returns-in_ok-all-in-Made : goal.returns-in_ok-all-in-Made
returns-in_ok-all-in-Made c =
    made_driver c.args.path (option_copied c.args.rows) c.args.given.now c.args.made c.in-Made.items _ _ c.in-Made.children _
    c.in-Made.is c.in_ok-suffixed-in-Made.ensures c.in_ok-all-in-Made.ensures refl
