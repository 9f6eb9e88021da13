use Rattle.drv_compile.proofs.Leading.{place_declined, specs_declined}
use Rattle.drv_compile.proofs.tasks.without_specs.Goals as goal
use Rattle.std.proofs.Common.{rules}

-- Names: `place_declined`: `without_specs` says that the place of the spec file isn't known. `specs_declined`: `without_specs` names the
-- file that should be there.

pub returns-in-Some : goal.returns-in-Some
returns-in-Some c =
    specs_declined c.args.calling.now c.args.path.now _ _ c.no_specs_text.result c.in-Some.is (search rules) c.no_specs_text.ensures

pub returns-in-None : goal.returns-in-None
returns-in-None c = place_declined c.args.calling.now c.args.path.now _ c.no_place_text.result (search rules)
    (search rules) c.no_place_text.ensures
