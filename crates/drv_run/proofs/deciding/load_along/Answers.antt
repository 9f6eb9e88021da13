use Rattle.drv_run.proofs.Files.{specs_loaded}
use Rattle.drv_run.proofs.deciding.load_along.Goals as goal
use Rattle.drv_system.specs.Asking.{Extends}
use Rattle.std.proofs.Common.{refl, rules}

-- Names: `F`: what is known of the outside. `e`: that `F` extends the facts of this call. `known`: the clause's equation. `specs_loaded`:
-- the specs of a line are what its files make of a set.

-- the files of -specs= are known, so the specs are what these make of the set
pub returns-clause-loads : goal.returns-clause-loads
returns-clause-loads g c F e known =
    let extends : Extends c.load_files.new.outside.facts.now F = search rules in
    specs_loaded F c.args.settings.now _ c.as_slice.result.now c.args.prefixes.now c.args.set c.load_files.result refl c.as_slice.ensures
    known (c.load_files.ensures.loads F extends)

pub returns-clause-asks : goal.returns-clause-asks
returns-clause-asks g c = let asks = c.load_files.ensures.asks.asks in search rules
