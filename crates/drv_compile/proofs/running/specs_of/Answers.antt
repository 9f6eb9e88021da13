use Rattle.drv_compile.proofs.running.specs_of.Goals as goal
use Rattle.drv_compile.proofs.Ran.{suffixes_given}
use Rattle.std.proofs.Common.{refl}

-- Names: `F`: what is known of the outside. `e`: that `F` extends the facts of this call. `known`: the clause's equation.

pub returns-clause-loads : goal.returns-clause-loads
returns-clause-loads g c F e known = suffixes_given F c.args.settings.now c.in_ok-set.set c.load_along.result c.in_ok-set.ensures
    (c.load_along.ensures.loads F e known)

pub returns-clause-asks : goal.returns-clause-asks
returns-clause-asks g c = record { asks = c.load_along.ensures.asks; same_sys = refl; same_facts = refl }
