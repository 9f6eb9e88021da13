use Rattle.drv_specs.proofs.Reloads.{dump_doubles}
use Rattle.drv_specs.proofs.set.SpecSet.reloads_over_itself.Goals as goal
use Rattle.drv_specs.specs.Dumping.{Plain, doubled, dumped}
use Rattle.drv_specs.specs.Loading.{loaded}
use Rattle.drv_specs.specs.Sets.{Set}
use Rattle.drv_system.specs.Known.{Is}
use Rattle.std.proofs.Common.{◌≡◌, Ok, subst, sym}

-- Names: `F`: what is known of the outside. `plain`: the clause's condition `Plain`. `dump_doubles`: a dump loaded over the set adds its
-- pairs once more. `dumped`: the named texts of a set, then its pairs.

pub returns : goal.returns
returns c plain F prefixes =
    subst (λ (set : Set). loaded F prefixes set (dumped set) ≡ Is (Ok (doubled set))) c.self.view_is
    (dump_doubles F prefixes c.self.inside.entries c.self.invariant (subst Plain (sym c.self.view_is) plain))
