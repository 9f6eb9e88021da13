use Rattle.drv_specs.proofs.Reloads.{dump_given}
use Rattle.drv_specs.proofs.set.SpecSet.dump.Goals as goal
use Rattle.drv_specs.specs.Dumping.{Plain}
use Rattle.drv_specs.specs.Loading.{loaded}
use Rattle.drv_specs.specs.Sets.{Set, no_specs}
use Rattle.drv_system.specs.Known.{Is}
use Rattle.std.proofs.Common.{◌≡◌, IfOk, Ok, subst, sym}

-- Names: `F`: what is known of the outside. `plain`: the clause's condition `Plain`. `dump_given`: the text that a dump gives, loaded into
-- the empty set, gives the set. `loaded`: a text loaded, and a file.

pub returns-clause-reloads : goal.returns-clause-reloads
returns-clause-reloads c plain F prefixes =
    subst (λ (set : Set). IfOk c.dump_of.result (λ text. loaded F prefixes no_specs text ≡ Is (Ok set))) c.self.view_is
    (dump_given c.dump_of.result c.self.inside.entries c.dump_of.ensures c.self.invariant
    (subst Plain (sym c.self.view_is) plain) F prefixes)
