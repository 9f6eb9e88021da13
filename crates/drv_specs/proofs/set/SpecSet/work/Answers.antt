use Rattle.drv_specs.proofs.Keeping.{alone_keeps, same_alone, settled_keeps}
use Rattle.drv_specs.proofs.set.SpecSet.work.Goals as goal
use Rattle.drv_system.proofs.Asking.{extends_refl}
use Rattle.drv_system.specs.Facts.{no_facts}

-- Names: `settled_keeps`: a settled text that was carried out keeps the invariant. `alone_keeps`: the same of one without a copy.
-- `same_alone`: a set that wasn't changed keeps it. `extends_refl`: facts keep their own answers.

-- the set keeps what holds of every set, where the directive is carried out on it
pub invariant_of-self : goal.invariant_of-self
invariant_of-self g c =
    alone_keeps no_facts c.args.prefixes.now c.self.inside.entries c.change_alone.new.self c.args.files c.args.text.now c.requires
    c.self.invariant c.in-Some.done (c.in-Some.ensures.changes no_facts c.args.prefixes.now c.args.files) c.in-Some.ensures.kept

-- and where a copy takes its place
pub invariant_of-self-2 : goal.invariant_of-self-2
invariant_of-self-2 g c =
    settled_keeps c.draft_of.new.outside.facts.now c.args.prefixes.now c.change_alone.new.self c.in_ok-draft.draft c.args.files
    c.args.text.now c.requires
    (same_alone c.change_alone.result c.self.inside.entries c.change_alone.new.self c.in_default.not-Some c.change_alone.ensures.none
    c.self.invariant)
    (c.in_ok-draft.ensures.works c.draft_of.new.outside.facts.now (extends_refl c.draft_of.new.outside.facts.now))
