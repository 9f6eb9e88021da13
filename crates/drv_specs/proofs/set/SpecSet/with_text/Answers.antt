use Rattle.drv_specs.proofs.Keeping.{settled_keeps}
use Rattle.drv_specs.proofs.set.SpecSet.with_text.Goals as goal
use Rattle.drv_system.proofs.Asking.{extends_refl}

-- Names: `settled_keeps`: a settled text that was carried out keeps the invariant. `extends_refl`: facts keep their own answers.

-- the set keeps what holds of every set
pub invariant_of-result : goal.invariant_of-result
invariant_of-result g c =
    settled_keeps c.worked_entries.new.outside.facts.now c.args.prefixes.now c.into_entries-entries.result c.in_ok-entries.entries
    c.args.files c.args.text.now
    c.requires c.into_entries-entries.ensures.kept (c.in_ok-entries.ensures.works c.worked_entries.new.outside.facts.now
    (extends_refl c.worked_entries.new.outside.facts.now))
