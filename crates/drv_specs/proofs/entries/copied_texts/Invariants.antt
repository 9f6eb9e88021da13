use Rattle.std.proofs.Common.{◌≡◌, ◌++◌, drop}
use Rattle.drv_specs.proofs.entries.copied_texts.Given as goal

-- the copies so far, with the texts that are left, are all
abbrev pub invariant-loop-text : goal.invariant-loop-text
invariant-loop-text l = l.copies.items ++ drop l.text-index l.texts ≡ l.texts
