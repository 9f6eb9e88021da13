use Rattle.drv_specs.specs.Dumping.{named_text}
use Rattle.drv_specs.specs.Code.Keyed.{texts_left}
use Rattle.std.proofs.Common.{◌≡◌, ◌++◌, flat_map}
use Rattle.drv_specs.proofs.dumping.push_texts.Given as goal

-- the dump so far, with the texts that are left, is that before and all texts
abbrev pub invariant-loop-name : goal.invariant-loop-name
invariant-loop-name l = l.dump ++ flat_map named_text (texts_left l.name-iterator) ≡ l.fn.dump
    ++ flat_map named_text (texts_left l.named.entries)
