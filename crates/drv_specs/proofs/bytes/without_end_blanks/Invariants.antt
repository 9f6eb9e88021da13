use Rattle.drv_specs.specs.Blanks.{is_blank}
use Rattle.drv_specs.specs.Lines.{without_end}
use Rattle.std.proofs.Common.{◌≡◌, ◌≤◌, length, take}
use Rattle.drv_specs.proofs.bytes.without_end_blanks.Given as goal

-- only blanks come after this end
abbrev pub invariant-loop-end : goal.invariant-loop-end
invariant-loop-end l = record {
  within : l.end ≤ length l.text;
  rest : without_end is_blank (take l.end l.text)
      ≡ without_end is_blank l.text;
}

-- the end gets less each turn, so the loop ends
abbrev pub decreases-loop-end : goal.decreases-loop-end
decreases-loop-end l = l.end
