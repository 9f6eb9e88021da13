use Rattle.drv_dump.proofs.reading.read_text.Given as goal
use Rattle.drv_dump.specs.Texts.{pieces_of, read_from}
use Rattle.std.proofs.Common.{◌≡◌, drop}

abbrev pub invariant-loop-at : goal.invariant-loop-at
invariant-loop-at l = read_from l.reader l.at (drop l.at l.text) ≡ pieces_of l.fn.text
