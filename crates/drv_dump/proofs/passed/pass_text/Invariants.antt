use Rattle.drv_dump.proofs.passed.pass_text.Given as goal
use Rattle.drv_dump.specs.Ours.{words_before}
use Rattle.drv_dump.specs.Passed.{all_passed, passed_of}
use Rattle.std.proofs.Common.{◌≡◌, drop}

abbrev pub invariant-loop-piece : goal.invariant-loop-piece
invariant-loop-piece l = words_before l.copy (all_passed (drop l.piece-index l.piece-items)) ≡ passed_of l.fn.text
