use Rattle.drv_check.proofs.pieces.cut_pieces.Given as goal
use Rattle.drv_check.specs.Code.Recovering.{recovers}
use Rattle.drv_check.specs.Pieces.{pieces_cut, pieces_from}
use Rattle.drv_specs.specs.Code.Slices.{bytes_from, lines_from}
use Rattle.std.proofs.Common.{◌≡◌, ◌≤◌, ◌+◌, ◌++◌, length}
use Rattle.std.specs.Option.{option_map}

abbrev pub invariant-loop-left : goal.invariant-loop-left
invariant-loop-left l = record {
  cut : l.pieces.items ++ pieces_from (recovers l.reading) l.begun l.number l.at (lines_from (option_map (λ bytes. bytes.now) l.left))
      ≡ pieces_cut (recovers l.reading) l.text;
  number : l.number ≤ l.at + 1;
  room : l.at + length (bytes_from (option_map (λ bytes. bytes.now) l.left)) ≤ length l.text + 1;
}

abbrev pub decreases-loop-left : goal.decreases-loop-left
decreases-loop-left l = length (bytes_from (option_map (λ bytes. bytes.now) l.left))
