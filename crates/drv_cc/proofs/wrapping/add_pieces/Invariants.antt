use Rattle.drv_cc.proofs.wrapping.add_pieces.Given as goal
use Rattle.drv_cc.specs.SideFiles.{with_value}
use Rattle.std.proofs.Common.{◌≡◌, ◌++◌, map}
use Rattle.std.specs.List.{flat_map}

abbrev pub invariant-loop-piece : goal.invariant-loop-piece
invariant-loop-piece l = l.words ≡ l.fn.words ++ flat_map (with_value l.option) (map (λ piece. piece.now) l.yielded)
