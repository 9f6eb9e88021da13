use Rattle.drv_args.specs.Code.Building.{with_pieces}
use Rattle.std.proofs.Common.{◌≡◌, map}
use Rattle.drv_args.proofs.building.LineBuilder.add_pieces.Given as goal

-- the line has the pieces so far
abbrev pub invariant-loop-piece : goal.invariant-loop-piece
invariant-loop-piece l = l.self ≡ with_pieces l.fn.self l.tool (map (λ piece. piece.now) l.yielded)
