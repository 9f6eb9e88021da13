use Rattle.drv_args.proofs.LineSteps.{next_pieces, no_pieces}
use Rattle.drv_args.proofs.building.LineBuilder.add_pieces.Goals as goal
use Rattle.drv_args.specs.Code.Building.{with_pieces}
use Rattle.drv_words.specs.Bytes.{comma}
use Rattle.std.proofs.Common.{◌==◌, ◌∙◌, [], ◌∷◌, ap, map, rules, tests}
use Rattle.std.proofs.lemmas.Iterator.Consumers.{YieldsList-end}
use Rattle.std.proofs.lemmas.Iterator.Splits.{YieldsList-from_slice_split}
use Rattle.std.proofs.lemmas.List.{map-append}
use Rattle.std.specs.Slice.Iter.{split_callee, split_done, split_rest}

-- Names: `next_pieces`: one more piece in the code's loop. `no_pieces`: no pieces change nothing. `with_pieces`: the pieces of -Wa and -Wp
-- are options, those of -Wl are inputs.

pub loop-piece-init : goal.loop-piece-init
loop-piece-init c = no_pieces c.args.tool c.args.self.now

pub loop-piece-preserved : goal.loop-piece-preserved
loop-piece-preserved c =
    next_pieces c.args.tool c.args.self.now c.loop-piece.self c.add_piece.new.self
    (map (λ piece. piece.now) c.loop-piece.yielded) _ c.in-Some.piece.now
    c.loop-piece.invariant c.in_ok-add_piece.ensures (map-append (λ piece. piece.now) c.loop-piece.yielded (c.in-Some.piece ∷ []))

-- the pieces that the code's split yields are those of the definition
pub returns : goal.returns
returns c =
    let made = c.split-piece-items.ensures in
    let given = c.into_iter-piece-iterator.ensures in
    let all = YieldsList-end (YieldsList-from_slice_split _ (λ b. b == comma) c.args.text.now
    (ap split_rest given.into_iter_gives ∙ made.rest) (ap split_done given.into_iter_gives ∙ made.done)
    (ap split_callee given.into_iter_gives ∙ made.closure) (λ x b q k. search (rules, tests)))
    c.loop-piece.yielded _ c.loop-piece.yielded_by _ _ c.in-None.is c.next.ensures.steps in
    c.loop-piece.invariant ∙ ap (with_pieces c.args.self.now c.args.tool) all.0
