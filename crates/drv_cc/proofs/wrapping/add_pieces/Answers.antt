use Rattle.drv_cc.proofs.wrapping.add_pieces.Goals as goal
use Rattle.drv_cc.specs.SideFiles.{with_value}
use Rattle.drv_words.specs.Bytes.{comma}
use Rattle.std.proofs.Common.{◌==◌, ◌∙◌, [], ◌∷◌, ◌++◌, ap, append-nil, map, rules, sym, tests}
use Rattle.std.proofs.lemmas.Iterator.Consumers.{YieldsList-end}
use Rattle.std.proofs.lemmas.Iterator.Splits.{YieldsList-from_slice_split}
use Rattle.std.proofs.lemmas.List.{flat_map_more, map-append}
use Rattle.std.specs.List.{flat_map}
use Rattle.std.specs.Slice.Iter.{split_callee, split_done, split_rest}

pub loop-piece-init : goal.loop-piece-init
loop-piece-init c = sym (append-nil c.args.words.now)

-- With this piece the words are those of all pieces that the loop took.
pub loop-piece-preserved : goal.loop-piece-preserved
loop-piece-preserved c =
    c.in_ok-add_value.ensures ∙ ap (λ words. words ++ with_value c.args.option.now c.in-Some.piece.now) c.loop-piece.invariant
    ∙ flat_map_more (with_value c.args.option.now) c.args.words.now
    (map (λ piece. piece.now) c.loop-piece.yielded) c.in-Some.piece.now
    ∙ ap (λ all. c.args.words.now ++ flat_map (with_value c.args.option.now) all)
    (sym (map-append (λ piece. piece.now) c.loop-piece.yielded (c.in-Some.piece ∷ [])))

-- The pieces that the loop took are all pieces of the argument between its commas.
pub returns : goal.returns
returns c =
    let made = c.split-piece-items.ensures in
    let given = c.into_iter-piece-iterator.ensures in
    let all = YieldsList-end (YieldsList-from_slice_split _ (λ b. b == comma) c.args.argument.now
    (ap split_rest given.into_iter_gives ∙ made.rest) (ap split_done given.into_iter_gives ∙ made.done)
    (ap split_callee given.into_iter_gives ∙ made.closure) (λ x b q k. search (rules, tests)))
    c.loop-piece.yielded _ c.loop-piece.yielded_by _ _ c.in-None.is c.next.ensures.steps in
    c.loop-piece.invariant ∙ ap (λ words. c.args.words.now ++ flat_map (with_value c.args.option.now) words) all.0
