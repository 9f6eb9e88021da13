use Rattle.drv_specs.proofs.Found.{line_settled, rest_settled}
use Rattle.drv_specs.proofs.settling.settle.Goals as goal
use Rattle.drv_specs.specs.Lines.{is_kept, joined_onto, settle}
use Rattle.std.proofs.Common.{◌∙◌, ap, filter, fold, refl}
use Rattle.std.specs.Prelude.{slice_index}

-- Names: `settle`: what is left of a file's text. `line_settled`: a line up to the byte that was found, and that byte, are settled.

-- What is left of the lines up to here, with what is left of the rest, is what is left of the text.
pub loop-at-preserved : goal.loop-at-preserved
loop-at-preserved c =
    ap (λ t. fold joined_onto c.settle_onto.new.text.items (filter is_kept t)) c.following-rest.ensures
    ∙ line_settled c.loop-at.rest.now c.loop-at.left.items c.extend_from_slice.new.self.items c.settle_onto.new.text.items
    (settle c.args.text.now) c.find_byteset.result c.in-Some.at (slice_index c.loop-at.rest.now c.in-Some.at)
    c.find_byteset.ensures c.in-Some.is refl c.in_ok-extend_from_slice.ensures.items c.in_ok-settle_onto.ensures c.loop-at.invariant

-- At the end the rest has no byte that settling looks for, so it is added as it is.
pub returns : goal.returns
returns c =
    rest_settled c.loop-at.rest.now c.loop-at.left.items c.extend_from_slice-2.new.self.items
    (settle c.args.text.now) c.find_byteset.result c.find_byteset.ensures c.in_default.is c.in_ok-extend_from_slice-2.ensures.items
    c.loop-at.invariant
