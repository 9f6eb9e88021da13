use Rattle.drv_cc.proofs.Joined.{two_added}
use Rattle.drv_cc.proofs.wrapping.add_wrapper.Goals as goal
use Rattle.drv_cc.specs.Front.{pieces, wrapper_end}
use Rattle.drv_cc.specs.SideFiles.{with_value}
use Rattle.std.proofs.Common.{◌∙◌, codes, sym}
use Rattle.std.specs.List.{flat_map}

-- The words of the pieces, and one for an empty last piece.
pub returns-in_ok-add_word : goal.returns-in_ok-add_word
returns-in_ok-add_word c =
    two_added c.args.words.now c.add_pieces.new.words c.add_word.new.words
    (flat_map (with_value (codes "--gdrv-wrapper=")) (pieces c.args.argument.now)) (wrapper_end c.args.argument.now)
    c.in_ok-add_pieces.ensures (rw (sym c.has_empty_end.ensures ∙ c.if-has_empty_end.true) c.in_ok-add_word.ensures)
