use Rattle.drv_match.proofs.Parts.{hide_done, named_hidden}
use Rattle.drv_match.proofs.switches.Switches.hide.Goals as goal
use Rattle.std.proofs.Common.{◌∙◌, arith}

-- Names: `hide_done`: at the end of the loop all places are hidden. `named_hidden`: hiding the named places hides what the pattern names.

-- after the last of the named places each is hidden
pub returns : goal.returns
returns c = hide_done c.loop-place.hidden _ c.named_places-named.result.now c.loop-place.place-index (omega arith)
    c.loop-place.invariant ∙ named_hidden c.args.self.now c.named_places-named.result.now c.args.hidden.now c.args.pattern.now
    c.named_places-named.ensures
