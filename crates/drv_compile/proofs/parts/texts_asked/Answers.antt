use Rattle.drv_compile.proofs.Decided.{texts_found}
use Rattle.drv_compile.proofs.parts.texts_asked.Goals as goal
use Rattle.drv_compile.specs.Places.{part_or_whole}
use Rattle.drv_system.proofs.AskedCalls.{extends_before}
use Rattle.std.proofs.Common.{◌∙◌, ap}

-- Names: `texts_found`: `texts_asked` asks whether the part for a line is there. `extends_before`: what extends the facts after a call
-- extends those before it.

-- the kind of the part's path says whether the texts are in the part or in the spec file
pub returns-clause-texts : goal.returns-clause-texts
returns-clause-texts g c F e =
    texts_found F c.args.specs.now c.args.items.now c.args.stages c.in_ok-part.part c.in_ok-path.path c.in_ok-kind.kind c.texts_at.result
    c.in_ok-part.ensures ((extends_before c.texts_at.ensures.asks e).kinds c.in_ok-part.part c.in_ok-kind.kind c.in_ok-kind.ensures.known)
    (c.in_ok-path.ensures ∙ c.part_or_whole.ensures ∙ ap (λ p. part_or_whole c.args.specs.now p c.in_ok-kind.kind) c.as_bytes.ensures)
    (c.texts_at.ensures.texts F e)
