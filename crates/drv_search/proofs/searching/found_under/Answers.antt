use Rattle.drv_search.proofs.Candidates.{under_second}
use Rattle.drv_search.specs.Search.{found}
use Rattle.drv_system.proofs.AskedCalls.{extends_before}
use Rattle.drv_system.specs.Known.{Is}
use Rattle.drv_search.proofs.searching.found_under.Goals as goal
use Rattle.std.proofs.Common.{◌≡◌, ◌∷◌, ◌∙◌, [], IfOk, ap, subst, sym}

-- the folder of the machine has no such file: the prefix itself is looked under
pub returns-clause-hit : goal.returns-clause-hit
returns-clause-hit g c F e =
    under_second F c.args.prefix.now c.args.name.now c.in_ok-hit.field-0 c.plain_at-2.result
    (ap (λ path. found F (path ∷ [])) (sym c.in_ok-path.ensures)
    ∙ c.in_ok-hit.ensures.hit F (extends_before c.plain_at-2.ensures.asks e))
    c.in_default.is
    (subst (λ path. IfOk c.plain_at-2.result (λ h. found F (path ∷ []) ≡ Is h)) c.in_ok-path-2.ensures (c.plain_at-2.ensures.hit F e))
