use Rattle.drv_compile.proofs.Stamped.{stale_by}
use Rattle.drv_compile.proofs.stamps.is_stale.Goals as goal

pub returns : goal.returns
returns g c =
    stale_by c.args.about.now c.in_ok-stamps.stamps _ _ _ c.any_other.result c.in_ok-stamps.ensures c.as_slice.ensures c.any_other.ensures
