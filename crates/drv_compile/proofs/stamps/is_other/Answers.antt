use Rattle.drv_compile.proofs.Stamped.{pathless_asked, stamp_asked}
use Rattle.drv_compile.proofs.stamps.is_other.Goals as goal
use Rattle.std.proofs.Common.{◌∙◌, ap, sym}
use Rattle.std.specs.Option.{option_map}

pub returns-in_default : goal.returns-in_default
returns-in_default g c = pathless_asked c.args.line.now _ (sym c.split_at_last.ensures ∙ ap (option_map _) c.in_default.is)

-- the answer of the host decides
pub returns : goal.returns
returns g c =
    stamp_asked c.args.line.now c.in_ok-path.path c.in-Some.path.now c.in-Some.stamp.now c.in_ok-found.found c.as_bytes.result.now
    c.ne.result _ _ (sym c.split_at_last.ensures ∙ ap (option_map _) c.in-Some.is) c.in_ok-path.ensures c.in_ok-found.ensures.event
    c.as_bytes.ensures c.ne.ensures
