use Rattle.drv_specs.proofs.Trimming.{front_by}
use Rattle.drv_specs.proofs.bytes.without_white.Goals as goal
use Rattle.drv_specs.specs.Blanks.{is_white}
use Rattle.std.proofs.Common.{length, refl}

pub returns : goal.returns
returns c = front_by is_white c.args.text.now c.following.result.now c.first_black.result
    (length c.args.text.now) c.unwrap_or-stays.result c.first_black.ensures.is refl c.unwrap_or-stays.ensures c.following.ensures
