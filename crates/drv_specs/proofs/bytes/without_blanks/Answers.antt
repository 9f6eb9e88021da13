use Rattle.drv_specs.proofs.Trimming.{front_by, front_within}
use Rattle.drv_specs.proofs.bytes.without_blanks.Goals as goal
use Rattle.drv_specs.specs.Blanks.{is_blank}
use Rattle.std.proofs.Common.{length, refl}

-- Names: `is_blank`: whether a byte is a space or a tab. `front_by`: the code drops the bytes before the first that doesn't pass.

pub returns-clause-bytes : goal.returns-clause-bytes
returns-clause-bytes c = front_by is_blank c.args.text.now c.following.result.now c.first_solid.result
    (length c.args.text.now) c.unwrap_or-stays.result c.first_solid.ensures.is refl c.unwrap_or-stays.ensures c.following.ensures

pub returns-clause-within : goal.returns-clause-within
returns-clause-within c =
    front_within is_blank c.args.text.now c.following.result.now
    (front_by is_blank c.args.text.now c.following.result.now c.first_solid.result
    (length c.args.text.now) c.unwrap_or-stays.result c.first_solid.ensures.is refl c.unwrap_or-stays.ensures c.following.ensures)
