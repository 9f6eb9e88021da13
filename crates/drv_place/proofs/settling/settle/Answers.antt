use Rattle.drv_place.proofs.Marking.{bytes_there}
use Rattle.drv_place.proofs.settling.settle.Goals as goal
use Rattle.std.proofs.Common.{◌∙◌}

pub returns-clause-bytes : goal.returns-clause-bytes
returns-clause-bytes c =
    bytes_there c.from_vec.result c.from_vec-2.result c.args.text.now (c.from_vec.ensures ∙ c.in_ok-bytes.ensures.bytes)
    (c.from_vec-2.ensures ∙ c.in_ok-bytes.ensures.places)
