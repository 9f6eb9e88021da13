use Rattle.drv_plan.proofs.Ends.{not_alike, some_there}
use Rattle.drv_plan.proofs.languages.end_alike.Goals as goal
use Rattle.std.proofs.Common.{◌-◌, get_or, length, refl}

-- Names: `differ`: the clause's equation. `not_alike`: a text whose last byte is another does not end with this one. `some_there`: a length
-- that is not 0.

-- where the last bytes differ, the text does not end with the other, which is not empty
pub returns : goal.returns
returns c differ =
    not_alike c.args.text.now c.args.end.now (get_or c.args.text.now (length c.args.text.now - 1) 0)
    (get_or c.args.end.now (length c.args.end.now - 1) 0)
    (some_there (length c.args.end.now) c.is_empty-else-is_empty.result c.is_empty-else-is_empty.ensures c.if-is_empty-2.false)
    refl refl differ
