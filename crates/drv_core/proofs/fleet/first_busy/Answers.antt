use Rattle.drv_core.proofs.Searches.{all_left, busy_first}
use Rattle.drv_core.proofs.fleet.first_busy.Goals as goal
use Rattle.drv_core.specs.Code.Fleet.{first_busy}
use Rattle.std.proofs.Common.{◌+◌, ◌-◌, ◌∙◌, ap, drop, length, take}
use Rattle.std.specs.Prelude.{unwrap_or}

-- Names: `all_left`: the slice from i on with all that is left is the rest of the list. `busy_first`: the first source from an index on
-- that has commands.

-- the first that passes the test, from `from` on
pub returns : goal.returns
returns c =
    let jobs = c.args.jobs.now in
    let left = take (length jobs - c.args.from) (drop c.args.from jobs) in
    ap (λ n. c.args.from + n) (c.unwrap_or.ensures ∙ ap (λ place. unwrap_or place (length left)) c.busy_place.ensures)
    ∙ busy_first c.args.from left ∙ ap (first_busy c.args.from) (all_left c.args.from jobs)
