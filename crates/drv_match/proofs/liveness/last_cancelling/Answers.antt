use Rattle.drv_match.proofs.Lasts.{both_last, negative_last}
use Rattle.drv_match.proofs.liveness.last_cancelling.Goals as goal
use Rattle.drv_match.specs.Code.Indexed.{positive}
use Rattle.drv_match.specs.Matching.{has_negative, is_level, negative}
use Rattle.std.proofs.Common.{◌≡◌, None, Some, false, rules, true}

-- Names: `positive`: the name without `no-`, if it is a negative form. `has_negative`: a name that has a negative form. `is_level`: an
-- optimization level, whose name begins with `O`.

-- a name that is no negative form: only its negative form cancels it
pub returns-then-not-branch : goal.returns-then-not-branch
returns-then-not-branch c =
    let no_level : is_level c.args.name.now ≡ false = search rules in
    let paired : has_negative c.args.name.now ≡ true = search rules in
    let alone : positive c.args.name.now ≡ None = search rules in
    let form : c.deref.result.now ≡ negative c.args.name.now = search rules in
    negative_last c.args.names.now c.args.name.now c.deref.result.now c.last_named-negative.result no_level paired alone form
    c.last_named-negative.ensures

-- a name that is a negative form: its own negative form cancels it, or the positive one
pub returns : goal.returns
returns c =
    let no_level : is_level c.args.name.now ≡ false = search rules in
    let paired : has_negative c.args.name.now ≡ true = search rules in
    let found : positive c.args.name.now ≡ Some c.deref-2.result.now = search rules in
    let form : c.deref.result.now ≡ negative c.args.name.now = search rules in
    both_last c.args.names.now c.args.name.now c.deref.result.now c.deref-2.result.now c.last_named-negative.result c.last_named.result
    c.max.result no_level paired found form c.last_named-negative.ensures c.last_named.ensures (search rules)
