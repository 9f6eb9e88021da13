use Rattle.drv_compile.proofs.Values.{value_none, value_some}
use Rattle.drv_compile.proofs.compilers.first_value.Goals as goal
use Rattle.drv_compile.specs.Compilers.{lines}
use Rattle.std.proofs.Common.{◌∙◌, ap}
use Rattle.std.specs.Option.{option_map}

-- Names: `lines`: the lines of a file's text. `value_none`: `first_value` has none where no line begins with the key.

pub returns-in-None : goal.returns-in-None
returns-in-None c =
    value_none c.args.key.now (lines c.args.text.now) _ (ap (option_map (λ line. line.now)) c.in-None.is) c.first_line.ensures

-- a line begins with the key: its rest is the first value
pub returns-in_ok-from_bytes-in-Some : goal.returns-in_ok-from_bytes-in-Some
returns-in_ok-from_bytes-in-Some c =
    value_some c.args.key.now (lines c.args.text.now) _ c.in-Some.line.now _
    (ap (option_map (λ line. line.now)) c.in-Some.is) c.first_line.ensures
    (c.in_ok-from_bytes-in-Some.ensures ∙ c.rest_of.ensures)
