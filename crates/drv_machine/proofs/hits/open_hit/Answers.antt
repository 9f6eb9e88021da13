use Rattle.drv_machine.proofs.Onward.{opened_left, too_deep, weight_one}
use Rattle.drv_machine.proofs.hits.open_hit.Goals as goal
use Rattle.drv_machine.specs.Code.Walking.{weight}
use Rattle.drv_machine.specs.declared.walk.Opened.TheVariants.{Hit}
use Rattle.std.proofs.Common.{ap, arith, refl, rules}

-- Names: `F`: what is known of the outside. `s`: the machine: what has been cut, and the world. `given`: what the walk gives in the end.
-- `n`: how many items were reached. `fits`, `b`: the clause's conditions `HitFits` and `Following`. `long`: the clause's equation.
-- `opened_left`: the walk enters the items of X. `too_deep`: where the stack refuses a frame, for 64 open parts or lack of memory, so is
-- the text. `weight_one`: the weight of the stack grows by that of the frame that is pushed (what makes `settle` end).

-- too many parts are open
pub returns-in_err-push-clause-does : goal.returns-in_err-push-clause-does
returns-in_err-push-clause-does c F C p items s given fits long b =
    let failed = too_deep F C c.args.walk.now.text.now c.args.walk.now s given c.args.each.end _ b refl
    c.in_err-push.field-0.0 c.in_err-push.ensures.err in
    let f = c.from_residual.ensures in
    search rules

-- the X is open, and its end gives the argument and the other hits
pub returns-clause-does : goal.returns-clause-does
returns-clause-does c F C p items s given fits long b =
    opened_left F C c.args.walk.now.text.now c.args.walk.now s given c.args.each c.args.switch c.args.size p items fits long b
    c.in_ok-push.ensures.room _ refl refl refl c.in_ok-push.ensures.ok

-- the end of the X may open one for each switch after this
pub returns-clause-lighter : goal.returns-clause-lighter
returns-clause-lighter c n =
    let e = ap (weight n) c.in_ok-push.ensures.ok in
    omega (
      arith,
      e,
      weight_one n c.args.walk.now.frames
          (record { opened = Hit c.args.each c.args.switch; end = c.args.walk.now.end; star = c.args.walk.now.star }),
    )
