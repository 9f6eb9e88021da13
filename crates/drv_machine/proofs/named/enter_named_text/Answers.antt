use Rattle.drv_machine.proofs.NamedTexts.{text_opened}
use Rattle.drv_machine.proofs.Onward.{too_deep}
use Rattle.drv_machine.proofs.named.enter_named_text.Goals as goal
use Rattle.std.proofs.Common.{ap, length, refl, rules}

-- Names: `F`: what is known of the outside. `s`: the machine: what has been cut, and the world. `given`: what the walk gives in the end.
-- `b`: the clause's condition `Following`. `text_opened`: the walk enters the whole text, and goes on after the item at its end.
-- `too_deep`: where the stack refuses a frame, for 64 open parts or lack of memory, so is the text.

-- too many parts are open
pub returns-in_err-push : goal.returns-in_err-push
returns-in_err-push c F C s given b =
    let failed = too_deep F C c.args.walk.now.text.now c.args.walk.now s given c.args.walk.now.at _ b refl
    c.in_err-push.field-0.0 c.in_err-push.ensures.err in
    let f = c.from_residual.ensures in
    search rules

-- the text is open, and the walk is at its first item
pub returns : goal.returns
returns c F C s given b =
    text_opened F C c.args.walk.now c.args.walk.now.at c.args.text.now s given b
    c.in_ok-push.ensures.room (length c.tokens-end.result.now)
    (ap (λ ts. length ts) c.tokens-end.ensures) _ refl refl refl c.in_ok-push.ensures.ok
