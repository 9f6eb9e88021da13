use Rattle.drv_syntax.proofs.Messages.{open_at}
use Rattle.drv_syntax.proofs.descent.reading.is_open.Goals as goal
use Rattle.drv_syntax.specs.Code.Ending.{ending_in, goes_on}
use Rattle.std.proofs.Common.{◌-◌, ◌∙◌, ap, arith, drop, length, sym, take}

-- Names: `h`: the clause's equation. `ending_in`: how a text of this size ends, by its last token. `goes_on`: whether what was read can be
-- kept where this follows it.

-- what precedes the message has a tree, and the message begins a new item
pub returns : goal.returns
returns c h =
    open_at c.args.text.now c.in-Some.token.now.start c.in-Ok.front.tokens c.in-Ok.front.labels (omega (arith, c.if-start-text.false))
    c.in-Ok.ensures (ap (λ e. goes_on e (take (length c.args.text.now - c.in-Some.token.now.start)
    (drop c.in-Some.token.now.start c.args.text.now))) (sym (c.ending_in-2.ensures
    ∙ ap (λ ts. ending_in c.in-Some.token.now.start ts) c.as_slice.ensures)) ∙ sym c.if-not-goes_on.ensures) (c.is_message-2.ensures h)
