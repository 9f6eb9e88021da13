use Rattle.drv_machine.proofs.Lying.{lies_past, past_later, place_in}
use Rattle.drv_machine.proofs.TurnSteps.{at_item, left_at}
use Rattle.drv_machine.proofs.walk.Walk.skip.Goals as goal
use Rattle.drv_machine.specs.Code.Walking.{Left}
use Rattle.drv_machine.specs.declared.walk.Walk.{Walk}
use Rattle.std.proofs.Common.{ap, arith, subst, sym, ◌<◌, ℕ}

-- Names: `F`: what is known of the outside. `s`: the machine: what has been cut, and the world. `given`: what the walk gives in the end.
-- `left`: the clause's condition `Left`. `left_at`: a walk that moved on in the innermost part. `lies_past`: after an alternative that is
-- passed over the same items are left. `past_later`: an alternative that is passed over ends after the place reached. `place_in`: a place
-- before the end of what is left is one of the list of tokens.

-- the place is a token of the text
pub token_at-token-requires : goal.token_at-token-requires
token_at-token-requires c =
    place_in c.args.text.now c.loop-self.self.at c.requires.rest c.args.self.now.end
    (subst (λ (k : ℕ). c.loop-self.self.at < k) (ap (λ (v : Walk). v.end) c.loop-self.invariant.same) c.loop-self-test.true)
    (c.loop-self.invariant.lies c.requires.rest c.requires.lies)

-- an alternative takes a token at least
pub loop-self-smaller : goal.loop-self-smaller
loop-self-smaller c =
    let later =
    past_later c.args.text.now c.loop-self.self.at c.token_at-token.result c.token_at-token.ensures c.in-Alternative.is c.requires.rest
    c.args.self.now.end
    (subst (λ (k : ℕ). c.loop-self.self.at < k) (ap (λ (v : Walk). v.end) c.loop-self.invariant.same) c.loop-self-test.true)
    (c.loop-self.invariant.lies c.requires.rest c.requires.lies) in
    omega (arith, later, c.loop-self-test.true)

-- after an alternative the items that are left lie from its end on
pub loop-self-preserved : goal.loop-self-preserved
loop-self-preserved c = record {
  lies = λ rest l.
      lies_past c.args.text.now c.loop-self.self.at c.token_at-token.result c.token_at-token.ensures c.in-Alternative.is rest
      c.args.self.now.end
      (subst (λ (k : ℕ). c.loop-self.self.at < k) (ap (λ (v : Walk). v.end) c.loop-self.invariant.same) c.loop-self-test.true)
      (c.loop-self.invariant.lies rest l);
  same = ap (λ (v : Walk). record v { at = c.token_at-token.result.next }) c.loop-self.invariant.same;
}

-- an item is reached: only alternatives were passed
pub returns-in_default-clause-does : goal.returns-in_default-clause-does
returns-in_default-clause-does c F C s given left =
    subst (λ (v : Walk). Left F C c.args.text.now v s given) (sym c.loop-self.invariant.same)
    (left_at F C c.args.text.now c.args.self.now c.loop-self.self.at s given c.loop-self.invariant.lies left)

-- the token that is reached is no alternative
pub returns-in_default-clause-reached : goal.returns-in_default-clause-reached
returns-in_default-clause-reached c h = at_item c.args.text.now c.loop-self.self c.token_at-token.result h c.token_at-token.ensures
    c.in_default.not-Alternative

-- the end of the part is reached: only alternatives were passed
pub returns-clause-does : goal.returns-clause-does
returns-clause-does c F C s given left =
    subst (λ (v : Walk). Left F C c.args.text.now v s given) (sym c.loop-self.invariant.same)
    (left_at F C c.args.text.now c.args.self.now c.loop-self.self.at s given c.loop-self.invariant.lies left)
