use Rattle.drv_machine.proofs.ChoiceSteps.{none_true}
use Rattle.drv_machine.proofs.ChoiceTurns.{asked_chosen, default_chosen, none_chosen, one_chosen}
use Rattle.drv_machine.proofs.Standing.{front_in, here, nearer}
use Rattle.drv_machine.proofs.Steps.{ok_as}
use Rattle.drv_machine.proofs.braces.choose.Goals as goal
use Rattle.drv_machine.specs.Code.ByKind.{Found, Within}
use Rattle.drv_machine.specs.Code.Running.{reached}
use Rattle.drv_machine.specs.Code.Standing.{tests_in}
use Rattle.drv_machine.specs.Code.Walking.{Went, weight}
use Rattle.drv_machine.specs.declared.asking.Judged.{Judged}
use Rattle.drv_machine.specs.declared.walk.Walk.{Walk}
use Rattle.drv_syntax.specs.Parsed.{tree_of}
use Rattle.drv_syntax.specs.Tokens.{tokens_of}
use Rattle.std.proofs.Common.{◌+◌, ◌∙◌, Ok, ap, arith, length, subst}

-- Names: `n`: how many items were reached. `F`: what is known of the outside. `given`: what the walk gives in the end. `s`, `b`: the
-- clause's conditions `Stands` and `Following`. `h`: of the type `Here` (proofs/Standing). `nodes`, `stands`: the fields of `Spans`
-- (specs/Code/Standing). `reached n s`: the machine s where n items were reached. `here`: at a place before the end of whole parts the
-- token is in the list. `weight`: how often the ends of all open parts may still open one, in a text of this size. `tree_of`: the tree of a
-- text. `tokens_of`: the tokens of a tree.

-- the alternative is a token of the text
pub token_at-next-requires : goal.token_at-next-requires
token_at-next-requires c = front_in c.args.walk.now.text.now c.loop-at.at c.args.end c.loop-at-test.true c.loop-at.invariant.spans

-- the parts inside the alternative lie there
pub tests_end-items-requires : goal.tests_end-items-requires
tests_end-items-requires c =
    (here c.args.walk.now.text.now c.loop-at.at c.args.end c.loop-at-test.true c.token_at-next.result c.token_at-next.ensures
    c.loop-at.invariant.spans).within

-- an alternative without tests: its X is reached
pub returns-then-items-at-clause-does : goal.returns-then-items-at-clause-does
returns-then-items-at-clause-does c n F choices given s b =
    rw c.loop-at.invariant.walk (default_chosen F c.args.context.now c.args.walk.now.text.now c.args.walk.now (reached n c.args.machine.now)
    (reached n c.loop-at.machine) c.loop-at.at c.args.end choices given b
    (λ levels star. c.loop-at.invariant.left n F choices levels star s) c.loop-at-test.true c.token_at-next.result c.token_at-next.ensures
    c.tests_end-items.result c.tests_end-items.ensures.tests c.tests_end-items.ensures.rest c.if-items-at.true)

-- the tests lie from the first place in the alternative to its X
pub first_true-requires : goal.first_true-requires
first_true-requires c =
    let h = here c.args.walk.now.text.now c.loop-at.at c.args.end c.loop-at-test.true c.token_at-next.result c.token_at-next.ensures
    c.loop-at.invariant.spans in
    record { nodes = tests_in h.within.nodes; stands = c.tests_end-items.ensures.tests h.within.nodes h.within.stands }

-- the alternative is a token of the text, for its %*
pub holds_star-own-requires : goal.holds_star-own-requires
holds_star-own-requires c = front_in c.args.walk.now.text.now c.loop-at.at c.args.end c.loop-at-test.true c.loop-at.invariant.spans

-- the test that is true is a token of the text
pub enter_alternative-requires : goal.enter_alternative-requires
enter_alternative-requires c =
    rw c.loop-at.invariant.walk (subst (λ (f : Judged). Within (c.loop-at.at + 1) c.tests_end-items.result
    (length (tokens_of (tree_of c.args.walk.now.text.now))) f) c.in-True.is c.first_true.ensures.within).2

-- a test is true: the X is opened for each hit, or reached
pub returns-in-True-clause-does : goal.returns-in-True-clause-does
returns-in-True-clause-does c n F choices given s b =
    one_chosen F c.args.context.now c.args.walk.now.text.now c.args.walk.now (reached n c.args.machine.now) (reached n c.loop-at.machine)
    c.loop-at.at c.args.end choices given b (λ levels star. c.loop-at.invariant.left n F choices levels star s)
    c.loop-at-test.true c.token_at-next.result c.token_at-next.ensures c.tests_end-items.result c.tests_end-items.ensures.tests
    c.tests_end-items.ensures.rest c.if-items-at.false (reached n c.loop-at.machine) c.in-True.test
    (Went F c.args.context.now c.enter_alternative.new.walk.text.now c.enter_alternative.new.walk (reached n c.loop-at.machine) given
    c.enter_alternative.result) (λ tests levels star stands.
    subst (λ (found : Judged). Found F c.args.context.now c.args.walk.now.text.now c.tests_end-items.result (reached n c.loop-at.machine)
    (reached n c.loop-at.machine) (Ok found) tests levels star) c.in-True.is (c.first_true.ensures.does n F tests levels star stands))
    (λ negated asked items others owns label stands following.
    c.enter_alternative.ensures.does n F negated asked items others given (c.holds_star-own.ensures ∙ owns)
    (rw c.loop-at.invariant.walk label) (rw c.loop-at.invariant.walk stands) (rw c.loop-at.invariant.walk following))

-- the test by a function is a token of the text
pub token_at-requires : goal.token_at-requires
token_at-requires c =
    (subst (λ (f : Judged). Within (c.loop-at.at + 1) c.tests_end-items.result
    (length (tokens_of (tree_of c.args.walk.now.text.now))) f) c.in-Asks.is c.first_true.ensures.within).2

-- the test by a function is before its X
pub open_test-requires : goal.open_test-requires
open_test-requires c =
    (subst (λ (f : Judged). Within (c.loop-at.at + 1) c.tests_end-items.result
    (length (tokens_of (tree_of c.args.walk.now.text.now))) f) c.in-Asks.is c.first_true.ensures.within).1

-- a test by a function must be asked first: its arguments are opened
pub returns-in-Asks-clause-does : goal.returns-in-Asks-clause-does
returns-in-Asks-clause-does c n F choices given s b =
    asked_chosen F c.args.context.now c.args.walk.now.text.now c.args.walk.now (reached n c.args.machine.now) (reached n c.loop-at.machine)
    c.loop-at.at c.args.end choices given b (λ levels star. c.loop-at.invariant.left n F choices levels star s)
    c.loop-at-test.true c.token_at-next.result c.token_at-next.ensures c.tests_end-items.result c.tests_end-items.ensures.tests
    c.tests_end-items.ensures.rest
    c.if-items-at.false (reached n c.loop-at.machine) c.in-Asks.test c.token_at.result c.token_at.ensures c.holds_star-own.result
    c.holds_star-own.ensures
    (Went F c.args.context.now c.open_test.new.walk.text.now c.open_test.new.walk (reached n c.open_test.new.machine) given
    c.open_test.result) (λ tests levels star stands.
    subst (λ (found : Judged). Found F c.args.context.now c.args.walk.now.text.now c.tests_end-items.result (reached n c.loop-at.machine)
    (reached n c.loop-at.machine) (Ok found) tests levels star) c.in-Asks.is (c.first_true.ensures.does n F tests levels star stands))
    (λ items arguments kept fits stands following.
    c.open_test.ensures.does n F c.args.context.now items arguments kept given
    (rw c.loop-at.invariant.walk fits) (rw c.loop-at.invariant.walk stands) (rw c.loop-at.invariant.walk following))

-- an alternative takes a token at least
pub loop-at-smaller : goal.loop-at-smaller
loop-at-smaller c = nearer c.args.walk.now.text.now c.loop-at.at c.args.end c.loop-at-test.true c.token_at-next.result
    c.token_at-next.ensures c.loop-at.invariant.spans

-- no test of the alternative is true, and those after it are left
pub loop-at-preserved : goal.loop-at-preserved
loop-at-preserved c =
    let h = here c.args.walk.now.text.now c.loop-at.at c.args.end c.loop-at-test.true c.token_at-next.result c.token_at-next.ensures
    c.loop-at.invariant.spans in record {
      low = omega (arith, c.loop-at.invariant.low, h.later);
      walk = c.loop-at.invariant.walk;
      spans = (here c.args.walk.now.text.now c.loop-at.at c.args.end c.loop-at-test.true c.token_at-next.result
          c.token_at-next.ensures c.loop-at.invariant.spans).following;
      left = λ n F choices levels star s.
          none_true F c.args.context.now c.args.walk.now.text.now (reached n c.args.machine.now) (reached n c.loop-at.machine) c.loop-at.at
          c.args.end c.loop-at-test.true choices levels star
          (c.loop-at.invariant.left n F choices levels star s) c.token_at-next.result c.token_at-next.ensures c.tests_end-items.result
          c.tests_end-items.ensures.tests c.tests_end-items.ensures.rest c.if-items-at.false (reached n c.loop-at.machine) (λ tests stands.
          subst (λ (found : Judged). Found F c.args.context.now c.args.walk.now.text.now c.tests_end-items.result
          (reached n c.loop-at.machine) (reached n c.loop-at.machine) (Ok found) tests levels star) c.in-Neither.is
          (c.first_true.ensures.does n F tests levels star stands));
    }

-- no alternative is true: the place after the braces is reached
pub returns-clause-does : goal.returns-clause-does
returns-clause-does c n F choices given s b =
    rw c.loop-at.invariant.walk
    (none_chosen F c.args.context.now c.args.walk.now.text.now c.args.walk.now (reached n c.args.machine.now) (reached n c.loop-at.machine)
    c.loop-at.at c.args.end choices given b (λ levels star. c.loop-at.invariant.left n F choices levels star s)
    (omega (arith, c.loop-at-test.false)))

-- to reach the X of a default opens nothing
pub returns-then-items-at-clause-lighter : goal.returns-then-items-at-clause-lighter
returns-then-items-at-clause-lighter c =
    let same = ap (λ (v : Walk). weight (length c.args.context.now.switches) v.frames) c.loop-at.invariant.walk in
    omega (arith, same)

-- to open an X for a hit adds no more than the switches of the line
pub returns-in-True-clause-lighter : goal.returns-in-True-clause-lighter
returns-in-True-clause-lighter c =
    let same = ap (λ (v : Walk). weight (length c.args.context.now.switches) v.frames) c.loop-at.invariant.walk in
    ok_as c.enter_alternative.result (λ l. omega (arith, same, l)) c.enter_alternative.ensures.lighter

-- to open a test's arguments adds no more than what is left of the braces
pub returns-in-Asks-clause-lighter : goal.returns-in-Asks-clause-lighter
returns-in-Asks-clause-lighter c =
    let same = ap (λ (v : Walk). weight (length c.args.context.now.switches) v.frames) c.loop-at.invariant.walk in
    let found = subst (λ (f : Judged). Within (c.loop-at.at + 1) c.tests_end-items.result
    (length (tokens_of (tree_of c.args.walk.now.text.now))) f) c.in-Asks.is c.first_true.ensures.within in
    ok_as c.open_test.result (λ l. omega (arith, same, found.0, c.loop-at.invariant.low, c.loop-at-test.true, l))
    (c.open_test.ensures.lighter (length c.args.context.now.switches))

-- to pass the braces opens nothing
pub returns-clause-lighter : goal.returns-clause-lighter
returns-clause-lighter c =
    let same = ap (λ (v : Walk). weight (length c.args.context.now.switches) v.frames) c.loop-at.invariant.walk in
    omega (arith, same)
