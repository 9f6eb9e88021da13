use Rattle.drv_machine.proofs.Settling.{settled_more, settled_none}
use Rattle.drv_machine.proofs.TurnSteps.{as_left, framed_of, given_of, lain_of}
use Rattle.drv_machine.proofs.turns.work_items.Goals as goal
use Rattle.drv_machine.specs.Code.Counting.{state}
use Rattle.drv_machine.specs.Code.Running.{reached}
use Rattle.drv_system.proofs.AskedCalls.{asked_further, asked_none, extends_before}
use Rattle.drv_system.proofs.Asking.{extends_refl}
use Rattle.std.proofs.Common.{arith, rules}

-- Names: `F`: what is known of the outside. `given`: what the walk gives in the end. `e`: that `F` extends the facts of this call. `left`:
-- the clause's condition `Left`. `extends_before`: what extends the facts after a call extends those before it. `state`: the state of a
-- machine and its count. `reached n s`: the machine s where n items were reached. `asked_further`: calls that only asked, one after
-- another. `settled_more`: an item is left.

-- before the first turn all of the walk is left
pub loop-watch-init : goal.loop-watch-init
loop-watch-init g c = record {
  asks = asked_none c.args.outside.now;
  lain = c.requires.lain;
  framed = c.requires.framed;
  left = λ F e given left. left;
}

-- the end of a part has a fault
pub returns-in_err-settle-clause-does : goal.returns-in_err-settle-clause-does
returns-in_err-settle-clause-does g c F e given left =
    let failed = c.in_err-settle.ensures.does c.loop-watch.tally.items F e given
    (c.loop-watch.invariant.left F (extends_before c.settle.ensures.asks e) given left) in
    let f = c.from_residual.ensures in
    search rules

-- what was asked, where the end of a part has a fault
pub returns-in_err-settle-clause-asks : goal.returns-in_err-settle-clause-asks
returns-in_err-settle-clause-asks g c = asked_further c.loop-watch.invariant.asks c.settle.ensures.asks

-- items lie from the place of the walk on
pub turn-requires-clause-lain : goal.turn-requires-clause-lain
turn-requires-clause-lain g c =
    let F = c.settle.new.outside.facts.now in
    let given = given_of F c.args.context.now c.loop-watch.walk.text.now c.loop-watch.walk (state c.loop-watch.tally)
    c.loop-watch.invariant.lain c.loop-watch.invariant.framed in
    lain_of F c.args.context.now c.settle.new.walk.text.now c.settle.new.walk (reached c.loop-watch.tally.items c.settle.new.machine) given
    (settled_more F c.args.context.now c.settle.new.walk.text.now c.settle.new.walk (reached c.loop-watch.tally.items c.settle.new.machine)
    given _ c.if-branch.true (c.in_ok-settle.ensures.does c.loop-watch.tally.items F (extends_refl F) given
    (as_left F c.args.context.now c.loop-watch.walk.text.now c.loop-watch.walk (state c.loop-watch.tally) c.loop-watch.invariant.lain
    c.loop-watch.invariant.framed)))

-- the place of the walk is an item
pub turn-requires-clause-at_item : goal.turn-requires-clause-at_item
turn-requires-clause-at_item g c = c.in_ok-settle.ensures.reached c.if-branch.true

-- an item has a fault
pub returns-in_err-turn-clause-does : goal.returns-in_err-turn-clause-does
returns-in_err-turn-clause-does g c F e given left =
    let failed =
    c.in_err-turn.ensures.does F e given
    (settled_more F c.args.context.now c.settle.new.walk.text.now c.settle.new.walk (reached c.loop-watch.tally.items c.settle.new.machine)
    given _ c.if-branch.true (c.in_ok-settle.ensures.does c.loop-watch.tally.items F (extends_before c.turn.ensures.asks e) given
    (c.loop-watch.invariant.left F (extends_before c.settle.ensures.asks (extends_before c.turn.ensures.asks e)) given left))) in
    let f = c.from_residual-in_err-turn.ensures in
    search rules

-- what was asked, where an item has a fault
pub returns-in_err-turn-clause-asks : goal.returns-in_err-turn-clause-asks
returns-in_err-turn-clause-asks g c = asked_further c.loop-watch.invariant.asks (asked_further c.settle.ensures.asks c.turn.ensures.asks)

-- each turn counts an item at least
pub loop-watch-smaller : goal.loop-watch-smaller
loop-watch-smaller g c =
    omega (
      arith,
      c.in_ok-turn.ensures.counts,
      c.in_ok-turn.ensures.below,
    )

-- after a turn, what is left gives what the walk gave before
pub loop-watch-preserved : goal.loop-watch-preserved
loop-watch-preserved g c =
    let F = c.turn.new.outside.facts.now in
    let given = given_of F c.args.context.now c.loop-watch.walk.text.now c.loop-watch.walk (state c.loop-watch.tally)
    c.loop-watch.invariant.lain c.loop-watch.invariant.framed in
    let after =
    c.in_ok-turn.ensures.does F (extends_refl F) given
    (settled_more F c.args.context.now c.settle.new.walk.text.now c.settle.new.walk (reached c.loop-watch.tally.items c.settle.new.machine)
    given _ c.if-branch.true (c.in_ok-settle.ensures.does c.loop-watch.tally.items F (extends_before c.turn.ensures.asks (extends_refl F))
    given (as_left F c.args.context.now c.loop-watch.walk.text.now c.loop-watch.walk (state c.loop-watch.tally) c.loop-watch.invariant.lain
    c.loop-watch.invariant.framed))) in record {
      asks = asked_further c.loop-watch.invariant.asks (asked_further c.settle.ensures.asks c.turn.ensures.asks);
      lain = lain_of F c.args.context.now c.turn.new.walk.text.now c.turn.new.walk (state c.turn.new.tally) given after;
      framed = framed_of F c.args.context.now c.turn.new.walk.text.now c.turn.new.walk (state c.turn.new.tally) given after;
      left = λ F e given left.
          c.in_ok-turn.ensures.does F e given (settled_more F c.args.context.now c.settle.new.walk.text.now c.settle.new.walk
          (reached c.loop-watch.tally.items c.settle.new.machine) given _ c.if-branch.true
          (c.in_ok-settle.ensures.does c.loop-watch.tally.items F (extends_before c.turn.ensures.asks e) given
          (c.loop-watch.invariant.left F (extends_before c.settle.ensures.asks (extends_before c.turn.ensures.asks e)) given left)));
    }

-- no item is left: the walk has given all
pub returns-clause-does : goal.returns-clause-does
returns-clause-does g c F e given left =
    settled_none F c.args.context.now c.settle.new.walk.text.now c.settle.new.walk (reached c.loop-watch.tally.items c.settle.new.machine)
    given _ c.if-branch.false (c.in_ok-settle.ensures.does c.loop-watch.tally.items F e given
    (c.loop-watch.invariant.left F (extends_before c.settle.ensures.asks e) given left))

-- what was asked in all turns
pub returns-clause-asks : goal.returns-clause-asks
returns-clause-asks g c = asked_further c.loop-watch.invariant.asks c.settle.ensures.asks
