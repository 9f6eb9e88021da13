use Rattle.drv_machine.proofs.items.work_item.Goals as goal
use Rattle.drv_machine.proofs.Standing.{stand_grows}
use Rattle.drv_machine.proofs.Steps.{gives_as}
use Rattle.drv_machine.proofs.WorkSteps.{by_kind}
use Rattle.drv_machine.specs.Atoms.{added, noted}
use Rattle.drv_machine.specs.Code.Running.{reached, run}
use Rattle.drv_machine.specs.Code.Walking.{star_of}
use Rattle.drv_machine.specs.Working.{World, change, refuse}
use Rattle.drv_machine.specs.declared.fault.MachineFault.TheVariants.{UserError}
use Rattle.drv_syntax.specs.declared.token.TokenKind.TheVariants as kinds
use Rattle.std.proofs.Common.{[], ◌∷◌, ◌++◌, ap, arith, sym, ◌+◌, ◌∙◌}

-- Names: `n`: how many items were reached. `F`: what is known of the outside. `levels`: what items mean after each part that may still be
-- opened. `e`: that `F` extends the facts of this call. `means`: the clause's condition `Means`. `reached n s`: the machine s where n items
-- were reached. `by_kind`: the step of a kind, with another name for the same kind. `star_of`: the value of %* in the innermost part.
-- `gives_as`: a result that gives one answer gives another that is equal to it.

-- the place after the item's token is a number of the machine
pub overflow_add-parts : goal.overflow_add-parts
overflow_add-parts g c = let later = stand_grows _ _ (c.args.item.at + 1) c.requires.spans.nodes c.args.item.token.next
    c.requires.spans.stands
    in
    grind (arith)

-- %< or %>: the switches that the pattern hits are hidden
pub returns-in-Hide-clause-does : goal.returns-in-Hide-clause-does
returns-in-Hide-clause-does g c n F e levels inner means =
    sym (by_kind F c.args.context.now (reached n c.args.machine.now) c.args.item.token.kind kinds.Hide c.args.walk.now.text.now
    c.args.item.at (star_of c.args.context.now c.args.walk.now.star) inner c.in-Hide.is) ∙ c.hide.ensures n F

-- %x: the option is added
pub returns-in-Accumulate-clause-does : goal.returns-in-Accumulate-clause-does
returns-in-Accumulate-clause-does g c n F e levels inner means =
    gives_as (reached n c.accumulate.new.self) c.accumulate.result _ _
    (ap (λ word. run F c.args.context.now (reached n c.args.machine.now) (change
    (λ (w : World). record w { accumulated = added word w.accumulated })))
    c.word-in-Accumulate.ensures ∙ by_kind F c.args.context.now (reached n c.args.machine.now) c.args.item.token.kind kinds.Accumulate
    c.args.walk.now.text.now c.args.item.at (star_of c.args.context.now c.args.walk.now.star) inner c.in-Accumulate.is)
    (c.accumulate.ensures n F c.args.context.now)

-- %n: the notice is added
pub returns-in-Notice-clause-does : goal.returns-in-Notice-clause-does
returns-in-Notice-clause-does g c n F e levels inner means =
    gives_as (reached n c.add_notice.new.self) c.add_notice.result _ _
    (ap (λ word. run F c.args.context.now (reached n c.args.machine.now) (change
    (λ (w : World). record w { notices = w.notices ++ noted word ∷ [] })))
    c.word-in-Notice.ensures ∙ by_kind F c.args.context.now (reached n c.args.machine.now) c.args.item.token.kind kinds.Notice
    c.args.walk.now.text.now c.args.item.at (star_of c.args.context.now c.args.walk.now.star) inner c.in-Notice.is)
    (c.add_notice.ensures n F c.args.context.now)

-- %e: the text is refused
pub returns-in-UserError-clause-does : goal.returns-in-UserError-clause-does
returns-in-UserError-clause-does g c n F e levels inner means =
    gives_as (reached n c.args.machine.now) c.user_error.result _ _
    (ap (λ word. run F c.args.context.now {X = Unit {0}} (reached n c.args.machine.now) (refuse (UserError word)))
    c.word-in-UserError.ensures ∙ by_kind F c.args.context.now (reached n c.args.machine.now) c.args.item.token.kind kinds.UserError
    c.args.walk.now.text.now c.args.item.at (star_of c.args.context.now c.args.walk.now.star) inner c.in-UserError.is)
    (c.user_error.ensures F c.args.context.now (reached n c.args.machine.now))
