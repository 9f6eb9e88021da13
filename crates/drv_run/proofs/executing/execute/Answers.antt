use Rattle.drv_core.specs.Run.{IfMake}
use Rattle.drv_run.proofs.Following.{can_after, closed_after, executed, fits_after}
use Rattle.drv_run.proofs.executing.execute.Goals as goal
use Rattle.drv_run.specs.Code.Making.{CanMake}
use Rattle.drv_system.specs.Running.{run_of}
use Rattle.drv_words.specs.Stepping.{can_make, fits}
use Rattle.std.proofs.Common.{◌≡◌, subst, sym, true}

-- Names: `fits`: whether an answer fits the step after these events. `can_after`: a step that can be made in the run alone can be made
-- after the journal. `closed_after`: a run that leaves no pipe pending leaves none after both.

-- the run is whole: the plan was carried out in this window, with this status
pub returns-in-Done-clause-executed : goal.returns-in-Done-clause-executed
returns-in-Done-clause-executed g c =
    executed c.args.plan.now c.loop-status.run.plan c.args.pass_codes c.loop-status.run.pass_codes c.args.window c.loop-status.run.window
    (g.S.System.events c.args.sys.now) (g.S.System.events c.loop-status.sys) c.in-Done.status c.loop-status.run.events
    c.loop-status.invariant.journal c.loop-status.invariant.plan c.loop-status.invariant.codes c.loop-status.invariant.window
    c.next.ensures.bound c.in-Done.ensures.whole c.in-Done.ensures.status

-- and no pipe is pending after it
pub returns-in-Done-clause-pipe : goal.returns-in-Done-clause-pipe
returns-in-Done-clause-pipe g c =
    closed_after (g.S.System.events c.args.sys.now) (g.S.System.events c.loop-status.sys) c.loop-status.run.events
    c.loop-status.invariant.journal c.requires.pipe c.in-Done.ensures.pipe

-- the step can be made after what the journal shows, as `make` requires
pub make-answer-requires-clause-can : goal.make-answer-requires-clause-can
make-answer-requires-clause-can g c =
    subst (λ journal. CanMake c.args.plan.now journal c.in-Make.step) (sym c.loop-status.invariant.journal)
    (can_after c.args.plan.now (g.S.System.events c.args.sys.now) c.loop-status.run.events c.in-Make.step c.requires.pipe
    (subst (λ plan. can_make plan c.loop-status.run.events c.in-Make.step ≡ true) c.loop-status.invariant.plan c.in-Make.ensures.possible))

-- the answer fits the step after the events of the run, as `answer` requires
pub answer-requires-clause-fits : goal.answer-requires-clause-fits
answer-requires-clause-fits g c =
    subst (λ action. IfMake action (λ step. fits c.loop-status.run.events step c.make-answer.result ≡ true)) c.in-Make.ensures.action
    (fits_after (g.S.System.events c.args.sys.now) c.loop-status.run.events c.in-Make.step c.make-answer.result
    (subst (λ journal. fits (run_of journal) c.in-Make.step c.make-answer.result ≡ true) c.loop-status.invariant.journal
    c.make-answer.ensures.fits))
