use Rattle.drv_after.proofs.running.story_over.Goals as goal
use Rattle.drv_core.specs.Run.{IfMake}
use Rattle.drv_words.specs.Stepping.{fits}
use Rattle.std.proofs.Common.{◌≡◌, subst, true}

-- the answer to the step of `next` fits it
pub answer-requires-clause-fits : goal.answer-requires-clause-fits
answer-requires-clause-fits c =
    subst (λ action. IfMake action (λ step. fits c.loop-status.run.events step c.answer_to-answer.result ≡ true)) c.in-Make.ensures.action
    (subst (λ events. fits events c.in-Make.step c.answer_to-answer.result ≡ true) c.events-in-Make.ensures c.answer_to-answer.ensures)
