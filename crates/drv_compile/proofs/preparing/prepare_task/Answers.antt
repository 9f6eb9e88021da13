use Rattle.drv_compile.proofs.Noting.{none_noted}
use Rattle.drv_compile.proofs.LinesPrepared.{compilation_comes, decision_stops, question_comes, words_stop}
use Rattle.drv_compile.proofs.Worded.{memory_stops}
use Rattle.drv_compile.proofs.preparing.prepare_task.Goals as goal
use Rattle.drv_system.proofs.AskedCalls.{asked_further, extends_before}

pub returns-in_err-words-clause-plans : goal.returns-in_err-words-clause-plans
returns-in_err-words-clause-plans g c =
    none_noted _ _ (λ F e. words_stop F c.args.request.now.calling.now c.args.request.now.own.now c.args.request.now.args.now
    c.args.request.now.seed _ c.from_residual.result c.from_residual.ensures.1 (c.in_err-words.ensures.gives F e))

pub returns-in_err-decision-clause-plans : goal.returns-in_err-decision-clause-plans
returns-in_err-decision-clause-plans g c = none_noted _ _
    (λ F e. memory_stops c.from_residual-in_err-decision.result _ _ c.from_residual-in_err-decision.ensures.1)

-- The decision declined the line, and the host was asked nothing.
pub returns-in_err-task-clause-plans : goal.returns-in_err-task-clause-plans
returns-in_err-task-clause-plans g c =
    none_noted _ _ (λ F e.
    decision_stops F c.args.request.now.calling.now c.args.request.now.own.now c.args.request.now.args.now c.args.request.now.seed
    c.in_ok-words.words c.as_slice.result.now
    c.in_ok-decision.decision _ c.from_residual-in_err-task.result c.as_slice.ensures
    (c.in_ok-words.ensures.gives F (extends_before c.decide.ensures.asks e))
    (c.in_ok-decision.ensures.decision F e) c.from_residual-in_err-task.ensures.1 c.in_err-task.ensures)

-- the line is a question: its answer is what the call does, and the host was asked nothing
pub returns-in_ok-prepared-in-Question-clause-plans : goal.returns-in_ok-prepared-in-Question-clause-plans
returns-in_ok-prepared-in-Question-clause-plans g c =
    none_noted _ _ (λ F e.
    question_comes F c.args.request.now.calling.now c.args.request.now.own.now c.args.request.now.args.now c.args.request.now.seed
    c.in_ok-words.words c.as_slice.result.now c.in_ok-decision.decision c.in_ok-task.task _ _ c.in_ok-prepared-in-Question.prepared
    c.as_slice.ensures (c.in_ok-words.ensures.gives F (extends_before c.decide.ensures.asks e)) (c.in_ok-decision.ensures.decision F e)
    c.in_ok-task.ensures c.in-Question.is c.in_ok-prepared-in-Question.ensures.asks)

-- What the words and the decision were known by stays known while the compilation asks more.
pub returns-in-Compilation-clause-plans : goal.returns-in-Compilation-clause-plans
returns-in-Compilation-clause-plans g c =
    compilation_comes (record {
      request = c.args.request;
      given = c.in_ok-words.words;
      chain = c.in-Compilation.chain;
    }) c.in-Compilation.call c.args.request.now.own.now c.as_slice.result.now c.in_ok-decision.decision c.in_ok-task.task _ _
    c.compilation.result _ c.as_slice.ensures
    (λ F e. c.in_ok-words.ensures.gives F (extends_before c.decide.ensures.asks (extends_before c.compilation.ensures.asks e)))
    (λ F e. c.in_ok-decision.ensures.decision F (extends_before c.compilation.ensures.asks e)) c.in_ok-task.ensures c.in-Compilation.is
    c.compilation.ensures.performs

pub returns-in-Compilation-clause-asks : goal.returns-in-Compilation-clause-asks
returns-in-Compilation-clause-asks g c =
    asked_further (asked_further c.line_words.ensures.asks c.decide.ensures.asks) c.compilation.ensures.asks
