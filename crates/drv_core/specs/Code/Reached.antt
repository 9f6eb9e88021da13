use Rattle.drv_core.specs.Code.Course.{Course, asked_by, choices_of, choosing, fresh_course, stepped}
use Rattle.drv_core.specs.Code.Machine.{is_kind}
use Rattle.drv_words.specs.declared.answers.Answer.{Answer}
use Rattle.drv_words.specs.declared.plan.Plan.{Plan}
use Rattle.drv_words.specs.declared.steps.Step.{Step}
use Rattle.std.specs.Prelude.{◌≡◌, ◌<◌, Some, true, ℕ}

-- The courses that the code can reach by answers that fit the steps, and by choices. Only private clauses cite it.
pub data Reached (plan : Plan) (N : ℕ) : Course → Type 0 where
  at_first : Reached plan N (fresh_course plan N)
  after_answer : (c : Course) (q : Step) (x : Answer) → Reached plan N c → asked_by plan c ≡ Some q → is_kind q x ≡ true
      → Reached plan N (stepped plan c q x)
  after_choice : (c : Course) (k : ℕ) → Reached plan N c → k < choices_of plan c → Reached plan N (choosing c k)
