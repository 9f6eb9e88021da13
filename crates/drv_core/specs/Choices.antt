use Rattle.drv_core.specs.Events.{events_of, job_of}
use Rattle.drv_core.specs.Story.{Fresh, Left, Over, Waits}
use Rattle.drv_core.specs.Windowed.{Leads, SourceBlock, begins, blocks_of, count, is_flying, is_fresh, is_left, is_under_way, source_at}
use Rattle.drv_words.specs.declared.plan.Plan.{Plan}
use Rattle.drv_words.specs.declared.steps.RunEvent.{RunEvent}
use Rattle.drv_words.specs.declared.steps.Step.{Step}
use Rattle.drv_words.specs.declared.steps.Step.TheVariants as step
use Rattle.std.specs.Prelude.{◌≡◌, ◌&&◌, ◌<◌, Bool, List, Option, Some, false, length, min, nat_eq, nat_lt, true, ℕ}

-- Which sources may go on, if the events so far are whole blocks of the sources.

-- The next block may be one of source k, whose stage is `s`, of n sources in a window of N. It is the test for `MayCome`, of a source that
-- has more to do.
abbrev pub may_at : ℕ → ℕ → (ℕ → Left) → ℕ → Left → Bool
may_at n N st k Fresh = nat_eq (count k (λ j. is_fresh (st j))) 0 && nat_lt (count n (λ j. is_under_way (st j))) N
may_at n N st k (Waits g fault kid kids gs) = nat_eq (count n (λ j. is_flying (st j))) (min N (count n (λ j. is_left (st j))))
may_at n N st k Over = false
may_at n N st k s = true

-- with the stage that it has
abbrev pub may_go_on : ℕ → ℕ → (ℕ → Left) → ℕ → Bool
may_go_on n N st k = may_at n N st k (st k)

-- The events are whole blocks of the sources, in a permitted order, which lead to these stages, and source number `some` has more to do.
pub record BetweenBlocks (plan : Plan) (N : ℕ) (E : List RunEvent) : Type 0 where
  pub blocks : List SourceBlock
  pub st : ℕ → Left
  pub events : E ≡ events_of (blocks_of blocks)
  pub leads : Leads (length plan.jobs) N (source_at plan) (begins plan) blocks st
  pub some : ℕ
  pub some_is : some < length plan.jobs
  pub some_left : is_left (st some) ≡ true

-- whether the next block may be one of source k
abbrev pub source_may : (plan : Plan) (N : ℕ) (E : List RunEvent) → BetweenBlocks plan N E → ℕ → Bool
source_may plan N E b k = may_go_on (length plan.jobs) N b.st k

-- n is the number of sources that may go on; elsewhere it is 1
pub record ChoicesAre (plan : Plan) (N : ℕ) (E : List RunEvent) (n : ℕ) : Type 0 where
  pub counted : (b : BetweenBlocks plan N E) → n ≡ count (length plan.jobs) (source_may plan N E b)
  pub elsewhere : (BetweenBlocks plan N E → ⊥) → n ≡ 1

-- k is less than that number
pub record IsChoice (plan : Plan) (N : ℕ) (E : List RunEvent) (k : ℕ) : Type 0 where
  pub counted : (b : BetweenBlocks plan N E) → k < count (length plan.jobs) (source_may plan N E b)
  pub elsewhere : (BetweenBlocks plan N E → ⊥) → k < 1

-- whether the place of a step is one of job k
abbrev pub is_step_of : ℕ → Step → Bool
is_step_of k (step.Claim p) = nat_eq (job_of p) k
is_step_of k (step.Start p from_pipe to_pipe) = nat_eq (job_of p) k
is_step_of k step.ClosePipe = false
is_step_of k (step.Wait p id) = nat_eq (job_of p) k
is_step_of k (step.Remove p) = nat_eq (job_of p) k
is_step_of k (step.Report n) = false

-- The next step is one of source k of those that may go on, counted from 0 in plan order. `source` is the number of the source in the plan.
-- `may` says that its block may come next, and `number` that k others before it may too. `asks` and `of_source` say that the step is one of
-- this source.
pub record IsNextOf (plan : Plan) (N : ℕ) (E : List RunEvent) (b : BetweenBlocks plan N E) (k : ℕ) (asked : Option Step) : Type 0 where
  pub source : ℕ
  pub in_range : source < length plan.jobs
  pub may : source_may plan N E b source ≡ true
  pub number : count source (source_may plan N E b) ≡ k
  pub step : Step
  pub asks : asked ≡ Some step
  pub of_source : is_step_of source step ≡ true

-- between blocks it is a step of the first of them
abbrev pub IsOfFirst : (plan : Plan) (N : ℕ) (E : List RunEvent) (asked : Option Step) → Type 0
IsOfFirst plan N E asked = (b : BetweenBlocks plan N E) → IsNextOf plan N E b 0 asked
