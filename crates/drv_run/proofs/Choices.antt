use Rattle.drv_core.specs.Choices.{ChoicesAre, IsChoice}
use Rattle.drv_core.specs.Run.{Run}
use Rattle.std.proofs.Common.{◌≡◌, ◌<◌, subst, sym, ℕ}

-- For `choose_source`: choosing a source changes no event, and each number below the choices can be chosen.
-- Names: `s` is the run. `n` is the number of a choice.

-- the number of choices depends on the plan, the window and the events alone
pub choices_kept : (r s : Run) (n : ℕ) → ChoicesAre r.plan r.window r.events n → s.plan ≡ r.plan → s.window ≡ r.window → s.events ≡ r.events
    → ChoicesAre s.plan s.window s.events n
choices_kept r s n are plan window events =
    subst (λ p. ChoicesAre p s.window s.events n) (sym plan)
    (subst (λ w. ChoicesAre r.plan w s.events n) (sym window) (subst (λ e. ChoicesAre r.plan r.window e n) (sym events) are))

-- a number below the choices can be chosen
one : (s : Run) (n k : ℕ) → ChoicesAre s.plan s.window s.events n → k < n → IsChoice s.plan s.window s.events k
one s n k are lt = record {
  counted = λ b. subst (λ m. k < m) (are.counted b) lt;
  elsewhere =
      λ none. subst (λ m. k < m) (are.elsewhere none) lt;
}

-- a number below it can be chosen
pub is_choice : (r s : Run) (n k : ℕ) → ChoicesAre r.plan r.window r.events n → s.plan ≡ r.plan → s.window ≡ r.window → s.events ≡ r.events
    → k < n → IsChoice s.plan s.window s.events k
is_choice r s n k are plan window events lt = one s n k (choices_kept r s n are plan window events) lt
