use Rattle.drv_machine.proofs.Laws.{run_then}
use Rattle.drv_machine.specs.Context.{Context}
use Rattle.drv_machine.specs.Code.Running.{Machine, run}
use Rattle.drv_machine.specs.Working.{◌>>-◌, ◌>>=◌, Answer, Step}
use Rattle.drv_machine.specs.declared.fault.MachineFault.TheVariants.{Memory}
use Rattle.drv_machine.specs.declared.fault.MachineFault.{MachineFault}
use Rattle.drv_system.specs.Facts.{Facts}
use Rattle.drv_system.specs.Gives.{GivesKnown}
use Rattle.drv_system.specs.Known.{Is}
use Rattle.std.proofs.Common.{◌≡◌, ◌⊎◌, ◌∙◌, Bool, Err, Ok, Result, ap, false, inl, inr, not, refl, subst, true}
use Rattle.std.specs.Prelude.{OnOk}

-- For the walk: what two steps give, one after the other, by what the first gave.
-- Names: `X`, `Y`: any type. `F`: what is known of the outside. `C`: what the text is run for (switches, texts). `s`, `t`: the machine
-- (what has been cut, and the world) before, between and after steps. `b`: a test's value, so that `by` can go by both cases. `given`: what
-- a step gives. `run`: runs a step after what has been cut, in its world.

-- a step, and then another that looks at its value
module _ {X Y : Type 0} (F : Facts) (C : Context) (s : Machine) (a : Step X) (f : X → Step Y) where
  -- where the first step gives a value, both give what the second makes of it
  pub then_ok : (x : X) (t : Machine) → run F C s a ≡ Is (Ok (x, t)) → run F C s (a >>= f) ≡ run F C t (f x)
  then_ok x t e = run_then F C s a f ∙ ap (λ (g : Answer (X × Machine)). g >>- λ r. run F C r.1 (f r.0)) e

  -- where the first step is refused, so are both
  pub then_err : (fault : MachineFault) → run F C s a ≡ Is (Err fault) → run F C s (a >>= f) ≡ Is (Err fault)
  then_err fault e = run_then F C s a f ∙ ap (λ (g : Answer (X × Machine)). g >>- λ r. run F C r.1 (f r.0)) e

  -- where the first step is refused, or memory lacks, so it is of both, as the code's clauses say it
  pub then_fails : (fault : MachineFault) → (fault ≡ Memory) ⊎ (run F C s a ≡ Is (Err fault))
      → (fault ≡ Memory) ⊎ (run F C s (a >>= f) ≡ Is (Err fault))
  then_fails fault (inl memory) = inl memory
  then_fails fault (inr e) = inr (then_err fault e)

-- a look at the state changes nothing
pub looked : {X Y : Type 0} (F : Facts) (C : Context) (state : Machine) (view : Machine → X) (next : X → Step Y) (looking : Step X)
    → run F C state looking ≡ Is (Ok (view state, state)) → run F C state (looking >>= next) ≡ run F C state (next (view state))
looked F C state view next looking e = then_ok F C state looking next (view state) state e

-- a refusal of one answer is that of another that it stops
pub fails_as : {X Y : Type 0} {fault : MachineFault} (given : Answer X) (whole : Answer Y) → (fault ≡ Memory) ⊎ (given ≡ Is (Err fault))
    → (given ≡ Is (Err fault) → whole ≡ Is (Err fault)) → (fault ≡ Memory) ⊎ (whole ≡ Is (Err fault))
fails_as given whole (inl memory) f = inl memory
fails_as given whole (inr e) f = inr (f e)

-- what is not true is false
pub not_true : (b : Bool) → not b ≡ true → b ≡ false
not_true false e = refl
not_true true e = absurd cc

-- what is not false is true
pub not_false : (b : Bool) → not b ≡ false → b ≡ true
not_false true e = refl
not_false false e = absurd cc

-- a result that gives one answer gives another that is equal to it
pub gives_as : (new : Machine) (result : Result (Unit {0}) MachineFault) (given whole : Answer (Unit {0} × Machine)) → given ≡ whole
    → GivesKnown Memory (λ u. (tt, new)) result given → GivesKnown Memory (λ u. (tt, new)) result whole
gives_as new result given whole e g = subst (λ x. GivesKnown Memory (λ u. (tt, new)) result x) e g

-- what follows from a property of a step that went well
pub ok_as : {E A B : Type 0} (result : Result (Unit {0}) E) → (A → B) → OnOk result A → OnOk result B
ok_as (Ok u) f a = f a
ok_as (Err fault) f a = a
