use Rattle.drv_machine.proofs.Arguments.{after_then}
use Rattle.drv_machine.specs.Atoms.{call_step, has_value, value_step}
use Rattle.drv_machine.specs.Context.{Context}
use Rattle.drv_machine.specs.Cutting.{Cut}
use Rattle.drv_machine.specs.Code.Running.{Machine, run}
use Rattle.drv_machine.specs.Code.Walking.{after_arguments}
use Rattle.drv_machine.specs.Working.{◌>>-◌, bytes, give}
use Rattle.drv_machine.specs.declared.fault.MachineFault.TheVariants.{Memory}
use Rattle.drv_machine.specs.declared.fault.MachineFault.{MachineFault}
use Rattle.drv_system.specs.Facts.{Facts}
use Rattle.drv_system.specs.Gives.{GivesKnown}
use Rattle.drv_system.specs.Known.{Is}
use Rattle.std.proofs.Common.{◌≡◌, ◌⊎◌, ◌∙◌, Bool, Err, List, [], None, Ok, Option, Result, Some, ap, inl, inr, subst, sym, ℕ}
use Rattle.std.specs.Option.{unwrap_or}
use Rattle.std.specs.Prelude.{is_some}

-- For calls of functions (machine/functions.rt): what a text makes of the result. An item puts the bytes of its value, if it has one; a
-- test asks whether it has one.
-- Names: `F`: what is known of the outside. `C`: what the text is run for (switches, texts). `s`, `t`, `u`: the machine (what has been cut,
-- and the world) before, between and after steps. `holds`: whether the test holds. `after_arguments`: the end of arguments, and what is
-- done with their words after it. `run`: runs a step after what has been cut, in its world. `call_step`: calls the function of this name
-- with these words. `bytes`: the bytes of a word that is open, or of a new one. `give`: a value, with no atom and no change of the world.
-- `value_step`: the bytes of its value, if it has one. `has_value`: whether the function of this name gives a value for these words.

-- a function's arguments have ended, in a cut of their own; `outer` is the cut around them
module _ (F : Facts) (C : Context) (outer : Cut) (name : List ℕ) (s : Machine) where
  -- the value of a call, at the end of its arguments
  value_is : after_arguments F C outer (value_step F C name) s
      ≡ (after_arguments F C outer (call_step F C name) s >>- λ r. run F C r.1 (bytes (unwrap_or r.0 [])))
  value_is = after_then F C outer (call_step F C name) (λ given. bytes (unwrap_or given [])) s

  -- the answer of a test by a function, at the end of its arguments: whether it has a value
  holds_is : after_arguments F C outer (has_value F C name) s
      ≡ (after_arguments F C outer (call_step F C name) s >>- λ r. run F C r.1 (give (is_some r.0)))
  holds_is = after_then F C outer (call_step F C name) (λ given. give (is_some given)) s

  -- where the call of an item's function is refused, so is the item
  pub value_failed : (fault : MachineFault) → (fault ≡ Memory) ⊎ (after_arguments F C outer (call_step F C name) s ≡ Is (Err fault))
      → (fault ≡ Memory) ⊎ (after_arguments F C outer (value_step F C name) s ≡ Is (Err fault))
  value_failed fault (inl memory) = inl memory
  value_failed fault (inr e) = inr (value_is ∙ ap (λ x. x >>- λ r. run F C r.1 (bytes (unwrap_or r.0 []))) e)

  -- where the call of a test's function is refused, so is the test
  pub holds_failed : (fault : MachineFault) → (fault ≡ Memory) ⊎ (after_arguments F C outer (call_step F C name) s ≡ Is (Err fault))
      → (fault ≡ Memory) ⊎ (after_arguments F C outer (has_value F C name) s ≡ Is (Err fault))
  holds_failed fault (inl memory) = inl memory
  holds_failed fault (inr e) = inr (holds_is ∙ ap (λ x. x >>- λ r. run F C r.1 (give (is_some r.0))) e)

  -- the function was called, and gave this
  module _ (t : Machine) (given : Option (List ℕ)) where
    -- where a function gives no value, nothing is put, as the definition says
    pub value_none : given ≡ None → after_arguments F C outer (call_step F C name) s ≡ Is (Ok (given, t))
        → after_arguments F C outer (value_step F C name) s ≡ Is (Ok (tt, t))
    value_none none e =
        value_is ∙ ap (λ x. x >>- λ r. run F C r.1 (bytes (unwrap_or r.0 []))) e
        ∙ ap (λ (o : Option (List ℕ)). run F C t (bytes (unwrap_or o []))) none

    -- a test is true if the function has a value
    pub holds_as : (holds : Bool) → is_some given ≡ holds → after_arguments F C outer (call_step F C name) s ≡ Is (Ok (given, t))
        → after_arguments F C outer (has_value F C name) s ≡ Is (Ok (holds, t))
    holds_as holds is e =
        holds_is ∙ ap (λ x. x >>- λ r. run F C r.1 (give (is_some r.0))) e ∙ ap (λ (b : Bool). run F C t (give b)) is

  -- where a function gives a value, putting its bytes is what the definition says
  pub value_put : (t u : Machine) (given : Option (List ℕ)) (word : List ℕ) → given ≡ Some word
      → after_arguments F C outer (call_step F C name) s ≡ Is (Ok (given, t))
      → (result : Result (Unit {0}) MachineFault) (put : List ℕ) → put ≡ word
      → GivesKnown Memory (λ v. (tt, u)) result (run F C t (bytes put))
      → GivesKnown Memory (λ v. (tt, u)) result (after_arguments F C outer (value_step F C name) s)
  value_put t u given word some e result put same went =
      subst (λ x. GivesKnown Memory (λ v. (tt, u)) result x)
      (ap (λ (w : List ℕ). run F C t (bytes w)) same ∙ sym (ap (λ (o : Option (List ℕ)). run F C t (bytes (unwrap_or o []))) some)
      ∙ sym (ap (λ x. x >>- λ r. run F C r.1 (bytes (unwrap_or r.0 []))) e) ∙ sym value_is) went
