use Rattle.drv_machine.specs.Atoms.{atoms, whole_text}
use Rattle.drv_machine.specs.Context.{Context}
use Rattle.drv_machine.specs.Cutting.{Cut, all_taken, nothing_cut, taken}
use Rattle.drv_machine.specs.Outcome.{cut, finished, outcome}
use Rattle.drv_machine.specs.Code.Running.{Machine, begun, done, run}
use Rattle.drv_machine.specs.Working.{◌>>-◌, ◌>>=◌, Answer, Atom, Goes, Refuses, Step, Waits, Worked, following, follow}
use Rattle.drv_syntax.specs.Tree.{Items}
use Rattle.drv_system.specs.Facts.{Facts}
use Rattle.drv_system.specs.Known.{Is, Unasked}
use Rattle.std.proofs.Common.{◌≡◌, ◌∙◌, ◌++◌, List, [], ◌∷◌, ap, refl, sym}
use Rattle.std.specs.Prelude.{Err, Ok}

-- For all of the walk: steps one after another give what the first and then the second gives. So a list of atoms may be cut in parts, and
-- `outcome`, which cuts the whole list at its end, is what cutting it as it comes gives (`outcome_runs`).
-- Names: `xs`, `ys`: atoms, and those after them. `F`: what is known of the outside. `C`: what the text is run for (switches, texts). `c`:
-- what has been cut so far. `X`, `Y`: any type. `s`: the machine: what has been cut, and the world. `all_taken`: atoms, one after another.
-- `run`: runs a step after what has been cut, in its world. `finished`: the outcome after the whole text. `done`: what a step gave, with
-- its atoms cut after what has been cut. `nothing_cut`: what has been cut before the first atom. `cut`: what stops first in the order of
-- the list counts.

-- answers one after another may be joined from the left or from the right
pub then_then : {X Y Z : Type 0} (first : Answer X) (next : X → Answer Y) (last : Y → Answer Z)
    → ((first >>- next) >>- last) ≡ (first >>- λ x. next x >>- last)
then_then (Is (Ok x)) next last = refl
then_then (Is (Err fault)) next last = refl
then_then Unasked next last = refl

-- what follows an answer may be replaced by what is the same for each value
pub then_same : {X Y : Type 0} (a : Answer X) (next next' : X → Answer Y) → ((x : X) → next x ≡ next' x) → (a >>- next) ≡ (a >>- next')
then_same (Is (Ok x)) next next' e = e x
then_same (Is (Err fault)) next next' e = refl
then_same Unasked next next' e = refl

-- for any answers F of the system, and any C that a text is run for
module _ (F : Facts) (C : Context) where
  -- two lists of atoms are cut one after the other
  pub all_taken-append : (c : Cut) (xs ys : List Atom) → all_taken F C c (xs ++ ys) ≡ (all_taken F C c xs >>- λ d. all_taken F C d ys)
  all_taken-append c [] ys = refl
  all_taken-append c (x ∷ xs) ys =
      then_same (taken F C c x) (λ d. all_taken F C d (xs ++ ys)) (λ d. all_taken F C d xs >>- λ e. all_taken F C e ys)
      (λ d. all_taken-append d xs ys)
      ∙ sym (then_then (taken F C c x) (λ d. all_taken F C d xs) (λ e. all_taken F C e ys))

  -- two lists are cut one after the other, also with something after them
  further : {Y : Type 0} (c : Cut) (xs ys : List Atom) (last : Cut → Answer Y)
      → (all_taken F C c (xs ++ ys) >>- last) ≡ (all_taken F C c xs >>- λ d. all_taken F C d ys >>- last)
  further c xs ys last = ap (λ a. a >>- last) (all_taken-append c xs ys) ∙ then_then (all_taken F C c xs) (λ d. all_taken F C d ys) last

  -- atoms, and then work that goes on, are cut one after the other
  pub done-following : {Y : Type 0} (c : Cut) (xs : List Atom) (work : Worked Y)
      → done F C c (following xs work) ≡ (all_taken F C c xs >>- λ d. done F C d work)
  done-following c xs (Goes ys y w) = further c xs ys (λ d. Is (Ok (y, record { cut = d; world = w })))
  done-following c xs (Refuses ys fault) = further c xs ys (λ d. Is (Err fault))
  done-following c xs (Waits ys) = further c xs ys (λ d. Unasked)

  -- work and then a step that looks at its value, over a cut
  done-follow : {X Y : Type 0} (c : Cut) (work : Worked X) (f : X → Step Y)
      → done F C c (follow work f) ≡ (done F C c work >>- λ r. run F C r.1 (f r.0))
  done-follow c (Goes xs x w) f = done-following c xs (f x w)
      ∙ sym (then_then (all_taken F C c xs) (λ d. Is (Ok (x, record { cut = d; world = w }))) (λ r. run F C r.1 (f r.0)))
  done-follow c (Refuses xs fault) f = sym (then_then (all_taken F C c xs) (λ d. Is (Err fault)) (λ r. run F C r.1 (f r.0)))
  done-follow c (Waits xs) f = sym (then_then (all_taken F C c xs) (λ d. Unasked) (λ r. run F C r.1 (f r.0)))

  -- a step and then another, which looks at its value
  pub run_then : {X Y : Type 0} (s : Machine) (step : Step X) (next : X → Step Y)
      → run F C s (step >>= next) ≡ (run F C s step >>- λ r. run F C r.1 (next r.0))
  run_then s step next = done-follow s.cut (step s.world) next

  -- the cut of a whole text is its work run from nothing cut, and finished
  cut_done : (work : Worked Unit) → cut F C work ≡ (done F C nothing_cut work >>- λ r. finished F C r.1.world r.1.cut)
  cut_done (Goes xs u w) = sym (then_then (all_taken F C nothing_cut xs) (λ d. Is (Ok (u, record { cut = d; world = w })))
      (λ r. finished F C r.1.world r.1.cut))
  cut_done (Refuses xs fault) = sym (then_then (all_taken F C nothing_cut xs) (λ d. Is (Err fault)) (λ r. finished F C r.1.world r.1.cut))
  cut_done (Waits xs) = sym (then_then (all_taken F C nothing_cut xs) (λ d. Unasked) (λ r. finished F C r.1.world r.1.cut))

  -- the definition's outcome of a whole text is what the code's streaming gives
  pub outcome_runs : (items : Items)
      → outcome F C items ≡ (run F C (begun F C) (whole_text F C items) >>- λ r. finished F C r.1.world r.1.cut)
  outcome_runs items = cut_done (atoms F C items)
