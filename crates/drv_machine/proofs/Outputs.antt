use Rattle.drv_machine.proofs.Lists.{link_outputs}
use Rattle.drv_machine.specs.Atoms.{outputs_step}
use Rattle.drv_machine.specs.Code.Running.{Machine, run}
use Rattle.drv_machine.specs.Context.{Context}
use Rattle.drv_machine.specs.Cutting.{Cut, all_taken}
use Rattle.drv_machine.specs.Working.{◌>>-◌, Answer, Atom, Break, puts, words}
use Rattle.drv_machine.specs.declared.fault.MachineFault.TheVariants.{Memory}
use Rattle.drv_machine.specs.declared.fault.MachineFault.{MachineFault}
use Rattle.drv_system.specs.Facts.{Facts}
use Rattle.drv_system.specs.Gives.{GivesKnown}
use Rattle.drv_system.specs.Known.{Is, Unasked}
use Rattle.std.proofs.Common.{◌≡◌, ◌∙◌, Err, List, [], ◌∷◌, None, Ok, Result, ap, inl, inr, refl, subst, sym, ℕ}

-- For `%o` (machine/lists.rt): the outputs are taken out of the machine while their words are put, and given back after that, which no atom
-- sees.
-- Names: `s`, `t`: the machine (what has been cut, and the world) before, between and after steps. `C`: what the text is run for (switches,
-- texts). `F`: what is known of the outside. `atoms`: what the text gives, from here on. `a`: an answer: what is known, a refusal, or
-- nothing yet. `run`: runs a step after what has been cut, in its world. `puts`: puts these atoms. `words`: the atoms of words, each whole.

-- the state with these outputs in its world
abbrev pub holding : List (List ℕ) → Machine → Machine
holding outputs s = record s { world = record s.world { outputs = outputs } }

-- the state after a step, with these outputs in it again
abbrev given_back : List (List ℕ) → Unit {0} × Machine → Answer (Unit {0} × Machine)
given_back outputs r = Is (Ok (tt, holding outputs r.1))

-- atoms are put without the outputs, which are given back
held : (F : Facts) (C : Context) (s : Machine) (atoms : List Atom) (outputs : List (List ℕ))
    → run F C (holding outputs s) (puts atoms) ≡ (run F C (holding [] s) (puts atoms) >>- given_back outputs)
held F C s atoms outputs = by (all_taken F C s.cut atoms)
  where
    -- Plan: by what the atoms give; `with_cut` is the machine with that cut and these outputs.
    with_cut : List (List ℕ) → Cut → Answer (Unit {0} × Machine)
    with_cut list d = Is (Ok (tt, record { cut = d; world = record s.world { outputs = list } }))

    by : (a : Answer Cut) → (a >>- λ d. with_cut outputs d) ≡ ((a >>- λ d. with_cut [] d) >>- given_back outputs)
    by (Is (Ok c)) = refl
    by (Is (Err fault)) = refl
    by Unasked = refl

-- atoms that are put while the outputs are taken out leave the state that they leave beside the outputs
pub put_held : (F : Facts) (C : Context) (s t : Machine) (atoms : List Atom) (outputs : List (List ℕ))
    (result : Result (Unit {0}) MachineFault)
    → GivesKnown Memory (λ u. (tt, t)) result (run F C (holding [] s) (puts atoms))
    → GivesKnown Memory (λ u. (tt, holding outputs t)) result (run F C (holding outputs s) (puts atoms))
put_held F C s t atoms outputs (Ok u) is = held F C s atoms outputs ∙ ap (λ a. a >>- given_back outputs) is
put_held F C s t atoms outputs (Err e) (inl memory) = inl memory
put_held F C s t atoms outputs (Err e) (inr is) = inr (held F C s atoms outputs ∙ ap (λ a. a >>- given_back outputs) is)

-- the words that are put while the outputs are taken out are those that %o puts
pub outputs_put : (F : Facts) (C : Context) (s emptied t refilled : Machine) (outs list : List (List ℕ))
    (result : Result (Unit {0}) MachineFault) → C.input ≡ None → outs ≡ s.world.outputs → list ≡ outs → emptied ≡ holding [] s
    → refilled ≡ holding outs t → GivesKnown Memory (λ v. (tt, t)) result (run F C emptied (puts (Break ∷ words list)))
    → GivesKnown Memory (λ v. (tt, refilled)) result (run F C s (outputs_step F C))
outputs_put F C s emptied t refilled outs list result none taken same left back put =
    let out = subst (λ (n : Machine). GivesKnown Memory (λ v. (tt, t)) result (run F C n (puts (Break ∷ words list)))) left put in
    let all = subst (λ (xs : List (List ℕ)). GivesKnown Memory (λ v. (tt, t)) result (run F C (holding [] s) (puts (Break ∷ words xs))))
    (same ∙ taken) out in
    let whole = put_held F C s t (Break ∷ words s.world.outputs) s.world.outputs result all in
    let given = subst (λ (n : Machine). GivesKnown Memory (λ v. (tt, n)) result (run F C s (puts (Break ∷ words s.world.outputs))))
    (sym (back ∙ ap (λ o. holding o t) taken)) whole in
    subst (λ a. GivesKnown Memory (λ v. (tt, refilled)) result a) (sym (link_outputs F C s none)) given
