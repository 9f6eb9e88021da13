use Rattle.drv_machine.proofs.Cutter.{put_failed, put_then}
use Rattle.drv_machine.specs.Atoms.{outputs_step}
use Rattle.drv_machine.specs.Context.{Context, Source}
use Rattle.drv_machine.specs.Code.Running.{Machine, run}
use Rattle.drv_machine.specs.Working.{Atom, Break, known, needs, puts, words}
use Rattle.drv_machine.specs.declared.fault.MachineFault.TheVariants.{Memory}
use Rattle.drv_machine.specs.declared.fault.MachineFault.{MachineFault}
use Rattle.drv_search.specs.Search.{folder_options}
use Rattle.drv_system.specs.Facts.{Facts}
use Rattle.drv_system.specs.Known.{Is}
use Rattle.std.proofs.Common.{◌≡◌, ◌⊎◌, ◌<◌, ◌+◌, ◌∙◌, ◌++◌, Err, List, ◌∷◌, Ok, ap, drop, inl, inr, length, refl, sym, ℕ}
use Rattle.std.proofs.lemmas.List.{drop_more}
use Rattle.std.specs.List.{flat_map}
use Rattle.std.specs.Prelude.{Bool, None, Option, Some, false, get_or, is_some, true}

-- For `%o`, `%D`, `%X` and the like: the words of a list are put one after another, by a loop.
-- Names: `C`: what the text is run for (switches, texts). `s`, `t`: the machine (what has been cut, and the world) before, between and
-- after steps. `F`: what is known of the outside. `run`: runs a step after what has been cut, in its world. `puts`: puts these atoms.

-- a text has no input if the code says so
pub no_input : (input : Option Source) (answer : Bool) → answer ≡ is_some input → answer ≡ false → input ≡ None
no_input None answer says is = refl
no_input (Some source) answer says is = absurd (let yes : true ≡ false = sym says ∙ is in cc)

-- in the link %o puts the outputs
pub link_outputs : (F : Facts) (C : Context) (s : Machine) → C.input ≡ None
    → run F C s (outputs_step F C) ≡ run F C s (puts (Break ∷ words s.world.outputs))
link_outputs F C s e = ap (λ (input : Option Source). run F C s (outputs_step F (record C { input = input }))) e

-- the options for the folders of libraries are known
pub folders_known : (F : Facts) (C : Context) (s : Machine) (options : List (List ℕ)) → folder_options F C.prefixes ≡ Is options
    → run F C s (needs (known (folder_options F C.prefixes))) ≡ Is (Ok (options, s))
folders_known F C s options e = ap (λ k. run F C s (needs (known k))) e

-- the i-th word of a list is put as f says
module _ (F : Facts) (C : Context) (f : List ℕ → List Atom) (s t : Machine) (list : List (List ℕ)) (i : ℕ) (item word : List ℕ)
    (h : i < length list) (is : item ≡ get_or list i item) (same : word ≡ item) where
  -- the atoms of the items from a place on are those of the item there, and then those of the items after it
  front : flat_map f (drop i list) ≡ f word ++ flat_map f (drop (i + 1) list)
  front = ap (flat_map f) (drop_more list i item h ∙ ap (λ w. w ∷ drop (i + 1) list) (sym is ∙ sym same))

  -- the next word was put: those after it are left
  pub next_put : run F C s (puts (f word)) ≡ Is (Ok (tt, t))
      → run F C t (puts (flat_map f (drop (i + 1) list))) ≡ run F C s (puts (flat_map f (drop i list)))
  next_put went = sym (ap (λ atoms. run F C s (puts atoms)) front ∙ put_then F C s t (f word) (flat_map f (drop (i + 1) list)) went)

  -- where the next word is refused, so are all that are left
  pub next_failed : (fault : MachineFault) → (fault ≡ Memory) ⊎ (run F C s (puts (f word)) ≡ Is (Err fault))
      → (fault ≡ Memory) ⊎ (run F C s (puts (flat_map f (drop i list))) ≡ Is (Err fault))
  next_failed fault stopped = by (put_failed F C s (f word) (flat_map f (drop (i + 1) list)) fault stopped)
    where
      by : (fault ≡ Memory) ⊎ (run F C s (puts (f word ++ flat_map f (drop (i + 1) list))) ≡ Is (Err fault))
          → (fault ≡ Memory) ⊎ (run F C s (puts (flat_map f (drop i list))) ≡ Is (Err fault))
      by (inl memory) = inl memory
      by (inr e) = inr (ap (λ atoms. run F C s (puts atoms)) front ∙ e)
