use Rattle.drv_machine.proofs.Laws.{run_then}
use Rattle.drv_args.specs.declared.line.Switch.{Switch}
use Rattle.drv_machine.specs.Atoms.{start}
use Rattle.drv_machine.specs.Context.{Context, names}
use Rattle.drv_machine.specs.Cutting.{Cut, all_taken, in_word, nothing_cut, pipe_ended, taken, touched}
use Rattle.drv_machine.specs.Code.Running.{Machine, begun, run}
use Rattle.drv_machine.specs.Working.{◌>>-◌, Answer, Atom, Break, Open, Piped, Put, bytes, puts, word_of}
use Rattle.drv_machine.specs.declared.fault.MachineFault.{MachineFault}
use Rattle.drv_machine.specs.declared.fault.MachineFault.TheVariants.{Memory}
use Rattle.drv_system.specs.Facts.{Facts}
use Rattle.drv_system.specs.Gives.{GivesKnown}
use Rattle.drv_system.specs.Known.{Is, Unasked}
use Rattle.std.proofs.Common.{◌≡◌, ◌∙◌, ◌⊎◌, ◌++◌, ◌||◌, List, [], ◌∷◌, Bool, Option, Result, Ok, Err, ap}
use Rattle.std.proofs.Common.{append_assoc, append-nil, false, inl, inr, length, map, refl, subst, sym, true, ℕ}
use Rattle.std.specs.Option.{unwrap_or}
use Rattle.std.specs.Prelude.{◌==◌, None, Some, replicate}

-- For `Machine` (machine.rt), whose calls put atoms one list after another: its cut is that of all atoms so far. `run F C s (puts xs)` is
-- the state after atoms xs are cut in state s, or the refusal that stops it. The lemmas put lists together: what two calls put is what one
-- list of both puts.
-- Names: `s`, `t`, `u`: the machine (what has been cut, and the world) before, between and after steps. `xs`, `ys`: atoms, and those after
-- them. `C`: what the text is run for (switches, texts). `F`: what is known of the outside. `c`: what has been cut so far. `a`: an answer:
-- what is known, a refusal, or nothing yet. `given`: what a step gives. `b`: a byte. `puts`: puts these atoms. `run`: runs a step after
-- what has been cut, in its world. `in_word`: bytes go into the word that is open, or open one. `word_of`: the atoms of a word, if there is
-- one. `bs`: the bytes after `b`.

-- a second touch of a cut changes nothing
pub or_again : (a b : Bool) → ((a || b) || b) ≡ (a || b)
or_again true b = refl
or_again false true = refl
or_again false false = refl

-- bytes put into a word in two parts are in it as if put at once
pub in_word_twice : (c : Cut) (xs ys : List ℕ) → in_word (in_word c xs) ys ≡ in_word c (xs ++ ys)
in_word_twice c xs ys =
    ap (λ word. record (in_word (in_word c xs) ys) { word = Some word }) (append_assoc (unwrap_or c.word []) xs ys)
    ∙ ap (λ stray. record (in_word c (xs ++ ys)) { stray = stray }) (or_again c.stray c.line.piped)

-- for any answers F of the system, and any C that a text is run for
module _ (F : Facts) (C : Context) where
  -- some bytes, atom by atom, go into the open word, or open one
  pub bytes_taken : (c : Cut) (b : ℕ) (bs : List ℕ) → all_taken F C c (map Put (b ∷ bs)) ≡ Is (Ok (in_word c (b ∷ bs)))
  bytes_taken c b [] = refl
  bytes_taken c b (d ∷ ds) = bytes_taken (in_word c (b ∷ [])) d ds ∙ ap (λ e. Is (Ok e)) (in_word_twice c (b ∷ []) (d ∷ ds))

  -- a word that has grown by some bytes, as `put` grows it, is the cut after these bytes as atoms
  pub bytes_put : (s : Machine) (bs word : List ℕ) → false ≡ (length bs == 0) → word ≡ unwrap_or s.cut.word [] ++ bs
      → run F C s (bytes bs) ≡ Is (Ok (tt, record s { cut = record (touched s.cut) { word = Some word } }))
  bytes_put s [] word some is = absurd cc
  bytes_put s (b ∷ bs) word some is = ap (λ a. a >>- ended) (bytes_taken s.cut b bs)
      ∙ ap (λ w. ended (record (touched s.cut) { word = Some w })) (sym is)
    where
      ended : Cut → Answer (Unit {0} × Machine)
      ended d = Is (Ok (tt, record { cut = d; world = s.world }))

  -- a list of two parts is put as the first and then the second
  pub puts_then : (s : Machine) (xs ys : List Atom) → run F C s (puts (xs ++ ys)) ≡ (run F C s (puts xs) >>- λ r. run F C r.1 (puts ys))
  puts_then s xs ys = run_then F C s (puts xs) (λ u. puts ys)

  -- where the first part of a list was put, the second is left to put
  pub put_then : (s t : Machine) (xs ys : List Atom) → run F C s (puts xs) ≡ Is (Ok (tt, t))
      → run F C s (puts (xs ++ ys)) ≡ run F C t (puts ys)
  put_then s t xs ys went = puts_then s xs ys ∙ ap (λ a. a >>- λ r. run F C r.1 (puts ys)) went

  -- where the first part of a list is refused, the whole is
  pub put_failed : (s : Machine) (xs ys : List Atom) (fault : MachineFault) → (fault ≡ Memory) ⊎ (run F C s (puts xs) ≡ Is (Err fault))
      → (fault ≡ Memory) ⊎ (run F C s (puts (xs ++ ys)) ≡ Is (Err fault))
  put_failed s xs ys fault (inl memory) = inl memory
  put_failed s xs ys fault (inr stopped) = inr (puts_then s xs ys ∙ ap (λ a. a >>- λ r. run F C r.1 (puts ys)) stopped)

  -- where the first part was put, what putting the second gives is what the whole gives
  pub put_last : (s t u : Machine) (xs ys : List Atom) (result : Result (Unit {0}) MachineFault) → run F C s (puts xs) ≡ Is (Ok (tt, t))
      → GivesKnown Memory (λ v. (tt, u)) result (run F C t (puts ys))
      → GivesKnown Memory (λ v. (tt, u)) result (run F C s (puts (xs ++ ys)))
  put_last s t u xs ys result went last = subst (λ given. GivesKnown Memory (λ v. (tt, u)) result given)
      (sym (put_then s t xs ys went)) last

  -- a refusal of an answer, by another name for the answer
  pub whole_failed : {given whole : Answer (Unit {0} × Machine)} (fault : MachineFault) → given ≡ whole
      → (fault ≡ Memory) ⊎ (given ≡ Is (Err fault)) → (fault ≡ Memory) ⊎ (whole ≡ Is (Err fault))
  whole_failed fault same (inl memory) = inl memory
  whole_failed fault same (inr stopped) = inr (sym same ∙ stopped)

  -- what an answer gives, by another name for the answer
  pub whole_last : {given whole : Answer (Unit {0} × Machine)} (u : Machine) (result : Result (Unit {0}) MachineFault) → given ≡ whole
      → GivesKnown Memory (λ v. (tt, u)) result given → GivesKnown Memory (λ v. (tt, u)) result whole
  whole_last u result same last = subst (λ g. GivesKnown Memory (λ v. (tt, u)) result g) same last

  -- a switch without an argument puts only the break before it
  pub argument_none : (s t : Machine) (argument : Option (List ℕ)) → argument ≡ None → run F C s (puts (Break ∷ [])) ≡ Is (Ok (tt, t))
      → run F C s (puts (Break ∷ word_of argument)) ≡ Is (Ok (tt, t))
  argument_none s t argument is went = ap (λ o. run F C s (puts (Break ∷ word_of o))) is ∙ went

  -- a switch with one: after the break the argument is put as a word
  pub argument_open : (s t u : Machine) (argument : Option (List ℕ)) (word : List ℕ) → argument ≡ Some word
      → run F C s (puts (Break ∷ [])) ≡ Is (Ok (tt, t))
      → run F C t (puts (Open ∷ [])) ≡ Is (Ok (tt, u)) → run F C u (puts (map Put word ++ Break ∷ []))
      ≡ run F C s (puts (Break ∷ word_of argument))
  argument_open s t u argument word is went opened =
      sym (ap (λ o. run F C s (puts (Break ∷ word_of o))) is
      ∙ ap (λ atoms. run F C s (puts (Break ∷ Open ∷ atoms))) (append-nil (map Put word ++ Break ∷ []))
      ∙ put_then s t (Break ∷ []) (Open ∷ map Put word ++ Break ∷ []) went
      ∙ put_then t u (Open ∷ []) (map Put word ++ Break ∷ []) opened)

  -- a word ends, and then its command with a pipe
  abbrev with_pipe : Unit {0} × Machine → Answer (Unit {0} × Machine)
  with_pipe r = Is (Ok (tt, record r.1 { cut = pipe_ended r.1.cut }))

  -- a pipe is the end of a word, and then that of its command with a pipe
  piped_then : (s : Machine) → run F C s (puts (Piped ∷ [])) ≡ (run F C s (puts (Break ∷ [])) >>- with_pipe)
  piped_then s = by (taken F C s.cut Break)
    where
      -- Plan: by what the end of the word gives; `ended` is the machine with that cut.
      ended : Cut → Answer (Unit {0} × Machine)
      ended d = Is (Ok (tt, record { cut = d; world = s.world }))

      by : (a : Answer Cut) → (((a >>- λ d. Is (Ok (pipe_ended d))) >>- λ d. Is (Ok d)) >>- λ d. ended d)
          ≡ (((a >>- λ d. Is (Ok d)) >>- λ d. ended d) >>- with_pipe)
      by (Is (Ok c)) = refl
      by (Is (Err fault)) = refl
      by Unasked = refl

  -- a pipe: the word was ended, and then the command ended with a pipe
  pub pipe_put : (s t u : Machine) → run F C s (puts (Break ∷ [])) ≡ Is (Ok (tt, t)) → u ≡ record t { cut = pipe_ended t.cut }
      → run F C s (puts (Piped ∷ [])) ≡ Is (Ok (tt, u))
  pipe_put s t u went is = piped_then s ∙ ap (λ a. a >>- with_pipe) went ∙ ap ended (sym is)
    where
      ended : Machine → Answer (Unit {0} × Machine)
      ended v = Is (Ok (tt, v))

  -- where the end of its word is refused, so is a pipe
  pub pipe_failed : (s : Machine) (fault : MachineFault) → (fault ≡ Memory) ⊎ (run F C s (puts (Break ∷ [])) ≡ Is (Err fault))
      → (fault ≡ Memory) ⊎ (run F C s (puts (Piped ∷ [])) ≡ Is (Err fault))
  pipe_failed s fault (inl memory) = inl memory
  pipe_failed s fault (inr stopped) = inr (piped_then s ∙ ap (λ a. a >>- with_pipe) stopped)

  -- the fields that `Machine` is made with are the state before the first item
  pub begun_with : (hidden : List Bool) (ns accumulated outputs : List (List ℕ)) (number : ℕ) → ns ≡ names C
      → hidden ≡ replicate (length ns) false → accumulated ≡ C.accumulated → number ≡ C.number → outputs ≡ C.outputs
      → record {
        cut = nothing_cut;
        world = record {
          hidden = hidden;
          accumulated = accumulated;
          drawn = [];
          number = number;
          outputs =
              outputs;
          notices = [];
          is_in_file = false;
          items = 0;
        };
      } ≡ begun F C
  begun_with hidden ns accumulated outputs number same is eo en eu =
      rw (eo, en, eu) (ap (λ h. record { cut = nothing_cut; world = record (start F C) { hidden = h } })
      (is ∙ ap (λ ms. replicate (length ms) false) same ∙ none_hidden C.switches))
    where
      none_hidden : (ss : List Switch) → replicate (length (map (λ s. s.name) ss)) false ≡ map (λ s. false) ss
      none_hidden [] = refl
      none_hidden (s ∷ ss) = ap (λ hs. false ∷ hs) (none_hidden ss)
