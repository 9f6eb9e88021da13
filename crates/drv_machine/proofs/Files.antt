use Rattle.drv_machine.proofs.FileWords.{Begun, after_break, file_words_as}
use Rattle.drv_machine.proofs.Laws.{all_taken-append, done-following, then_same, then_then}
use Rattle.drv_machine.proofs.Steps.{fails_as, then_fails, then_ok}
use Rattle.drv_machine.specs.Atoms.{draw_with, file_step, filed, named_file}
use Rattle.drv_machine.specs.Context.{Context}
use Rattle.drv_machine.specs.Cutting.{Cut, all_taken, broken, file_begun, file_done, file_words, words_in_file}
use Rattle.drv_machine.specs.Code.Running.{Machine, done, run}
use Rattle.drv_machine.specs.Code.Walking.{file_end, file_from, into_file, out_of_file}
use Rattle.drv_machine.specs.Working.{◌>>-◌, ◌>>=◌, Answer, Atom, Break, FileFrom, FileTo, Goes, Put, Refuses, Step, Waits, Worked, World}
use Rattle.drv_machine.specs.Working.{needs, puts}
use Rattle.drv_machine.specs.declared.fault.MachineFault.TheVariants.{Memory}
use Rattle.drv_machine.specs.declared.fault.MachineFault.{MachineFault}
use Rattle.drv_machine.specs.declared.machine.naming.Drawing.TheVariants.{Anew}
use Rattle.drv_system.specs.Facts.{Facts}
use Rattle.drv_system.specs.Known.{Is, Unasked}
use Rattle.drv_words.specs.Bytes.{at_sign}
use Rattle.drv_words.specs.Response.{response_text}
use Rattle.std.proofs.Common.{◌≡◌, ◌⊎◌, ◌∙◌, ◌++◌, Err, List, [], ◌∷◌, Ok, ap, append_assoc, arith, codes, false, inl, inr, length, map}
use Rattle.std.proofs.Common.{refl, suc, sym, true, ℕ}
use Rattle.std.proofs.lemmas.Bool.Decides.{nat_tests}
use Rattle.std.specs.Prelude.{◌==◌}

-- For `%@{..}` where it makes a file of its words (filing.rt): what its beginning and its end do to the cut, and that `file_step` of the
-- definition is that beginning, the braces and that end (`filed_runs`).
-- Names: `F`: what is known of the outside. `C`: what the text is run for (switches, texts). `s`, `t`, `u`: the machine (what has been cut,
-- and the world) before, between and after steps. `atoms`: what the text gives, from here on. `v`: what the run of a text changes as it
-- goes. `c`: what has been cut so far. `run`: runs a step after what has been cut, in its world. `named_file`: the name of a file with
-- these words takes their place. `all_taken`: atoms, one after another. `done`: what a step gave, with its atoms cut after what has been
-- cut. `file_begun`: the file of a %@ begins. `file_end`: the end of a %@ that makes a file. `then_then`: answers one after another may be
-- joined from the left or from the right.

-- puts the word @PATH that names the file
abbrev named_path : List ℕ → Step (Unit {0})
named_path path = puts (Put at_sign ∷ map Put path ++ Break ∷ [])

-- the beginning and the end of a file
module _ (F : Facts) (C : Context) (s : Machine) where
  -- the beginning: a break, and then the words are those of the file
  pub file_begins : (t u : Machine) → run F C s (puts (Break ∷ [])) ≡ Is (Ok (tt, t)) → u ≡ into_file t → file_from F C s ≡ Is (Ok (tt, u))
  file_begins t u went is = ap (λ x. x >>- λ r. Is (Ok (tt, into_file r.1))) went ∙ ap (λ (m : Machine). Is (Ok (tt, m))) (sym is)

  -- where the break is refused, so is the beginning
  pub no_beginning : (fault : MachineFault) → (fault ≡ Memory) ⊎ (run F C s (puts (Break ∷ [])) ≡ Is (Err fault))
      → (fault ≡ Memory) ⊎ (file_from F C s ≡ Is (Err fault))
  no_beginning fault (inl memory) = inl memory
  no_beginning fault (inr e) = inr (ap (λ x. x >>- λ r. Is (Ok (tt, into_file r.1))) e)

  -- the end: a break, the words of the file are taken, and the file is named in the command around it
  pub file_ends : (t u : Machine) (words : List (List ℕ)) → run F C s (puts (Break ∷ [])) ≡ Is (Ok (tt, t)) → words ≡ words_in_file t.cut
      → u ≡ out_of_file t → run F C u (named_file F C words) ≡ file_end F C s
  file_ends t u words went same is =
      ap (λ (m : Machine). run F C m (named_file F C words)) is
      ∙ ap (λ (ws : List (List ℕ)). run F C (out_of_file t) (named_file F C ws)) same
      ∙ sym (ap (λ x. x >>- λ r. run F C (out_of_file r.1) (named_file F C (words_in_file r.1.cut))) went)

  -- where the break is refused, so is the end
  pub no_end : (fault : MachineFault) → (fault ≡ Memory) ⊎ (run F C s (puts (Break ∷ [])) ≡ Is (Err fault))
      → (fault ≡ Memory) ⊎ (file_end F C s ≡ Is (Err fault))
  no_end fault (inl memory) = inl memory
  no_end fault (inr e) = inr (ap (λ x. x >>- λ r. run F C (out_of_file r.1) (named_file F C (words_in_file r.1.cut))) e)

-- the code's test for no words fails where there is one
pub some_there : (n : ℕ) → (suc n == 0) ≡ false
some_there n = grind (arith, nat_tests)

-- the name of a file of these words is put
module _ (F : Facts) (C : Context) (s : Machine) (words : List (List ℕ)) where
  -- where the file of a %@ has no words, nothing is put in its place
  pub none_filed : true ≡ (length words == 0) → run F C s (named_file F C words) ≡ Is (Ok (tt, s))
  none_filed none = by words none
    where
      by : (ws : List (List ℕ)) → true ≡ (length ws == 0) → run F C s (named_file F C ws) ≡ Is (Ok (tt, s))
      by [] e = refl
      by (w ∷ ws) e = absurd (let never : true ≡ false = e ∙ some_there (length ws) in cc)

  -- the file has words, and these contents
  module _ (some : false ≡ (length words == 0)) (contents : List ℕ) (same : contents ≡ response_text words) where
    -- a file with words is named: a name is drawn, and the word @NAME is put
    drawn_then : run F C s (named_file F C words) ≡ run F C s (draw_with F C contents Anew (codes ".args") >>= named_path)
    drawn_then = by words some same
      where
        by : (ws : List (List ℕ)) → false ≡ (length ws == 0) → contents ≡ response_text ws
            → run F C s (named_file F C ws) ≡ run F C s (draw_with F C contents Anew (codes ".args") >>= named_path)
        by [] e is = absurd (let never : false ≡ true = e in cc)
        by (w ∷ ws) e is = ap (λ text. run F C s (draw_with F C text Anew (codes ".args") >>= named_path)) (sym is)

    -- after the name was drawn, its word is put
    pub file_drawn : (path bytes : List ℕ) (t : Machine) → bytes ≡ path
        → run F C s (draw_with F C contents Anew (codes ".args")) ≡ Is (Ok (path, t))
        → run F C t (puts (Put at_sign ∷ map Put bytes ++ Break ∷ [])) ≡ run F C s (named_file F C words)
    file_drawn path bytes t same_bytes e = ap (λ p. run F C t (named_path p)) same_bytes
        ∙ sym (drawn_then ∙ then_ok F C s (draw_with F C contents Anew (codes ".args")) named_path path t e)

    -- where no name can be drawn, the end is refused
    pub not_drawn : (fault : MachineFault) → (fault ≡ Memory) ⊎ (run F C s (draw_with F C contents Anew (codes ".args")) ≡ Is (Err fault))
        → (fault ≡ Memory) ⊎ (run F C s (named_file F C words) ≡ Is (Err fault))
    not_drawn fault e = fails_as (run F C s (draw_with F C contents Anew (codes ".args") >>= named_path)) (run F C s (named_file F C words))
        (then_fails F C s (draw_with F C contents Anew (codes ".args")) named_path fault e) (λ stopped. drawn_then ∙ stopped)

-- the braces of a %@ between the beginning and the end of its file
module _ (F : Facts) (C : Context) where
  -- the world where words go to the command again
  abbrev outside : World → World
  outside v = record v { is_in_file = false }

  -- the state that the end of a file leaves
  abbrev ended : World → Cut → Answer (Unit {0} × Machine)
  ended v d = Is (Ok (tt, record { cut = d; world = v }))

  -- the file is named after its words, in the command around it
  abbrev names_file : World → Cut → Answer (Unit {0} × Machine)
  names_file v d = done F C (file_done d) (named_file F C (words_in_file d) (outside v))

  -- the file is named after the words that were cut, as after those that the definition cuts
  named_after : (v : World) (atoms : List Atom) (x : Answer Cut) → file_words F C atoms ≡ (x >>- λ d. Is (Ok (words_in_file d)))
      → (x >>- λ d. done F C (file_done d) ((needs (file_words F C atoms) >>= named_file F C) (outside v))) ≡ (x >>- names_file v)
  named_after v atoms (Is (Ok d)) e =
      ap (λ y. done F C (file_done d) ((needs y >>= named_file F C) (outside v))) e
      ∙ done-following F C (file_done d) [] (named_file F C (words_in_file d) (outside v))
  named_after v atoms (Is (Err fault)) e = refl
  named_after v atoms Unasked e = refl

  -- the definition cuts the words of the file from nothing; the code cuts them where the text is: both give the same
  words_filed : (v : World) (atoms : List Atom) (b : Cut) → Begun b
      → (all_taken F C b (atoms ++ Break ∷ FileTo ∷ []) >>- λ d. done F C d ((needs (file_words F C atoms) >>= named_file F C) (outside v)))
      ≡ ((all_taken F C b atoms >>- ended v) >>- λ q. file_end F C q.1)
  words_filed v atoms b e =
      ap (λ xs. all_taken F C b xs >>- λ d. done F C d ((needs (file_words F C atoms) >>= named_file F C) (outside v)))
      (sym (append_assoc atoms (Break ∷ []) (FileTo ∷ [])))
      ∙ ap (λ x. x >>- λ d. done F C d ((needs (file_words F C atoms) >>= named_file F C) (outside v)))
      (all_taken-append F C b (atoms ++ Break ∷ []) (FileTo ∷ []))
      ∙ then_then (all_taken F C b (atoms ++ Break ∷ [])) (λ d. all_taken F C d (FileTo ∷ []))
      (λ d. done F C d ((needs (file_words F C atoms) >>= named_file F C) (outside v)))
      ∙ named_after v atoms (all_taken F C b (atoms ++ Break ∷ [])) (file_words_as F C b e atoms)
      ∙ ap (λ x. x >>- names_file v) (all_taken-append F C b atoms (Break ∷ []))
      ∙ then_then (all_taken F C b atoms) (λ d. all_taken F C d (Break ∷ [])) (names_file v)
      ∙ then_same (all_taken F C b atoms) (λ d. all_taken F C d (Break ∷ []) >>- names_file v)
      (λ d. file_end F C (record { cut = d; world = v }))
      (λ d. sym (then_then (all_taken F C d (Break ∷ [])) (ended v)
      (λ r. run F C (out_of_file r.1) (named_file F C (words_in_file r.1.cut)))))
      ∙ sym (then_then (all_taken F C b atoms) (ended v) (λ q. file_end F C q.1))

  -- what the definition gives of a %@ is its beginning, its braces and its end
  filed_done : (c : Cut) (work : Worked (Unit {0})) → done F C c (filed F C work)
      ≡ (broken F C c >>- λ d. done F C (file_begun d) work >>- λ q. file_end F C q.1)
  filed_done c (Goes atoms u v) =
      done-following F C c (Break ∷ FileFrom ∷ atoms ++ Break ∷ FileTo ∷ []) ((needs (file_words F C atoms) >>= named_file F C) (outside v))
      ∙ then_then (broken F C c) (λ d. all_taken F C (file_begun d) (atoms ++ Break ∷ FileTo ∷ []))
      (λ d. done F C d ((needs (file_words F C atoms) >>= named_file F C) (outside v)))
      ∙ after_break F C c (λ d. all_taken F C (file_begun d) (atoms ++ Break ∷ FileTo ∷ [])
      >>- λ e. done F C e ((needs (file_words F C atoms) >>= named_file F C) (outside v)))
      (λ d. done F C (file_begun d) (Goes atoms u v) >>- λ q. file_end F C q.1) (λ d begun. words_filed v atoms (file_begun d) begun)
  filed_done c (Refuses atoms fault) =
      then_then (broken F C c) (λ d. all_taken F C (file_begun d) atoms) (λ d. Is (Err fault))
      ∙ then_same (broken F C c) (λ d. all_taken F C (file_begun d) atoms >>- λ e. Is (Err fault))
      (λ d. done F C (file_begun d) (Refuses atoms fault) >>- λ q. file_end F C q.1)
      (λ d. sym (then_then (all_taken F C (file_begun d) atoms) (λ e. Is (Err fault)) (λ q. file_end F C q.1)))
  filed_done c (Waits atoms) =
      then_then (broken F C c) (λ d. all_taken F C (file_begun d) atoms) (λ d. Unasked)
      ∙ then_same (broken F C c) (λ d. all_taken F C (file_begun d) atoms >>- λ e. Unasked)
      (λ d. done F C (file_begun d) (Waits atoms) >>- λ q. file_end F C q.1)
      (λ d. sym (then_then (all_taken F C (file_begun d) atoms) (λ e. Unasked) (λ q. file_end F C q.1)))

  -- the step of a %@ that makes a file, as it is run, is its beginning, its braces and its end
  pub filed_runs : (s : Machine) (step : Step (Unit {0}))
      → run F C s (file_step F C step) ≡ ((file_from F C s >>- λ r. run F C r.1 step) >>- λ q. file_end F C q.1)
  filed_runs s step = filed_done s.cut (step (record s.world { is_in_file = true })) ∙ by (broken F C s.cut)
    where
      -- Plan: by what the end of the word before the file gives; `begun` is the machine where a file begins.
      begun : Unit {0} × Machine → Answer (Unit {0} × Machine)
      begun r = Is (Ok (tt, into_file r.1))

      by : (x : Answer Cut) → (x >>- λ d. done F C (file_begun d) (step (record s.world { is_in_file = true })) >>- λ q. file_end F C q.1)
          ≡ (((((x >>- λ d. Is (Ok d)) >>- ended s.world) >>- begun) >>- λ r. run F C r.1 step) >>- λ q. file_end F C q.1)
      by (Is (Ok d)) = refl
      by (Is (Err fault)) = refl
      by Unasked = refl
