use Rattle.drv_machine.proofs.ChoiceSteps.{front_choice}
use Rattle.drv_machine.proofs.Laws.{run_then, then_then}
use Rattle.drv_machine.proofs.Onward.{one_deeper, step_opened, three}
use Rattle.drv_machine.proofs.Standing.{first_kind, some_same, stand_grows}
use Rattle.drv_machine.specs.Atoms.{brace_step, item_step, levels_left, places, switch_atoms}
use Rattle.drv_machine.specs.Context.{Context}
use Rattle.drv_machine.specs.Cutting.{Cut, inside_done}
use Rattle.drv_machine.specs.Code.Held.{Ends, ended_in}
use Rattle.drv_machine.specs.Code.Running.{Machine, run}
use Rattle.drv_machine.specs.Code.Standing.{Stands}
use Rattle.drv_machine.specs.Code.Walking.{Following, Chooses, Emits, Reaches, nothing_kept, onward, star_of}
use Rattle.drv_machine.specs.Working.{◌>>-◌, ◌>>◌, Answer, Atom, Break, From, Levels, Step, To, most_open, puts}
use Rattle.drv_machine.specs.declared.fault.MachineFault.TheVariants.{Memory}
use Rattle.drv_machine.specs.declared.fault.MachineFault.{MachineFault}
use Rattle.drv_machine.specs.declared.walk.Opened.TheVariants.{Failure}
use Rattle.drv_machine.specs.declared.walk.Walk.{Walk}
use Rattle.drv_syntax.specs.Labels.{brace_nodes}
use Rattle.drv_syntax.specs.Parsed.{tree_of}
use Rattle.drv_syntax.specs.Tokens.{tokens_of}
use Rattle.drv_syntax.specs.Tree as tree
use Rattle.drv_syntax.specs.Tree.{Brace}
use Rattle.drv_syntax.specs.declared.token.Token.{Token}
use Rattle.drv_syntax.specs.declared.token.TokenKind.TheVariants as kinds
use Rattle.drv_system.specs.Facts.{Facts}
use Rattle.drv_system.specs.Gives.{GivesKnown}
use Rattle.drv_system.specs.Known.{Is}
use Rattle.std.proofs.Common.{◌≡◌, ◌<◌, ◌≤◌, ◌+◌, ◌-◌, ◌++◌, ◌∙◌, Err, List, [], ◌∷◌, None, Ok, Option, Result, Some, ap, arith, false, inl}
use Rattle.std.proofs.Common.{inr, length, refl, slice_get, subst, suc, sym, zero, ℕ}
use Rattle.std.specs.List.{filter, flat_map}
use Rattle.std.specs.Prelude.{replicate}

-- For `%W{..}` (failing.rt), whose last word is a failure file: which words end in it, and what the code keeps of them. `ended_in last
-- count fresh` is what the code keeps for the %W that are open: how many, how many of the innermost had no word yet (`fresh`), and the last
-- word, which the others share.
-- Names: `end`, `start`: places in the text's list of parts. `s`, `t`: the machine (what has been cut, and the world) before, between and
-- after steps. `C`: what the text is run for (switches, texts). `F`: what is known of the outside. `w`, `v`: the walk over the text, before
-- and after (its place and open parts). `c`: what has been cut so far. `inside`: for each open `%W` the last word that ended in it.
-- `given`: what the walk gives in the end. `ended_in`: for each %W that is open the last word that ended in it. `puts`: puts these atoms.
-- `run`: runs a step after what has been cut, in its world. `Ends`: the innermost %W ends. `Brace`: the inside of braces. `Stands`: these
-- parts go from one place of a text's flat list up to another. `levels_left`: what items mean where so many parts may still be opened, the
-- next one first.

-- one more %W is open, with no word yet
pub one_more : (last : List ℕ) (count fresh : ℕ) → ended_in last (count + 1) (fresh + 1) ≡ None ∷ ended_in last count fresh
one_more last count fresh =
    let none : Option (List ℕ) = None in
    let one : fresh + 1 ≡ suc fresh = omega arith in
    let same : (count + 1) - (fresh + 1) ≡ count - fresh = omega arith in
    ap (λ k. replicate k none ++ replicate ((count + 1) - (fresh + 1)) (Some last)) one
    ∙ ap (λ k. none ∷ (replicate fresh none ++ replicate k (Some last))) same

-- a number that isn't 0 is more
above_zero : (n : ℕ) → (n ≡ 0 → ⊥) → 0 < n
above_zero zero h = absurd (h refl)
above_zero (suc n) h = omega arith

-- the innermost %W ends, and a word ended in it: the last one
pub ends_last : (last word : List ℕ) (count fresh : ℕ) → (count ≡ 0 → ⊥) → fresh ≡ 0 → word ≡ last
    → Ends (ended_in last count fresh) (ended_in last (count - 1) fresh) (Some word)
ends_last last word count fresh some none is =
    let least = above_zero count some in
    let one : count - 0 ≡ suc (count - 1 - 0) = omega (arith, least) in
    subst (λ (k : ℕ). Ends (ended_in last count k) (ended_in last (count - 1) k) (Some word)) (sym none)
    (subst (λ (k : ℕ). Ends (replicate k (Some last)) (replicate (count - 1 - 0) (Some last)) (Some word)) (sym one) (refl, ap Some is))

-- the innermost %W ends, and no word ended in it
pub ends_fresh : (last : List ℕ) (count fresh : ℕ) → (count ≡ 0 → ⊥) → (fresh ≡ 0 → ⊥)
    → Ends (ended_in last count fresh) (ended_in last (count - 1) (fresh - 1)) None
ends_fresh last count fresh some others =
    let least = above_zero count some in
    let first = above_zero fresh others in
    let a : count ≡ (count - 1) + 1 = omega (arith, least) in
    let b : fresh ≡ (fresh - 1) + 1 = omega (arith, first) in
    let one = ap (λ k. ended_in last k fresh) a ∙ ap (λ k. ended_in last ((count - 1) + 1) k) b ∙ one_more last (count - 1) (fresh - 1) in
    subst (λ (xs : List (Option (List ℕ))). Ends xs (ended_in last (count - 1) (fresh - 1)) None) (sym one) (refl, refl)

-- the end of a %W in which no word ended adds no failure file
none_done : (inside after : List (Option (List ℕ))) (last : Option (List ℕ)) (c : Cut) → Ends inside after last → last ≡ None
    → c.inside ≡ inside → inside_done inside c ≡ record c { inside = after }
none_done [] after last c e n i = ap (λ (ws : List (Option (List ℕ))). record c { inside = ws }) (i ∙ sym e.0)
none_done (None ∷ outer) after last c e n i = ap (λ (ws : List (Option (List ℕ))). record c { inside = ws }) (sym e.0)
none_done (Some word ∷ outer) after last c e n i = let f = sym e.1 ∙ n in absurd cc

-- the end of a %W adds the last word that ended in it to the failure files
some_done : (inside after : List (Option (List ℕ))) (last : Option (List ℕ)) (word : List ℕ) (c : Cut) → Ends inside after last
    → last ≡ Some word
    → inside_done inside c ≡ record c { inside = after; on_failure = c.on_failure ++ word ∷ [] }
some_done [] after last word c e n = let f = sym e.1 ∙ n in absurd cc
some_done (None ∷ outer) after last word c e n = let f = sym e.1 ∙ n in absurd cc
some_done (Some other ∷ outer) after last word c e n =
    ap (λ (ws : List (Option (List ℕ))). record c { inside = ws; on_failure = c.on_failure ++ other ∷ [] }) (sym e.0)
    ∙ ap (λ (w : List ℕ). record c { inside = after; on_failure = c.on_failure ++ w ∷ [] }) (some_same other word (sym e.1 ∙ n))

-- the end of the innermost %W: the words that are kept of the others, and its last word
module _ (F : Facts) (C : Context) (s : Machine) (after : List (Option (List ℕ))) (last : Option (List ℕ))
    (e : Ends s.cut.inside after last) where
  -- the end of a %W, in the state
  abbrev cut_as : Cut → Answer (Unit {0} × Machine)
  cut_as c = Is (Ok (tt, record s { cut = c }))

  -- the state after the end of a %W in which no word ended
  pub closed_none : last ≡ None → run F C s (puts (To ∷ [])) ≡ Is (Ok (tt, record s { cut = record s.cut { inside = after } }))
  closed_none n = ap cut_as (none_done s.cut.inside after last s.cut e n refl)

  -- the state after the end of a %W whose last word is a failure file
  pub closed_some : (word : List ℕ) → last ≡ Some word → (files : List (List ℕ)) → files ≡ s.cut.on_failure ++ word ∷ []
      → run F C s (puts (To ∷ [])) ≡ Is (Ok (tt, record s { cut = record s.cut { inside = after; on_failure = files } }))
  closed_some word n files is =
      ap cut_as (some_done s.cut.inside after last word s.cut e n)
      ∙ ap (λ (ws : List (List ℕ)). cut_as (record s.cut { inside = after; on_failure = ws })) (sym is)

-- no switch is put where no pattern is
none_put : (is : List ℕ) (atoms : ℕ → List Atom) → flat_map atoms (filter (λ i. false) is) ≡ []
none_put [] atoms = refl
none_put (i ∷ is) atoms = none_put is atoms

-- braces without a part put nothing: they mean no alternatives
nothing_stands : (text : List ℕ) (start end : ℕ) (brace : Brace) → end ≤ start → Stands text start (brace_nodes brace) end
    → Chooses text start end brace
nothing_stands text start end (tree.Choose choices) h s = record { choices = choices; stands = s; same = λ F C t levels star. refl }
nothing_stands text start end (tree.Emit []) h s = record {
  choices = tree.no_choice;
  stands = s;
  same = λ F C t levels star. ap (λ atoms. run F C t (puts atoms)) (none_put (places F C) (switch_atoms F C));
}
nothing_stands text start end (tree.Emit (p ∷ patterns)) h (next, part, within, following) =
    absurd (omega (arith, h, part.later, stand_grows _ _ next _ end following))

-- braces without a part mean what no alternatives mean: nothing
pub no_parts : (text : List ℕ) (start end : ℕ) → end ≤ start → (brace : Brace) → Stands text start (brace_nodes brace) end
    → Chooses text start end brace
no_parts text start end h brace s = nothing_stands text start end brace h s

-- braces with a part, whose first token is known
module _ (text : List ℕ) (start end : ℕ) (h : start < end) (token : Token)
    (there : slice_get (tokens_of (tree_of text)) start ≡ Some token) where
  -- braces whose first part is a pattern put switches
  pub are_patterns : token.kind ≡ kinds.Pattern → (brace : Brace) → Stands text start (brace_nodes brace) end → Emits brace
  are_patterns k (tree.Emit patterns) s = (patterns, refl)
  are_patterns k (tree.Choose choices) s =
      let f = front_choice text start choices end h s in
      let same = sym k ∙ first_kind f.first token there in absurd cc

  -- braces whose first part is no pattern have alternatives
  pub are_choices : (token.kind ≡ kinds.Pattern → ⊥) → (brace : Brace) → Stands text start (brace_nodes brace) end
      → Chooses text start end brace
  are_choices never (tree.Choose choices) s = record { choices = choices; stands = s; same = λ F C t levels star. refl }
  are_choices never (tree.Emit []) s = absurd (omega (arith, h, s))
  are_choices never (tree.Emit (p ∷ patterns)) (next, part, within, following) =
      absurd (never (ap (λ (t : Token). t.kind) (some_same token part.token (sym there ∙ part.there)) ∙ part.kind_is))

-- a %W is opened, as the part of the frame that the code makes
module _ (F : Facts) (C : Context) (text : List ℕ) (w : Walk) (s : Machine) (end : ℕ) (brace : Brace) (given : Answer (Unit {0} × Machine))
    (b : Following F C text w end (λ levels star. item_step F C (tree.FailureFile brace) levels star) s given) where
  -- what follows the item in the whole walk
  abbrev k : Unit {0} × Machine → Answer (Unit {0} × Machine)
  k r = onward F C w.star b.rest b.arounds r.1

  -- what the braces of the %W mean
  abbrev inner : Levels → Step (Unit {0})
  inner inside = brace_step F C brace inside (star_of C w.star)

  -- the beginning of the %W, its braces at the depth of the part, and its end, followed by the rest of the walk, give the defined answer
  opens_as : length w.frames < 64 → (run F C s (puts (From ∷ []))
      >>- λ r. run F C r.1 (inner (levels_left F C (most_open - (length b.arounds + 1))) >> puts (Break ∷ To ∷ [])) >>- k) ≡ given
  opens_as h =
      sym (three F C s (puts (From ∷ [])) (inner (levels_left F C (most_open - (length b.arounds + 1)))) (puts (Break ∷ To ∷ [])) k)
      ∙ sym (ap (λ levels. run F C s (item_step F C (tree.FailureFile brace) levels (star_of C w.star)) >>- k)
      (one_deeper F C text w s given end _ b h)) ∙ b.same

  -- after the beginning of the %W its braces follow, and its end after them
  pub failure_opened : length w.frames < 64 → (t : Machine) → run F C s (puts (From ∷ [])) ≡ Is (Ok (tt, t)) → (v : Walk) → v.end ≡ end
      → v.star ≡ w.star → v.frames ≡ w.frames ++ record { opened = Failure end; end = w.end; star = w.star } ∷ []
      → Following F C text v end (λ levels star. brace_step F C brace levels star) t given
  failure_opened h t went v end_is star_is frames_is =
      step_opened F C text w s given end _ b text (Failure end)
      (tree.pattern [] false) tree.none nothing_kept tt refl refl v frames_is w.star star_is t
      (λ levels star. brace_step F C brace levels star) end_is
      (sym (ap (λ x. x >>- k) (run_then F C t (inner (levels_left F C (most_open - (length b.arounds + 1)))) (λ u. puts (Break ∷ To ∷ [])))
      ∙ then_then (run F C t (inner (levels_left F C (most_open - (length b.arounds + 1))))) (λ r. run F C r.1 (puts (Break ∷ To ∷ []))) k)
      ∙ sym (ap (λ x. x >>- λ r. run F C r.1 (inner (levels_left F C (most_open - (length b.arounds + 1))) >> puts (Break ∷ To ∷ [])) >>- k)
      went)
      ∙ opens_as h)

  -- the %W is opened, or its beginning is refused for lack of memory
  pub from_begun : length w.frames < 64 → (result : Result (Unit {0}) MachineFault) (t : Machine)
      → GivesKnown Memory (λ u. (tt, t)) result (run F C s (puts (From ∷ [])))
      → (v : Walk) → v.end ≡ end → v.star ≡ w.star → v.frames ≡ w.frames ++ record { opened = Failure end; end = w.end; star = w.star } ∷ []
      → Reaches F C text v end (λ levels star. brace_step F C brace levels star) t given result
  from_begun h (Ok u) t went v end_is star_is frames_is = failure_opened h t went v end_is star_is frames_is
  from_begun h (Err fault) t (inl memory) v end_is star_is frames_is = inl memory
  from_begun h (Err fault) t (inr e) v end_is star_is frames_is = absurd cc
