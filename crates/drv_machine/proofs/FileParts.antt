use Rattle.drv_machine.proofs.Files.{filed_runs}
use Rattle.drv_machine.proofs.Laws.{then_then}
use Rattle.drv_machine.proofs.Onward.{one_deeper, step_opened, too_deep}
use Rattle.drv_machine.proofs.Steps.{looked}
use Rattle.drv_machine.specs.Atoms.{brace_step, file_step, item_step, levels_left, starts_file}
use Rattle.drv_machine.specs.Context.{Context}
use Rattle.drv_machine.specs.Code.Running.{Machine, run}
use Rattle.drv_machine.specs.Code.Walking.{Following, Reaches, file_end, file_from, nothing_kept, onward, star_of}
use Rattle.drv_machine.specs.Working.{◌>>-◌, Answer, Levels, Step, look, most_open}
use Rattle.drv_machine.specs.declared.fault.MachineFault.TheVariants.{Memory, SpecTooDeep}
use Rattle.drv_machine.specs.declared.fault.MachineFault.{MachineFault}
use Rattle.drv_machine.specs.declared.walk.Frame.{Frame}
use Rattle.drv_machine.specs.declared.walk.Opened.TheVariants.{File, Inside}
use Rattle.drv_machine.specs.declared.walk.Opened.{Opened}
use Rattle.drv_machine.specs.declared.walk.Walk.{Walk}
use Rattle.drv_syntax.specs.Tree as tree
use Rattle.drv_syntax.specs.Tree.{Brace}
use Rattle.drv_system.specs.Facts.{Facts}
use Rattle.drv_system.specs.Gives.{GivesKnown}
use Rattle.drv_system.specs.Known.{Is}
use Rattle.std.proofs.Common.{◌≡◌, ◌⊎◌, ◌<◌, ◌+◌, ◌-◌, ◌++◌, ◌∙◌, ◌∷◌, [], Bool, Err, List, Ok, Result, ap, false, if◌then◌else◌, inl, inr}
use Rattle.std.proofs.Common.{length, refl, sym, true, ℕ}
use Rattle.std.specs.Prelude.{IfErr, OnOk}

-- For `%@{..}` (filing.rt), which is opened as a file of its words if words of the line came from a response file, and else means what its
-- braces mean.
-- Names: `C`: what the text is run for (switches, texts). `F`: what is known of the outside. `w`, `v`: the walk over the text, before and
-- after (its place and open parts). `s`, `t`: the machine (what has been cut, and the world) before, between and after steps. `end`: a
-- place in the text's list of parts. `given`: what the walk gives in the end. `levels_left`: what items mean where so many parts may still
-- be opened, the next one first. `most_open`: the most parts that are open at one time. `run`: runs a step after what has been cut, in its
-- world. `brace_step`: what braces mean. `starts_file`: a %@ makes a file where words of the line are from one, unless it is in another.
-- `Following text w at step s given`: a step, and then what is left from a place on, give this. `file_end`: the end of a %@ that makes a
-- file.

-- the item that is reached is a %@
module _ (F : Facts) (C : Context) (text : List ℕ) (w : Walk) (s : Machine) (end : ℕ) (brace : Brace) (given : Answer (Unit {0} × Machine))
    (b : Following F C text w end (λ levels star. item_step F C (tree.ArgumentsFile brace) levels star) s given) where
  -- what follows the item in the whole walk
  abbrev k : Unit {0} × Machine → Answer (Unit {0} × Machine)
  k r = onward F C w.star b.rest b.arounds r.1

  -- what the braces of the %@ mean
  abbrev inner : Levels → Step (Unit {0})
  inner inside = brace_step F C brace inside (star_of C w.star)

  -- the frame that the code makes for it
  abbrev frame : Opened → Frame
  frame o = record { opened = o; end = w.end; star = w.star }

  -- what the %@ means: a file of its braces, or the braces
  abbrev chosen : Bool → Levels → Step (Unit {0})
  chosen starts inside = if starts then file_step F C (inner inside) else inner inside

  -- the braces, at the depth of the part and as a file or not, followed by the rest of the walk, give the defined answer
  given_as : (starts : Bool) → starts ≡ starts_file F C s.world → length w.frames < 64
      → (run F C s (chosen starts (levels_left F C (most_open - (length b.arounds + 1)))) >>- k) ≡ given
  given_as starts is h =
      sym (ap (λ levels. run F C s (item_step F C (tree.ArgumentsFile brace) levels (star_of C w.star)) >>- k)
      (one_deeper F C text w s given end _ b h)
      ∙ ap (λ x. x >>- k) (looked F C s (λ m. starts_file F C m.world)
      (λ starts. chosen starts (levels_left F C (most_open - (length b.arounds + 1)))) (look (starts_file F C)) refl
      ∙ ap (λ starts. run F C s (chosen starts (levels_left F C (most_open - (length b.arounds + 1))))) (sym is)))
      ∙ b.same

  -- no file: the braces follow, and nothing at their end
  pub inside_opened : (starts : Bool) → starts ≡ starts_file F C s.world → starts ≡ false → length w.frames < 64 → (v : Walk) → v.end ≡ end
      → v.star ≡ w.star → v.frames ≡ w.frames ++ frame (Inside end) ∷ []
      → Following F C text v end (λ levels star. brace_step F C brace levels star) s given
  inside_opened starts is none h v end_is star_is frames_is =
      step_opened F C text w s given end _ b text (Inside end)
      (tree.pattern [] false) tree.none nothing_kept tt refl refl v frames_is w.star star_is s
      (λ levels star. brace_step F C brace levels star) end_is
      (sym (ap (λ starts. run F C s (chosen starts (levels_left F C (most_open - (length b.arounds + 1)))) >>- k) none)
      ∙ given_as starts is h)

  -- braces that make no file are opened, or the stack refuses the frame
  pub inside_reached : (starts : Bool) → starts ≡ starts_file F C s.world → starts ≡ false
      → (result : Result (Unit {0}) MachineFault) (v : Walk)
      → OnOk result (v ≡ record w { end = end; frames = w.frames ++ frame (Inside end) ∷ [] }) → OnOk result (length w.frames < 64)
      → IfErr result (λ fault. (fault ≡ Memory) ⊎ ((fault ≡ SpecTooDeep) × (length w.frames ≡ 64)))
      → Reaches F C text v end (λ levels star. brace_step F C brace levels star) s given result
  inside_reached starts is none (Ok u) v same h full =
      inside_opened starts is none h v (ap (λ (x : Walk). x.end) same) (ap (λ (x : Walk). x.star) same) (ap (λ (x : Walk). x.frames) same)
  inside_reached starts is none (Err fault) v same h full = too_deep F C text w s given end _ b refl fault full

  -- the %@ makes a file of its words
  module _ (starts : Bool) (is : starts ≡ starts_file F C s.world) (some : starts ≡ true) (h : length w.frames < 64) where
    -- the beginning of a file, its braces, its end, and the rest of the walk give the defined answer
    file_given : ((file_from F C s >>- λ r. run F C r.1 (inner (levels_left F C (most_open - (length b.arounds + 1)))))
        >>- λ q. file_end F C q.1 >>- k) ≡ given
    file_given =
        sym (ap (λ starts. run F C s (chosen starts (levels_left F C (most_open - (length b.arounds + 1)))) >>- k) some
        ∙ ap (λ x. x >>- k) (filed_runs F C s (inner (levels_left F C (most_open - (length b.arounds + 1)))))
        ∙ then_then (file_from F C s >>- λ r. run F C r.1 (inner (levels_left F C (most_open - (length b.arounds + 1)))))
        (λ q. file_end F C q.1) k)
        ∙ given_as starts is h

    -- after the beginning of the file its braces follow, and its end after them
    file_opened : (t : Machine) → file_from F C s ≡ Is (Ok (tt, t)) → (v : Walk) → v.end ≡ end → v.star ≡ w.star
        → v.frames ≡ w.frames ++ frame (File end) ∷ []
        → Following F C text v end (λ levels star. brace_step F C brace levels star) t given
    file_opened t went v end_is star_is frames_is =
        step_opened F C text w s given end _ b text (File end)
        (tree.pattern [] false) tree.none nothing_kept tt refl refl v frames_is w.star star_is t
        (λ levels star. brace_step F C brace levels star) end_is
        (sym (ap (λ x. (x >>- λ r. run F C r.1 (inner (levels_left F C (most_open - (length b.arounds + 1))))) >>- λ q. file_end F C q.1
        >>- k) went) ∙ file_given)

    -- braces that make a file are opened, or the beginning is refused
    pub file_reached : (result : Result (Unit {0}) MachineFault) (t : Machine) → GivesKnown Memory (λ u. (tt, t)) result (file_from F C s)
        → (v : Walk) → v.end ≡ end → v.star ≡ w.star → v.frames ≡ w.frames ++ frame (File end) ∷ []
        → Reaches F C text v end (λ levels star. brace_step F C brace levels star) t given result
    file_reached (Ok u) t went v end_is star_is frames_is = file_opened t went v end_is star_is frames_is
    file_reached (Err fault) t (inl memory) v end_is star_is frames_is = inl memory
    file_reached (Err fault) t (inr e) v end_is star_is frames_is =
        inr (sym file_given ∙ ap (λ x. (x >>- λ r. run F C r.1 (inner (levels_left F C (most_open - (length b.arounds + 1)))))
        >>- λ q. file_end F C q.1 >>- k) e)
