use Rattle.drv_machine.proofs.NamedTexts.{text_opened}
use Rattle.drv_machine.proofs.Onward.{as_after, leaf}
use Rattle.drv_machine.proofs.RunTurns.{after_run, after_run_is, run_left}
use Rattle.drv_machine.proofs.TurnSteps.{closed}
use Rattle.drv_machine.specs.Atoms.{named}
use Rattle.drv_machine.specs.Code.Running.{Machine}
use Rattle.drv_machine.specs.Code.Walking.{Following, Left}
use Rattle.drv_machine.specs.Context.{Context}
use Rattle.drv_machine.specs.Cutting.{in_word}
use Rattle.drv_machine.specs.Working.{Answer, nothing}
use Rattle.drv_machine.specs.declared.walk.Frame.{Frame}
use Rattle.drv_machine.specs.declared.walk.Opened.TheVariants.{Text}
use Rattle.drv_machine.specs.declared.walk.Walk.{Walk}
use Rattle.drv_syntax.specs.Labels.{Label, labels_of}
use Rattle.drv_syntax.specs.Parsed.{tree_of}
use Rattle.drv_syntax.specs.PlainRuns.{AreBytes}
use Rattle.drv_syntax.specs.Tokens.{tokens_of}
use Rattle.drv_syntax.specs.declared.token.Token.{Token}
use Rattle.drv_system.specs.Facts.{Facts}
use Rattle.std.proofs.Common.{◌≡◌, ◌∙◌, ◌<◌, ◌≤◌, ◌+◌, ◌++◌, ◌==◌, List, [], ◌∷◌, None, Ok, Some, arith, false, length, refl, subst, sym}
use Rattle.std.proofs.Common.{true, ℕ}
use Rattle.std.proofs.lemmas.Bool.Decides.{nat_tests}
use Rattle.std.proofs.lemmas.Option.{slice_get_within}

-- For `open_named_text` (named.rt): a named text of plain bytes alone, put at once, is the text opened, a turn for each byte, and its end.
-- Names: `s`, `t`: the machine (what has been cut, and the world) before, between and after steps. `w`: the walk over the text: its place
-- and the open parts. `at`: a place in the text's list of parts. `F`: what is known of the outside. `C`: what the text is run for
-- (switches, texts). `given`: what the walk gives in the end. `after_run`: the state after a turn for each of these plain bytes. `tree_of`:
-- the tree of a text. `tokens_of`: the tokens of a tree.

-- the state after the bytes of a text were put at once, each counted
pub text_counted : (s t : Machine) (bytes : List ℕ) → false ≡ (length bytes == 0)
    → t ≡ record { cut = in_word s.cut bytes; world = record s.world { items = s.world.items + length bytes } } → t ≡ after_run s bytes
text_counted s t [] some e = absurd cc
text_counted s t (b ∷ bytes) some e = e ∙ sym (after_run_is s b bytes)

-- the parts that are these bytes are among the parts
are_within : (tokens : List Token) (labels : List Label) (place : ℕ) (bytes : List ℕ) → AreBytes tokens labels place bytes
    → place ≤ length tokens → place + length bytes ≤ length tokens
are_within tokens labels place [] are h = omega (arith, h)
are_within tokens labels place (b ∷ bytes) (r, others) h =
    let one : place < length tokens = slice_get_within tokens place r.token r.there in
    let all : place + 1 + length bytes ≤ length tokens = are_within tokens labels (place + 1) bytes others (omega (arith, one)) in
    omega (arith, all)

-- no bytes leave the state as it was
pub none_counted : (s : Machine) (bytes : List ℕ) → true ≡ (length bytes == 0) → s ≡ after_run s bytes
none_counted s [] none = refl
none_counted s (b ∷ bytes) none = absurd (grind (arith, nat_tests, none))

-- a text is opened at a place of another
module _ (F : Facts) (C : Context) (w : Walk) (at : ℕ) (inside : List ℕ) (s : Machine) (given : Answer (Unit {0} × Machine))
    (b : Following F C w.text.now w at (λ levels star. named F C (Some (tree_of inside)) levels) s given) where
  -- the frame of the text
  abbrev frame : Frame
  frame = record { opened = Text w.text at; end = w.end; star = w.star }

  -- the walk in the text, at one of its places
  abbrev within : ℕ → Walk
  within place = record {
    text = w.text;
    at = place;
    end = length (tokens_of (tree_of inside));
    star = None;
    frames = w.frames ++ frame ∷ [];
  }

  -- the text is plain bytes: once they are put, the walk goes on after the item
  pub text_put : length w.frames < 64 → (bytes : List ℕ) → AreBytes (tokens_of (tree_of inside)) (labels_of (tree_of inside)) 0 bytes
      → length (tokens_of (tree_of inside)) ≤ length bytes
      → s.world.items + length bytes ≤ 1000000 → (t : Machine) → t ≡ after_run s bytes
      → Left F C w.text.now (record w { at = at }) t given
  text_put h bytes are whole few t is =
      subst (λ (m : Machine). Left F C w.text.now (record w { at = at }) m given) (sym is)
      (closed inside (within (0 + length bytes)) (omega (arith, whole)) frame w.frames refl F C (after_run s bytes) given ended
      (record w { at = at }) refl refl refl (Left F C w.text.now (record w { at = at }) (after_run s bytes) given)
      (λ p items kept opened after. leaf F C w.text.now (record w { at = at }) (after_run s bytes) given at (λ levels star. nothing)
      (as_after F C w.text.now (record w { at = at }) at (λ levels star. nothing) (after_run s bytes) given after)
      (Ok tt) (after_run s bytes) refl))
    where
      -- after the bytes the walk has nothing left inside, and gives the same
      ended : Left F C inside (within (0 + length bytes)) (after_run s bytes) given
      ended = run_left F C inside given (within 0) s bytes are
          (are_within (tokens_of (tree_of inside)) (labels_of (tree_of inside)) 0 bytes are (omega arith)) few
          (text_opened F C w at inside s given b h (length (tokens_of (tree_of inside))) refl (within 0) refl refl refl refl)
