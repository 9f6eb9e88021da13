use Rattle.drv_machine.proofs.Onward.{items_opened, one_deeper}
use Rattle.drv_machine.proofs.Standing.{some_same, whole_there}
use Rattle.drv_machine.specs.Atoms.{named}
use Rattle.drv_machine.specs.Context.{Context}
use Rattle.drv_machine.specs.Code.Running.{Machine, run}
use Rattle.drv_machine.specs.Code.Walking.{Following, Left, nothing_kept, onward}
use Rattle.drv_machine.specs.Working.{◌>>-◌, Answer}
use Rattle.drv_machine.specs.declared.walk.Frame.{Frame}
use Rattle.drv_machine.specs.declared.walk.Opened.TheVariants.{Text}
use Rattle.drv_machine.specs.declared.walk.Walk.{Walk}
use Rattle.drv_syntax.specs.Parsed.{tree_of}
use Rattle.drv_syntax.specs.Tokens.{tokens_of}
use Rattle.drv_syntax.specs.Tree as tree
use Rattle.drv_system.specs.Facts.{Facts}
use Rattle.std.proofs.Common.{◌≡◌, ◌<◌, ◌++◌, ◌∙◌, List, [], ◌∷◌, None, Option, Some, ap, false, length, refl, sym, ℕ}
use Rattle.std.specs.Prelude.{option_map}

-- For `%(NAME)` and letters such as %a (named.rt): the text of a name is opened as a part; a name without a text gives nothing.
-- Names: `w`, `v`: the walk over the text, before and after (its place and open parts). `at`, `end`: places in the text's list of parts.
-- `F`: what is known of the outside. `C`: what the text is run for (switches, texts). `s`: the machine: what has been cut, and the world.
-- `given`: what the walk gives in the end. `tree_of`: the tree of a text.

-- where the code finds no text for a name, the context has none
pub none_named : {R : Type 0} (now : R → List ℕ) (found : Option R) (text : Option (List ℕ)) → option_map now found ≡ text → found ≡ None
    → text ≡ None
none_named now None text e n = sym e
none_named now (Some r) text e n = absurd cc

-- where the code finds a text for a name, the context has that text
pub some_named : {R : Type 0} (now : R → List ℕ) (found : Option R) (text : Option (List ℕ)) (r : R) → option_map now found ≡ text
    → found ≡ Some r → text ≡ Some (now r)
some_named now (Some x) text r e n = sym e ∙ ap (λ y. Some (now y)) (some_same x r n)
some_named now None text r e n = absurd cc

-- a text is opened at a place of another
module _ (F : Facts) (C : Context) (w : Walk) (at : ℕ) (inside : List ℕ) (s : Machine) (given : Answer (Unit {0} × Machine))
    (b : Following F C w.text.now w at (λ levels star. named F C (Some (tree_of inside)) levels) s given) where
  -- what follows the item in the whole walk
  abbrev k : Unit {0} × Machine → Answer (Unit {0} × Machine)
  k r = onward F C w.star b.rest b.arounds r.1

  -- the frame that the code makes for the text of a name
  abbrev frame : Frame
  frame = record { opened = Text w.text at; end = w.end; star = w.star }

  -- the walk enters the whole text, and goes on after the item at its end
  pub text_opened : length w.frames < 64 → (end : ℕ) → end ≡ length (tokens_of (tree_of inside)) → (v : Walk) → v.at ≡ 0 → v.end ≡ end
      → v.star ≡ None → v.frames ≡ w.frames ++ frame ∷ []
      → Left F C inside v s given
  text_opened h end long v at_is end_is star_is frames_is =
      items_opened F C w.text.now w s given at _ b inside (Text w.text at)
      (tree.pattern [] false) tree.none nothing_kept tt refl refl v frames_is None star_is s (tree_of inside) 0 end
      (whole_there inside end long) at_is end_is
      (sym (ap (λ levels. run F C s (named F C (Some (tree_of inside)) levels) >>- k) (one_deeper F C w.text.now w s given at _ b h))
      ∙ b.same)
