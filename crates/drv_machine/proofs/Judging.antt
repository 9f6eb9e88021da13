use Rattle.drv_machine.proofs.Arguments.{after_then}
use Rattle.drv_machine.proofs.Laws.{run_then}
use Rattle.drv_machine.proofs.Onward.{after_as, leaf, same_step}
use Rattle.drv_machine.proofs.Standing.{next_at}
use Rattle.drv_machine.proofs.Steps.{then_fails, then_ok}
use Rattle.drv_machine.specs.Atoms.{choices_step, first_true, found_step, has_value, items_step, judged, truth, turned, worked}
use Rattle.drv_machine.specs.Code.ByKind.{AskedTest, TrueTest}
use Rattle.drv_machine.specs.Context.{Context}
use Rattle.drv_machine.specs.Cutting.{Cut}
use Rattle.drv_machine.specs.Code.Running.{Machine, run}
use Rattle.drv_machine.specs.Code.Standing.{Stands}
use Rattle.drv_machine.specs.Code.Walking.{After, AskFits, Following, Kept, arguments_of, asked_on, after_arguments, levels_in, onward}
use Rattle.drv_machine.specs.Code.Walking.{star_of}
use Rattle.drv_machine.specs.Working.{◌>>-◌, ◌>>=◌, Answer, Levels, Step, give}
use Rattle.drv_machine.specs.declared.fault.MachineFault.TheVariants.{Memory}
use Rattle.drv_machine.specs.declared.fault.MachineFault.{MachineFault}
use Rattle.drv_machine.specs.declared.walk.Asking.{Asking}
use Rattle.drv_machine.specs.declared.walk.Walk.{Walk}
use Rattle.drv_syntax.specs.Labels.{Label, label_at, nodes_of, test_label, test_nodes}
use Rattle.drv_syntax.specs.Parsed.{tree_of}
use Rattle.drv_syntax.specs.Stars.{has_star}
use Rattle.drv_syntax.specs.Tokens.{tokens_of}
use Rattle.drv_syntax.specs.Tree as tree
use Rattle.drv_syntax.specs.Tree.{Asked, Items}
use Rattle.drv_syntax.specs.declared.token.Token.{Token}
use Rattle.drv_syntax.specs.declared.token.TokenKind.TheVariants as kinds
use Rattle.drv_system.specs.Facts.{Facts}
use Rattle.drv_system.specs.Known.{Is}
use Rattle.std.proofs.Common.{◌≡◌, ◌⊎◌, ◌+◌, ◌∙◌, Bool, Err, List, None, Ok, Some, ap, arith, false, if◌then◌else◌, inl, inr, refl}
use Rattle.std.proofs.Common.{slice_get, subst, sym, true, ℕ}
use Rattle.std.proofs.lemmas.Option.{slice_get_within}

-- For tests by a function (`close_test` of turns.rt and `answer` of braces.rt): the walk learns the answer at the end of the function's
-- arguments, and then judges this test, those after it and the alternatives after them. `Kept` is what waits meanwhile: the test, the tests
-- and the alternatives after it; `Asking` is the same as places of the list.
-- Names: `C`: what the text is run for (switches, texts). `F`: what is known of the outside. `kept`: what follows arguments: their
-- function, and the test that it answers. `s`, `t`, `u`: the machine (what has been cut, and the world) before, between and after steps.
-- `levels`: what items mean after each part that may still be opened. `star`: the value of `%*`. `w`: the walk over the text: its place and
-- the open parts. `items`: the items of a part. `given`: what the walk gives in the end. `levels_in`: what may be opened in the parts
-- around. `star_of`: the value of %* in the innermost part. `found_step`: an X by what was found of its tests, and the alternatives after
-- it. `first_true`: the first test that is true. `Following text w at step s given`: a step, and then what is left from a place on, give
-- this. `judged`: a test that was answered. `run`: runs a step after what has been cut, in its world.

-- a test by a function: the X that it asks for, and what waits for its answer
module _ (F : Facts) (C : Context) (text : List ℕ) (w : Walk) (items : Items) (kept : Kept) (given : Answer (Unit {0} × Machine)) where
  -- the arguments have ended, and the function was called
  module _ (end : ℕ) (outer : Cut) (s : Machine) (a : After F C text w end
      (λ levels star t. after_arguments F C outer (asked_on F C items kept levels star) t) s given) where
    -- the end of the arguments gives whether the function has a value, and then what that decides
    answer_is : after_arguments F C outer (asked_on F C items kept (levels_in F C a.arounds) (star_of C w.star)) s
        ≡ (after_arguments F C outer (has_value F C kept.name) s
        >>- λ r. run F C r.1 (judged F C kept.negated kept.asked kept.tests (levels_in F C a.arounds) (star_of C w.star) r.0
        >>= found_step F C items kept.choices (levels_in F C a.arounds) (star_of C w.star)))
    answer_is =
        after_then F C outer (has_value F C kept.name) (λ holds. judged F C kept.negated kept.asked kept.tests (levels_in F C a.arounds)
        (star_of C w.star) holds >>= found_step F C items kept.choices (levels_in F C a.arounds) (star_of C w.star)) s

    -- the function was called: what its answer decides follows
    pub answered : (holds : Bool) (t : Machine) → after_arguments F C outer (has_value F C kept.name) s ≡ Is (Ok (holds, t))
        → Following F C text w end (λ levels star. judged F C kept.negated kept.asked kept.tests levels star holds
        >>= found_step F C items kept.choices levels star) t given
    answered holds t went = record {
      rest = a.rest;
      arounds = a.arounds;
      lies = a.lies;
      framed = a.framed;
      same =
          sym (ap (λ x. x >>- λ r. onward F C w.star a.rest a.arounds r.1)
          (answer_is ∙ ap (λ x. x >>- λ r. run F C r.1 (judged F C kept.negated kept.asked kept.tests (levels_in F C a.arounds)
          (star_of C w.star) r.0 >>= found_step F C items kept.choices (levels_in F C a.arounds) (star_of C w.star))) went))
          ∙ a.same;
    }

    -- where the call is refused, so is the text
    pub answer_refused : (fault : MachineFault) → (fault ≡ Memory)
        ⊎ (after_arguments F C outer (has_value F C kept.name) s ≡ Is (Err fault)) → (fault ≡ Memory) ⊎ (given ≡ Is (Err fault))
    answer_refused fault (inl memory) = inl memory
    answer_refused fault (inr e) =
        inr (sym a.same ∙ ap (λ x. x >>- λ r. onward F C w.star a.rest a.arounds r.1) (answer_is
        ∙ ap (λ x. x >>- λ r. run F C r.1 (judged F C kept.negated kept.asked kept.tests (levels_in F C a.arounds) (star_of C w.star) r.0
        >>= found_step F C items kept.choices (levels_in F C a.arounds) (star_of C w.star))) e))

  -- the test was answered with `holds`: what that decides
  module _ (asking : Asking) (fits : AskFits text asking items kept) (holds : Bool) (s : Machine)
      (b : Following F C text w asking.end (λ levels star. judged F C kept.negated kept.asked kept.tests levels star holds
      >>= found_step F C items kept.choices levels star) s given) where
    -- a test that is true, its ! considered: its X is processed
    pub answer_true : turned kept.negated holds ≡ true
        → Following F C text w asking.next (λ levels star. worked F C (Some kept.asked) (has_star items)
        (λ rest inside. items_step F C items inside rest) levels star
        (choices_step F C kept.choices (levels_in F C b.arounds) (star_of C w.star))) s given
    answer_true t =
        after_as F C text w s given asking.end (λ levels star. judged F C kept.negated kept.asked kept.tests levels star holds
        >>= found_step F C items kept.choices levels star) b asking.next (kept.choices, fits.choices_stand)
        (λ levels star. worked F C (Some kept.asked) (has_star items) (λ rest inside. items_step F C items inside rest) levels star
        (choices_step F C kept.choices (levels_in F C b.arounds) (star_of C w.star))) s
        (ap (λ x. x >>- λ r. onward F C w.star b.rest b.arounds r.1)
        (sym (ap (λ holds. run F C s ((if holds then give (Some kept.asked)
        else first_true F C kept.tests (levels_in F C b.arounds) (star_of C w.star))
        >>= found_step F C items kept.choices (levels_in F C b.arounds) (star_of C w.star))) t
        ∙ then_ok F C s (give (Some kept.asked)) (found_step F C items kept.choices (levels_in F C b.arounds) (star_of C w.star))
        (Some kept.asked) s refl)) ∙ b.same)

    -- one that is false: the tests after it are judged
    pub answer_false : turned kept.negated holds ≡ false
        → Following F C text w asking.end (λ levels star. first_true F C kept.tests levels star
        >>= found_step F C items kept.choices levels star) s given
    answer_false t =
        same_step F C text w s given asking.end (λ levels star. judged F C kept.negated kept.asked kept.tests levels star holds
        >>= found_step F C items kept.choices levels star) b
        (λ levels star. first_true F C kept.tests levels star >>= found_step F C items kept.choices levels star) s
        (ap (λ holds. run F C s ((if holds then give (Some kept.asked)
        else first_true F C kept.tests (levels_in F C b.arounds) (star_of C w.star))
        >>= found_step F C items kept.choices (levels_in F C b.arounds) (star_of C w.star))) t)

    -- the test is false: the tests after it are judged
    module _ (c : Following F C text w asking.end (λ levels star. first_true F C kept.tests levels star
        >>= found_step F C items kept.choices levels star) s given) where
      -- the alternatives after the X of the test
      abbrev others : Step (Unit {0})
      others = choices_step F C kept.choices (levels_in F C c.arounds) (star_of C w.star)

      -- one of the later tests is true: P is what the caller proves of the X that it asks for
      pub later_true : (u : Machine) (test : ℕ) → ((levels : Levels) (star : List ℕ)
          → TrueTest F C text s u test (first_true F C kept.tests levels star)) → (P : Type 0)
          → ((negated : Bool) (asked : Asked) (others : Step (Unit {0})) → label_at (tree_of text) test ≡ test_label negated asked
          → Following F C text w asking.next (λ levels star. worked F C (Some asked) (has_star items)
          (λ rest inside. items_step F C items inside rest) levels star others) u given → P) → P
      later_true u test found P go =
          let t = found (levels_in F C c.arounds) (star_of C w.star) in
          go t.negated t.asked others t.label_is
          (after_as F C text w s given asking.end (λ levels star. first_true F C kept.tests levels star
          >>= found_step F C items kept.choices levels star) c asking.next (kept.choices, fits.choices_stand)
          (λ levels star. worked F C (Some t.asked) (has_star items) (λ rest inside. items_step F C items inside rest) levels star others) u
          (ap (λ x. x >>- λ r. onward F C w.star c.rest c.arounds r.1)
          (sym (then_ok F C s (first_true F C kept.tests (levels_in F C c.arounds) (star_of C w.star))
          (found_step F C items kept.choices (levels_in F C c.arounds) (star_of C w.star)) (Some t.asked) u t.gives)) ∙ c.same))

      -- none of them is true: the alternatives after it follow
      pub none_later : (u : Machine) → ((levels : Levels) (star : List ℕ)
          → run F C s (first_true F C kept.tests levels star) ≡ Is (Ok (None, u)))
          → Following F C text w asking.end (λ levels star. choices_step F C kept.choices levels star) u given
      none_later u none =
          same_step F C text w s given asking.end (λ levels star. first_true F C kept.tests levels star
          >>= found_step F C items kept.choices levels star) c (λ levels star. choices_step F C kept.choices levels star) u
          (then_ok F C s (first_true F C kept.tests (levels_in F C c.arounds) (star_of C w.star))
          (found_step F C items kept.choices (levels_in F C c.arounds) (star_of C w.star)) None u
          (none (levels_in F C c.arounds) (star_of C w.star)))

      -- where they are refused, so is the text
      pub later_refused : (fault : MachineFault) → ((levels : Levels) (star : List ℕ)
          → (fault ≡ Memory) ⊎ (run F C s (first_true F C kept.tests levels star) ≡ Is (Err fault)))
          → (fault ≡ Memory) ⊎ (given ≡ Is (Err fault))
      later_refused fault stopped =
          leaf F C text w s given asking.end (λ levels star. first_true F C kept.tests levels star
          >>= found_step F C items kept.choices levels star) c (Err fault) s
          (then_fails F C s (first_true F C kept.tests (levels_in F C c.arounds) (star_of C w.star))
          (found_step F C items kept.choices (levels_in F C c.arounds) (star_of C w.star)) fault
          (stopped (levels_in F C c.arounds) (star_of C w.star)))

      -- one of them is by a function too: its arguments are processed, and `later` is kept meanwhile
      pub later_asks : (u : Machine) (test : ℕ) (at_test : Token) → slice_get (tokens_of (tree_of text)) test ≡ Some at_test
          → ((levels : Levels) (star : List ℕ) → AskedTest F C text asking.start s u test kept.tests levels star) → (P : Type 0)
          → ((arguments : Items) (later : Kept) → AskFits text (record asking { test = test; from = at_test.next }) items later
          → Stands text (test + 1) (nodes_of arguments) at_test.next
          → Following F C text w asking.end (λ levels star. arguments_of F C arguments later.name levels star
          >>= judged F C later.negated later.asked later.tests levels star >>= found_step F C items later.choices levels star) u given
          → P) → P
      later_asks u test at_test is found P go =
          let g = found (levels_in F C c.arounds) (star_of C w.star) in
          let next = next_at text test at_test kinds.Test (test_label g.negated (tree.HasResult g.name g.arguments)) g.next is g.part in
          go g.arguments (record {
            name = g.name;
            negated = g.negated;
            asked = tree.HasResult g.name g.arguments;
            tests =
                g.others;
            choices = kept.choices;
          })
          (record {
            in_list = slice_get_within (tokens_of (tree_of text)) test at_test is;
            name_is = ap (λ (l : Label). l.word) g.part.label_is;
            label_is = g.part.label_is;
            later = omega (arith, next, g.part.later);
            own_is = fits.own_is;
            tests_stand = subst (λ (k : ℕ). Stands text k (test_nodes g.others) asking.start) (sym next) g.following;
            items_stand = fits.items_stand;
            choices_stand = fits.choices_stand;
          })
          (subst (λ (k : ℕ). Stands text (test + 1) (nodes_of g.arguments) k) (sym next) g.within)
          (same_step F C text w s given asking.end (λ levels star. first_true F C kept.tests levels star
          >>= found_step F C items kept.choices levels star) c
          (λ levels star. arguments_of F C g.arguments g.name levels star
          >>= judged F C g.negated (tree.HasResult g.name g.arguments) g.others levels star
          >>= found_step F C items kept.choices levels star) u
          (run_then F C s (first_true F C kept.tests (levels_in F C c.arounds) (star_of C w.star))
          (found_step F C items kept.choices (levels_in F C c.arounds) (star_of C w.star))
          ∙ ap (λ x. x >>- λ r. run F C r.1 (found_step F C items kept.choices (levels_in F C c.arounds) (star_of C w.star) r.0)) g.gives
          ∙ sym (run_then F C u (truth F C (tree.HasResult g.name g.arguments) (levels_in F C c.arounds) (star_of C w.star)
          >>= judged F C g.negated (tree.HasResult g.name g.arguments) g.others (levels_in F C c.arounds) (star_of C w.star))
          (found_step F C items kept.choices (levels_in F C c.arounds) (star_of C w.star)))))
