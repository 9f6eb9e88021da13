use Rattle.drv_machine.proofs.Standing.{First, PartsLeft, first_of, stand_grows, stands_after}
use Rattle.drv_machine.proofs.Steps.{then_err, then_ok}
use Rattle.drv_machine.specs.Atoms.{first_true, judged, truth, turned}
use Rattle.drv_machine.specs.Code.ByKind.{AskedTest, TrueTest, asked_step, is_call}
use Rattle.drv_machine.specs.Context.{Context}
use Rattle.drv_machine.specs.Code.Running.{Machine, run}
use Rattle.drv_machine.specs.Code.Standing.{PartAt, Stands}
use Rattle.drv_machine.specs.Working.{Answer, Levels, give}
use Rattle.drv_machine.specs.declared.fault.MachineFault.TheVariants.{Memory}
use Rattle.drv_machine.specs.declared.fault.MachineFault.{MachineFault}
use Rattle.drv_syntax.specs.Labels.{Label, asked_nodes, label_at, labels_of, test_label, test_nodes}
use Rattle.drv_syntax.specs.Parsed.{tree_of}
use Rattle.drv_syntax.specs.Tokens.{tokens_of}
use Rattle.drv_syntax.specs.Tree as tree
use Rattle.drv_syntax.specs.Tree.{Asked, Items, Span, Tests}
use Rattle.drv_syntax.specs.declared.token.Token.{Token}
use Rattle.drv_syntax.specs.declared.token.TokenKind.TheVariants as kinds
use Rattle.drv_system.specs.Facts.{Facts}
use Rattle.drv_system.specs.Known.{Is}
use Rattle.std.proofs.Common.{◌≡◌, ◌⊎◌, ◌<◌, ◌≤◌, ◌+◌, ◌∙◌, Bool, Err, List, Ok, Some, ap, arith, false, if◌then◌else◌, inl, inr, not, refl}
use Rattle.std.proofs.Common.{slice_get, subst, sym, true, ℕ}
use mathlib.Core.Bool.{beq}

-- For `first_true` (asking.rt): the tests of an alternative are judged one after another, up to the first that is true, or that is by a
-- function, whose arguments must be processed first (`AskedTest`). `TestsLeft` is the invariant of that loop.
-- Names: `C`: what the text is run for (switches, texts). `at`, `end`: places in the text's list of parts. `negated`: whether the test has
-- a `!`. `F`: what is known of the outside. `s`, `u`: the machine (what has been cut, and the world) before, between and after steps.
-- `holds`: whether the test holds. `asked`: what the test asks. `levels`: what items mean after each part that may still be opened. `star`:
-- the value of `%*`. `run`: runs a step after what has been cut, in its world. `tree_of`: the tree of a text. `label_at`: the label of the
-- part at this place of the list. `turned negated holds`: the answer of a test, its ! considered. In equations `n` is that of the code's
-- `negated`, `e` that of its answer. `test_label`: the label of a test, with a ! or without. `asked_step`: what a test asks, its ! aside.
-- `is_call`: the label is that of a test by a function. `test_nodes`: the parts that the tests of an alternative are. `f`: the first test
-- that is left. `b`: a test's value, so that a lemma can go by both cases.

-- a test that is not by a function is answered at once, by its label
pub asked_is : (F : Facts) (C : Context) (negated : Bool) (asked : Asked) (levels : Levels) (star : List ℕ)
    → is_call (test_label negated asked) ≡ false → truth F C asked levels star ≡ asked_step C (test_label negated asked)
asked_is F C negated (tree.HasSwitch (tree.pattern word starred)) levels star e = refl
asked_is F C negated (tree.HasSuffix word) levels star e = refl
asked_is F C negated (tree.HasLanguage word) levels star e = refl
asked_is F C negated (tree.HasResult name items) levels star e = absurd cc

-- a test whose label says so is by a function
result_asked : (negated : Bool) (asked : Asked) → is_call (test_label negated asked) ≡ true
    → (name : List ℕ) × (items : Items) × (asked ≡ tree.HasResult name items)
result_asked negated (tree.HasSwitch (tree.pattern word starred)) e = absurd cc
result_asked negated (tree.HasSuffix word) e = absurd cc
result_asked negated (tree.HasLanguage word) e = absurd cc
result_asked negated (tree.HasResult name items) e = (name, items, refl)

-- the first of the tests at a place, and the others
pub record FrontTest (text : List ℕ) (at : ℕ) (tests : Tests) (end : ℕ) : Type 0 where
  pub span : Span
  pub negated : Bool
  pub asked : Asked
  pub others : Tests
  pub is : tests ≡ tree.test span negated asked others
  pub first : First text at kinds.Test (test_label negated asked) (asked_nodes asked) (test_nodes others) end

-- where the place is before the end of the tests, a test is there: the loop of `first_true` may ask it
pub front_test : (text : List ℕ) (at : ℕ) (tests : Tests) (end : ℕ) → at < end → Stands text at (test_nodes tests) end
    → FrontTest text at tests end
front_test text at tree.no_test end h e = absurd (omega (arith, h, e))
front_test text at (tree.test span negated asked others) end h s =
    record { span = span; negated = negated; asked = asked; others = others; is = refl; first = first_of s }

-- where the place is at the end of the tests, no test is left: the loop of `first_true` ends
pub no_tests_left : (text : List ℕ) (at : ℕ) (tests : Tests) (end : ℕ) → end ≤ at → Stands text at (test_nodes tests) end
    → tests ≡ tree.no_test
no_tests_left text at tree.no_test end h s = refl
no_tests_left text at (tree.test span negated asked others) end h (next, part, within, following) =
    absurd (omega (arith, h, part.later, stand_grows _ _ next (test_nodes others) end following))

-- a test that is not by a function, and those after it
module _ (F : Facts) (C : Context) (s u : Machine) (span : Span) (negated : Bool) (asked : Asked) (others : Tests) (levels : Levels)
    (star : List ℕ) (plain : is_call (test_label negated asked) ≡ false) where
  -- a test that is answered, and those after it if it is false
  test_answers : (holds : Bool) → run F C s (asked_step C (test_label negated asked)) ≡ Is (Ok (holds, u))
      → run F C s (first_true F C (tree.test span negated asked others) levels star)
      ≡ run F C u (judged F C negated asked others levels star holds)
  test_answers holds e = then_ok F C s (truth F C asked levels star) (judged F C negated asked others levels star) holds u
      (ap (run F C s) (asked_is F C negated asked levels star plain) ∙ e)

  -- a test that is not by a function, and is refused, refuses the tests
  pub test_refuses : (fault : MachineFault) → run F C s (asked_step C (test_label negated asked)) ≡ Is (Err fault)
      → run F C s (first_true F C (tree.test span negated asked others) levels star) ≡ Is (Err fault)
  test_refuses fault e = then_err F C s (truth F C asked levels star) (judged F C negated asked others levels star) fault
      (ap (run F C s) (asked_is F C negated asked levels star plain) ∙ e)

  -- a test that is true is the first true one of the tests from it on
  pub test_is_true : (holds : Bool) → run F C s (asked_step C (test_label negated asked)) ≡ Is (Ok (holds, u)) → turned negated holds ≡ true
      → run F C s (first_true F C (tree.test span negated asked others) levels star) ≡ Is (Ok (Some asked, u))
  test_is_true holds e t = test_answers holds e ∙ ap (λ b. run F C u (if b then give (Some asked) else first_true F C others levels star)) t

  -- where a test is false, the first true one is that of the tests after it
  pub test_is_false : (holds : Bool) → run F C s (asked_step C (test_label negated asked)) ≡ Is (Ok (holds, u))
      → turned negated holds ≡ false
      → run F C s (first_true F C (tree.test span negated asked others) levels star) ≡ run F C u (first_true F C others levels star)
  test_is_false holds e t = test_answers holds e ∙ ap
      (λ b. run F C u (if b then give (Some asked) else first_true F C others levels star)) t

-- an answer that is turned round differs from the one that isn't
turned_is : (holds negated : Bool) → turned negated holds ≡ not (beq holds negated)
turned_is true true = refl
turned_is true false = refl
turned_is false true = refl
turned_is false false = refl

-- a test's label says whether it has a !
negated_is : (negated : Bool) (asked : Asked) → (test_label negated asked).negated ≡ negated
negated_is negated (tree.HasSwitch (tree.pattern word starred)) = refl
negated_is negated (tree.HasSuffix word) = refl
negated_is negated (tree.HasLanguage word) = refl
negated_is negated (tree.HasResult name items) = refl

-- whether a test is true, its ! considered, as the code computes it
pub negated_kept : (kept : Bool) (asked : Asked) (text : List ℕ) (at : ℕ) (holds negated b : Bool)
    → negated ≡ (label_at (tree_of text) at).negated → label_at (tree_of text) at ≡ test_label kept asked → not (beq holds negated) ≡ b
    → turned kept holds ≡ b
negated_kept kept asked text at holds negated b n label e =
    ap (λ m. turned m holds) (sym (negated_is kept asked) ∙ ap (λ (l : Label). l.negated) (sym label) ∙ sym n) ∙ turned_is holds negated ∙ e

-- the invariant of the loop over tests: those at `at`, judged from the present state, give what all gave from the state before
abbrev pub TestsLeft : Facts → Context → List ℕ → Machine → Machine → ℕ → ℕ → Tests → Levels → List ℕ → Type 0
TestsLeft F C text s t at end tests levels star = PartsLeft test_nodes text at end
    (λ rest. run F C t (first_true F C rest levels star) ≡ run F C s (first_true F C tests levels star))

-- a test is left at place `at`: s is the state before the loop, v the present one
module _ (F : Facts) (C : Context) (text : List ℕ) (s v : Machine) (at end : ℕ) (h : at < end) (tests : Tests) (levels : Levels)
    (star : List ℕ) (left : TestsLeft F C text s v at end tests levels star) where
  -- whether the first test is true, its ! considered, as the code computes it
  turned_at : (f : FrontTest text at left.rest end) (holds negated b : Bool) → negated ≡ (label_at (tree_of text) at).negated
      → not (beq holds negated) ≡ b → turned f.negated holds ≡ b
  turned_at f holds negated b n e =
      ap (λ m. turned m holds) (sym (negated_is f.negated f.asked) ∙ ap (λ (l : Label). l.negated) (sym f.first.part.label_is) ∙ sym n)
      ∙ turned_is holds negated ∙ e

  -- the answer of the first test, by its label
  asks_at : (f : FrontTest text at left.rest end) (given : Answer (Bool × Machine))
      → run F C v (asked_step C (label_at (tree_of text) at)) ≡ given → run F C v (asked_step C (test_label f.negated f.asked)) ≡ given
  asks_at f given e = ap (λ l. run F C v (asked_step C l)) (sym f.first.part.label_is) ∙ e

  -- what all tests give from the state before the loop, those that are left give from the present one
  from_rest : (f : FrontTest text at left.rest end) → run F C s (first_true F C tests levels star)
      ≡ run F C v (first_true F C (tree.test f.span f.negated f.asked f.others) levels star)
  from_rest f = sym left.same ∙ ap (λ ts. run F C v (first_true F C ts levels star)) f.is

  -- whether the first test is by a function, by its label
  plain_at : (f : FrontTest text at left.rest end) (b : Bool) → is_call (label_at (tree_of text) at) ≡ b
      → is_call (test_label f.negated f.asked) ≡ b
  plain_at f b e = ap is_call (sym f.first.part.label_is) ∙ e

  -- here is a test by a function: the loop stops at it
  pub found_asks : is_call (label_at (tree_of text) at) ≡ true → AskedTest F C text end s v at tests levels star
  found_asks e =
      let f = front_test text at left.rest end h left.stands in
      let r = result_asked f.negated f.asked (plain_at f true e) in record {
        negated = f.negated;
        name = r.0;
        arguments = r.1;
        others = f.others;
        next = f.first.next;
        part = subst (λ (a : Asked). PartAt (tokens_of (tree_of text)) (labels_of (tree_of text)) at kinds.Test
            (test_label f.negated a) f.first.next) r.2 f.first.part;
        within = subst (λ (a : Asked). Stands text (at + 1) (asked_nodes a) f.first.next) r.2 f.first.within;
        following = f.first.following;
        gives = from_rest f ∙ ap (λ (a : Asked). run F C v (first_true F C (tree.test f.span f.negated a f.others) levels star)) r.2;
      }

  -- here is a test that is true: the loop stops at it
  pub found_true : (plain : is_call (label_at (tree_of text) at) ≡ false) (u : Machine) (holds negated : Bool)
      → negated ≡ (label_at (tree_of text) at).negated → run F C v (asked_step C (label_at (tree_of text) at)) ≡ Is (Ok (holds, u))
      → not (beq holds negated) ≡ true → TrueTest F C text s u at (first_true F C tests levels star)
  found_true plain u holds negated n e t =
      let f = front_test text at left.rest end h left.stands in record {
        negated = f.negated;
        asked = f.asked;
        label_is = f.first.part.label_is;
        gives = from_rest f ∙ test_is_true F C v u f.span f.negated f.asked f.others levels star (plain_at f false plain) holds
            (asks_at f (Is (Ok (holds, u))) e) (turned_at f holds negated true n t);
      }

  -- here is one that is false: the loop goes on after it
  pub found_false : (plain : is_call (label_at (tree_of text) at) ≡ false) (u : Machine) (holds negated : Bool)
      → negated ≡ (label_at (tree_of text) at).negated → run F C v (asked_step C (label_at (tree_of text) at)) ≡ Is (Ok (holds, u))
      → not (beq holds negated) ≡ false → (token : Token) → slice_get (tokens_of (tree_of text)) at ≡ Some token
      → TestsLeft F C text s u token.next end tests levels star
  found_false plain u holds negated n e t token there =
      let f = front_test text at left.rest end h left.stands in record {
        rest = f.others;
        stands = stands_after f.first token there;
        same = sym (from_rest f ∙ test_is_false F C v u f.span f.negated f.asked f.others levels star (plain_at f false plain) holds
            (asks_at f (Is (Ok (holds, u))) e) (turned_at f holds negated false n t));
      }

  -- where the test at this place is refused, so are the tests
  pub found_refusal : (plain : is_call (label_at (tree_of text) at) ≡ false) (fault : MachineFault)
      → (fault ≡ Memory) ⊎ (run F C v (asked_step C (label_at (tree_of text) at)) ≡ Is (Err fault))
      → (fault ≡ Memory) ⊎ (run F C s (first_true F C tests levels star) ≡ Is (Err fault))
  found_refusal plain fault (inl memory) = inl memory
  found_refusal plain fault (inr e) =
      let f = front_test text at left.rest end h left.stands in
      inr (from_rest f ∙ test_refuses F C v v f.span f.negated f.asked f.others levels star (plain_at f false plain) fault
      (asks_at f (Is (Err fault)) e))
