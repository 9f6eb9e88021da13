use Rattle.drv_machine.proofs.ChoiceSteps.{ChoicesLeft, as_default, choices_end, each_all, one_asked, one_true, others_there, tests_fail}
use Rattle.drv_machine.proofs.ChoiceSteps.{work_for_each, work_once}
use Rattle.drv_machine.proofs.Lying.{no_skip}
use Rattle.drv_machine.proofs.Onward.{after_as, entered, leaf, same_step}
use Rattle.drv_machine.specs.Atoms.{choices_step, first_true, found_step, items_step, judged, matching, worked}
use Rattle.drv_machine.specs.Code.ByKind.{AskedTest, TrueTest, asks_switch, labelled}
use Rattle.drv_machine.specs.Context.{Context}
use Rattle.drv_machine.specs.Code.Running.{Machine, run}
use Rattle.drv_machine.specs.Code.Standing.{Stands, after_tests, tests_in}
use Rattle.drv_machine.specs.Code.Walking.{AskFits, Following, Kept, Left, Skips, arguments_of, each_from, levels_in, onward, star_of}
use Rattle.drv_machine.specs.Working.{◌>>-◌, ◌>>=◌, Answer, Levels, Step}
use Rattle.drv_machine.specs.declared.fault.MachineFault.TheVariants.{Memory}
use Rattle.drv_machine.specs.declared.fault.MachineFault.{MachineFault}
use Rattle.drv_machine.specs.declared.walk.Walk.{Walk}
use Rattle.drv_syntax.specs.Labels.{Nodes, label_at, nodes_of, test_label, test_nodes}
use Rattle.drv_syntax.specs.Parsed.{tree_of}
use Rattle.drv_syntax.specs.Stars.{has_star}
use Rattle.drv_syntax.specs.Tokens.{tokens_of}
use Rattle.drv_syntax.specs.Tree.{Asked, Choices, Items, Pattern, Tests}
use Rattle.drv_syntax.specs.declared.token.Token.{Token}
use Rattle.drv_system.specs.Facts.{Facts}
use Rattle.drv_system.specs.Known.{Is}
use Rattle.std.proofs.Common.{◌≡◌, ◌⊎◌, ◌&&◌, ◌<◌, ◌≤◌, ◌+◌, ◌∙◌, Bool, Err, List, Ok, Some, ap, false, refl, slice_get, true, ℕ}

-- For `choose` and `enter_alternative` (braces.rt): the walk goes into the alternative that the definition takes. ChoiceSteps says what the
-- brace gives from a state; here that is put before what is left of the walk (`Following`, `Left`).
-- Names: `C`: what the text is run for (switches, texts). `at`, `end`, `start`, `middle`, `test`: places in the text's list of parts. `F`:
-- what is known of the outside. `s`, `t`, `u`: the machine (what has been cut, and the world) before, between and after steps. `levels`:
-- what items mean after each part that may still be opened. `star`: the value of `%*`. `w`: the walk over the text: its place and the open
-- parts. `items`: the items of a part. `given`: what the walk gives in the end. `levels_in`: what may be opened in the parts around.
-- `star_of`: the value of %* in the innermost part. `tree_of`: the tree of a text. `Stands`: these parts go from one place of a text's flat
-- list up to another. `items_step`: items one after another, each counted before it is run. `has_star`: a %* that belongs to the X that
-- these items are. `choices_step`: the first alternative with a true test, or the default.

-- the walk is at a brace with alternatives, of which those from place `at` on are left: s is the state before the loop, t the present one
module _ (F : Facts) (C : Context) (text : List ℕ) (w : Walk) (s t : Machine) (at end : ℕ) (choices : Choices)
    (given : Answer (Unit {0} × Machine)) (b : Following F C text w end (λ levels star. choices_step F C choices levels star) s given)
    (left : (levels : Levels) (star : List ℕ) → ChoicesLeft F C text s t at end choices levels star) where
  -- no alternative is left: the walk goes on after the brace
  pub none_chosen : end ≤ at → Left F C text (record w { at = end }) t given
  none_chosen h =
      leaf F C text w s given end (λ levels star. choices_step F C choices levels star) b (Ok tt) t
      (choices_end F C text s t at end h choices (levels_in F C b.arounds) (star_of C w.star)
      (left (levels_in F C b.arounds) (star_of C w.star)))

  -- an alternative is left: its token, and where its tests end and its items begin (`middle`)
  module _ (h : at < end) (token : Token) (there : slice_get (tokens_of (tree_of text)) at ≡ Some token) (middle : ℕ)
      (first : (nodes : Nodes) → Stands text (at + 1) nodes token.next → Stands text (at + 1) (tests_in nodes) middle)
      (after_first : (nodes : Nodes) → Stands text (at + 1) nodes token.next → Stands text middle (after_tests nodes) token.next) where
    -- the alternatives after the one that is entered are passed over
    skips : Skips text token.next end
    skips = others_there F C text s t at end h choices (levels_in F C b.arounds) (star_of C w.star)
        (left (levels_in F C b.arounds) (star_of C w.star)) token there

    -- an alternative without tests: the walk enters its items
    pub default_chosen : middle ≡ at + 1 → Left F C text (record w { at = middle }) t given
    default_chosen e =
        as_default F C text s t at end h choices (levels_in F C b.arounds) (star_of C w.star)
        (left (levels_in F C b.arounds) (star_of C w.star)) token there middle first after_first
        (λ a. (◌>>-◌ {Y = Unit {0} × Machine} a (λ r. onward F C w.star b.rest b.arounds r.1) ≡ given)
        → Left F C text (record w { at = middle }) t given) e
        (λ items stands same.
        entered F C text w t given items middle token.next stands
        (after_as F C text w s given end (λ levels star. choices_step F C choices levels star) b token.next skips
        (λ levels star. items_step F C items levels star) t same))
        b.same

    -- the alternative has a test
    module _ (some : middle ≡ at + 1 → ⊥) where
      -- where the tests are refused, so is the text
      pub tests_refused : (fault : MachineFault)
          → ((tests : Tests) (levels : Levels) (star : List ℕ) → Stands text (at + 1) (test_nodes tests) middle
          → (fault ≡ Memory) ⊎ (run F C t (first_true F C tests levels star) ≡ Is (Err fault)))
          → (fault ≡ Memory) ⊎ (given ≡ Is (Err fault))
      tests_refused fault stopped =
          leaf F C text w s given end (λ levels star. choices_step F C choices levels star) b (Err fault) t
          (tests_fail F C text s t at end h choices (levels_in F C b.arounds) (star_of C w.star)
          (left (levels_in F C b.arounds) (star_of C w.star)) token there middle first after_first some fault
          (λ tests stands. stopped tests (levels_in F C b.arounds) (star_of C w.star) stands))

      -- a test is true: its X is processed; P is what the caller proves of that
      pub one_chosen : (u : Machine) (test : ℕ) (P : Type 0)
          → ((tests : Tests) (levels : Levels) (star : List ℕ) → Stands text (at + 1) (test_nodes tests) middle
          → TrueTest F C text t u test (first_true F C tests levels star))
          → ((negated : Bool) (asked : Asked) (items : Items) (others : Step (Unit {0}))
          → (label_at (tree_of text) at).holds_star ≡ has_star items → label_at (tree_of text) test ≡ test_label negated asked
          → Stands text middle (nodes_of items) token.next
          → Following F C text w token.next (λ levels star. worked F C (Some asked) (has_star items)
          (λ rest inside. items_step F C items inside rest) levels star others) u given → P) → P
      one_chosen u test P found chosen =
          one_true F C text s t at end h choices (levels_in F C b.arounds) (star_of C w.star)
          (left (levels_in F C b.arounds) (star_of C w.star)) token there middle first after_first some u test
          (λ a. (◌>>-◌ {Y = Unit {0} × Machine} a (λ r. onward F C w.star b.rest b.arounds r.1) ≡ given) → P)
          (λ tests stands. found tests (levels_in F C b.arounds) (star_of C w.star) stands)
          (λ negated asked items others owns label stands same.
          chosen negated asked items others owns label stands
          (after_as F C text w s given end (λ levels star. choices_step F C choices levels star) b token.next skips
          (λ levels star. worked F C (Some asked) (has_star items) (λ rest inside. items_step F C items inside rest) levels star others) u
          same))
          b.same

      -- a test by a function is first: its arguments are processed, and `kept` waits meanwhile
      pub asked_chosen : (u : Machine) (test : ℕ) (at_test : Token) → slice_get (tokens_of (tree_of text)) test ≡ Some at_test
          → (own : Bool) → own ≡ (label_at (tree_of text) at).holds_star → (P : Type 0)
          → ((tests : Tests) (levels : Levels) (star : List ℕ) → Stands text (at + 1) (test_nodes tests) middle
          → AskedTest F C text middle t u test tests levels star)
          → ((items arguments : Items) (kept : Kept) → AskFits text
          (record { test = test; from = at_test.next; start = middle; next = token.next; own = own; end = end }) items kept
          → Stands text (test + 1) (nodes_of arguments) at_test.next
          → Following F C text w end (λ levels star. arguments_of F C arguments kept.name levels star
          >>= judged F C kept.negated kept.asked kept.tests levels star >>= found_step F C items kept.choices levels star) u given → P)
          → P
      asked_chosen u test at_test is own owns P found chosen =
          one_asked F C text s t at end h choices (levels_in F C b.arounds) (star_of C w.star)
          (left (levels_in F C b.arounds) (star_of C w.star)) token there middle first after_first some u test at_test is own owns
          (λ a. (◌>>-◌ {Y = Unit {0} × Machine} a (λ r. onward F C w.star b.rest b.arounds r.1) ≡ given) → P)
          (λ tests stands. found tests (levels_in F C b.arounds) (star_of C w.star) stands)
          (λ items arguments kept fits stands same.
          chosen items arguments kept fits stands
          (after_as F C text w s given end (λ levels star. choices_step F C choices levels star) b end (no_skip text end)
          (λ levels star. arguments_of F C arguments kept.name levels star >>= judged F C kept.negated kept.asked kept.tests levels star
          >>= found_step F C items kept.choices levels star) u same))
          b.same

-- an X whose test is true: once, or for each hit
module _ (F : Facts) (C : Context) (text : List ℕ) (w : Walk) (s : Machine) (test start end : ℕ) (negated : Bool) (asked : Asked)
    (items : Items) (others : Step (Unit {0})) (given : Answer (Unit {0} × Machine))
    (label : label_at (tree_of text) test ≡ test_label negated asked) (stands : Stands text start (nodes_of items) end)
    (b : Following F C text w end (λ levels star. worked F C (Some asked) (has_star items)
    (λ rest inside. items_step F C items inside rest) levels star others) s given) (own : Bool) (owns : own ≡ has_star items)
    (each : Bool)
    (is : each ≡ (asks_switch (label_at (tree_of text) test) && own)) where
  -- an X that is processed once: the walk enters its items
  pub once_entered : each ≡ false → Left F C text (record w { at = start }) s given
  once_entered e =
      entered F C text w s given items start end stands
      (same_step F C text w s given end (λ levels star. worked F C (Some asked) (has_star items)
      (λ rest inside. items_step F C items inside rest) levels star others) b (λ levels star. items_step F C items levels star) s
      (ap (run F C s) (work_once F C text s test start end negated asked items (levels_in F C b.arounds)
      (star_of C w.star) others label own owns each false is e refl)))

  -- an X that is processed for each hit: the walk goes over the switches of the line; P is what the caller proves of that
  pub each_entered : each ≡ true → (P : Type 0) → ((p : Pattern) → labelled (label_at (tree_of text) test) ≡ matching p
      → Following F C text w end (λ levels star. each_from F C p items levels 0) s given → P) → P
  each_entered e P enter =
      let works = work_for_each F C text s test start end negated asked items (levels_in F C b.arounds)
      (star_of C w.star) others label own owns each true is e refl in
      enter works.pattern (ap labelled label ∙ works.labelled_as)
      (same_step F C text w s given end (λ levels star. worked F C (Some asked) (has_star items)
      (λ rest inside. items_step F C items inside rest) levels star others) b
      (λ levels star. each_from F C works.pattern items levels 0) s
      (ap (run F C s) (works.is ∙ each_all F C works.pattern items (levels_in F C b.arounds))))
