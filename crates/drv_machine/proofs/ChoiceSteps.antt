use Rattle.drv_machine.proofs.ItemKinds.{item_no_test, tests_first}
use Rattle.drv_machine.proofs.Laws.{run_then}
use Rattle.drv_machine.proofs.Standing.{First, PartsLeft, first_of, next_at, stand_grows, stands_after, stands_within}
use Rattle.drv_machine.proofs.Steps.{then_err, then_ok}
use Rattle.drv_machine.proofs.TrueTests.{no_tests_left}
use Rattle.drv_machine.specs.Atoms.{choices_step, each_hit, first_true, found_step, items_step, judged, matching, places, truth, worked}
use Rattle.drv_machine.specs.Code.ByKind.{AskedTest, TrueTest, asks_switch, labelled}
use Rattle.drv_machine.specs.Context.{Context, names}
use Rattle.drv_machine.specs.Code.Running.{Machine, run}
use Rattle.drv_machine.specs.Code.Standing.{Stands, after_tests, tests_in}
use Rattle.drv_machine.specs.Code.Walking.{AskFits, Kept, NextHit, arguments_of, each_from, hit_step}
use Rattle.drv_machine.specs.Working.{◌>>-◌, ◌>>=◌, ◌>>◌, Answer, Levels, Step, look, nothing}
use Rattle.drv_machine.specs.declared.fault.MachineFault.TheVariants.{Memory}
use Rattle.drv_machine.specs.declared.fault.MachineFault.{MachineFault}
use Rattle.drv_match.specs.Matching.{IsNextHit, is_hit}
use Rattle.drv_match.specs.Pattern as switches
use Rattle.drv_syntax.specs.Labels.{Label, Nodes, alternative_label, both, choice_nodes, label_at, nodes_of, test_label, test_nodes}
use Rattle.drv_syntax.specs.Parsed.{tree_of}
use Rattle.drv_syntax.specs.Stars.{has_star}
use Rattle.drv_syntax.specs.Tokens.{tokens_of}
use Rattle.drv_syntax.specs.Tree as tree
use Rattle.drv_syntax.specs.Tree.{Asked, Choices, Items, Pattern, Span, Tests}
use Rattle.drv_syntax.specs.declared.token.Token.{Token}
use Rattle.drv_syntax.specs.declared.token.TokenKind.TheVariants as kinds
use Rattle.drv_system.specs.Facts.{Facts}
use Rattle.drv_system.specs.Known.{Is}
use Rattle.std.proofs.Common.{◌≡◌, ◌⊎◌, ◌&&◌, ◌<◌, ◌≤◌, ◌+◌, ◌-◌, ◌∙◌, ◌∷◌, Bool, Err, List, None, Ok, Option, Some, ap, arith, false}
use Rattle.std.proofs.Common.{if◌then◌else◌, inl, inr, length, refl, slice_get, subst, suc, sym, true, zero, ℕ}
use Rattle.std.proofs.lemmas.List.{length-map}
use Rattle.std.proofs.lemmas.Option.{slice_get_within}
use Rattle.std.specs.List.{range_with_len}
use Rattle.std.specs.Option.{IfSome}

-- For `choose` (braces.rt), which goes over the alternatives of a brace: it judges each by its tests as the definition does. It works the X
-- once or for each hit, and its jump to the next switch that is hit leaves out only switches that give nothing. X is what an alternative
-- has after its colon; a hit is a switch of the line that the test's pattern names.
-- Names: `C`: what the text is run for (switches, texts). `F`: what is known of the outside. `at`, `end`, `middle`, `test`: places in the
-- text's list of parts. `levels`: what items mean after each part that may still be opened. `s`, `t`, `u`: the machine (what has been cut,
-- and the world) before, between and after steps. `i`: a place on the line. `star`: the value of `%*`. `items`: the items of a part. `p`: a
-- test's pattern. `run`: runs a step after what has been cut, in its world. `choices_step`: the first alternative with a true test, or the
-- default. `each_from`: X for the switches from a place on. `is_hit`: the switch at a place is hit. `test_nodes`: the parts that the tests
-- of an alternative are. `Stands`: these parts go from one place of a text's flat list up to another. `items_step`: items one after
-- another, each counted before it is run. `names`: the names of the line's switches, in order. `nodes_of`: the parts that items are, each
-- with those inside it. `first_true`: the first test that is true. `f`: the first alternative that is left.

-- the first of the alternatives at a place, and the others
pub record FrontChoice (text : List ℕ) (at : ℕ) (choices : Choices) (end : ℕ) : Type 0 where
  pub span : Span
  pub tests : Tests
  pub items : Items
  pub others : Choices
  pub is : choices ≡ tree.choice span tests items others
  pub first : First text at kinds.Alternative (alternative_label items) (both (test_nodes tests) (nodes_of items)) (choice_nodes others) end

-- where the place is before the end of the braces, an alternative is there: the loop of `choose` may take it
pub front_choice : (text : List ℕ) (at : ℕ) (choices : Choices) (end : ℕ) → at < end → Stands text at (choice_nodes choices) end
    → FrontChoice text at choices end
front_choice text at tree.no_choice end h e = absurd (omega (arith, h, e))
front_choice text at (tree.choice span tests items others) end h s =
    record { span = span; tests = tests; items = items; others = others; is = refl; first = first_of s }

-- where the place is at the end of the braces, no alternative is left: the loop of `choose` ends
pub no_choices_left : (text : List ℕ) (at : ℕ) (choices : Choices) (end : ℕ) → end ≤ at → Stands text at (choice_nodes choices) end
    → choices ≡ tree.no_choice
no_choices_left text at tree.no_choice end h s = refl
no_choices_left text at (tree.choice span tests items others) end h (next, part, within, following) =
    absurd (omega (arith, h, part.later, stand_grows _ _ next (choice_nodes others) end following))

-- the items of an alternative are what follows its tests
pub tests_after : (tests : Tests) (items : Items) → after_tests (both (test_nodes tests) (nodes_of items)) ≡ nodes_of items
tests_after tree.no_test tree.none = refl
tests_after tree.no_test (tree.more span item items) = rw (item_no_test item) refl
tests_after (tree.test span negated asked tests) items = tests_after tests items

-- what an alternative gives by the test that was found true, or else the alternatives after it
abbrev pub by_found : Facts → Context → Items → Choices → Levels → List ℕ → Option Asked → Step (Unit {0})
by_found F C items others levels star found = worked F C found (has_star items)
    (λ rest inside. items_step F C items inside rest) levels star (choices_step F C others levels star)

-- the first alternative, and those after it, by its tests
tested : (F : Facts) (C : Context) (text : List ℕ) (at end : ℕ) (span : Span) (tests : Tests) (items : Items) (others : Choices)
    (levels : Levels) (star : List ℕ) → (end ≡ at → ⊥) → Stands text at (test_nodes tests) end
    → choices_step F C (tree.choice span tests items others) levels star
    ≡ (first_true F C tests levels star >>= by_found F C items others levels star)
tested F C text at end span tree.no_test items others levels star some s = absurd (some (sym s))
tested F C text at end span (tree.test place negated asked tests) items others levels star some s = refl

-- the invariant of the loop over alternatives: those at `at`, worked from the present state, give what all gave from the state before
abbrev pub ChoicesLeft : Facts → Context → List ℕ → Machine → Machine → ℕ → ℕ → Choices → Levels → List ℕ → Type 0
ChoicesLeft F C text s t at end choices levels star =
    PartsLeft choice_nodes text at end (λ rest. run F C t (choices_step F C rest levels star)
    ≡ run F C s (choices_step F C choices levels star))

-- an alternative is left at place `at`: s is the state before the loop, t the present one
module _ (F : Facts) (C : Context) (text : List ℕ) (s t : Machine) (at end : ℕ) (h : at < end) (choices : Choices) (levels : Levels)
    (star : List ℕ) (left : ChoicesLeft F C text s t at end choices levels star) where
  -- what all alternatives give from the state before the loop, those that are left give from the present one
  from_rest : (f : FrontChoice text at left.rest end)
      → run F C s (choices_step F C choices levels star)
      ≡ run F C t (choices_step F C (tree.choice f.span f.tests f.items f.others) levels star)
  from_rest f = sym left.same ∙ ap (λ xs. run F C t (choices_step F C xs levels star)) f.is

  -- the token of the first alternative that is left
  module _ (token : Token) (there : slice_get (tokens_of (tree_of text)) at ≡ Some token) where
    -- the alternatives after the first one follow its token
    pub others_there : (choices : Choices) × Stands text token.next (choice_nodes choices) end
    others_there =
        let f = front_choice text at left.rest end h left.stands in
        (f.others, stands_after f.first token there)

    -- where its tests end and its items begin (`middle`), as the loop over its parts has found
    module _ (middle : ℕ) (first : (nodes : Nodes) → Stands text (at + 1) nodes token.next → Stands text (at + 1) (tests_in nodes) middle)
        (after_first : (nodes : Nodes) → Stands text (at + 1) nodes token.next → Stands text middle (after_tests nodes) token.next) where
      -- the tests of an alternative go up to `middle`, and its items follow
      inside : (f : FrontChoice text at left.rest end) → Stands text (at + 1) (both (test_nodes f.tests) (nodes_of f.items)) token.next
      inside f = stands_within f.first token there

      -- its tests are the nodes up to `middle`
      tests_there : (f : FrontChoice text at left.rest end) → Stands text (at + 1) (test_nodes f.tests) middle
      tests_there f = subst (λ (xs : Nodes). Stands text (at + 1) xs middle) (tests_first f.tests f.items)
          (first (both (test_nodes f.tests) (nodes_of f.items)) (inside f))

      -- and its items are the nodes from there on
      items_there : (f : FrontChoice text at left.rest end) → Stands text middle (nodes_of f.items) token.next
      items_there f = subst (λ (xs : Nodes). Stands text middle xs token.next) (tests_after f.tests f.items)
          (after_first (both (test_nodes f.tests) (nodes_of f.items)) (inside f))

      -- an alternative without tests is the default: its items are processed
      default_is : (f : FrontChoice text at left.rest end) → middle ≡ at + 1
          → run F C s (choices_step F C choices levels star) ≡ run F C t (items_step F C f.items levels star)
      default_is f e = from_rest f ∙ ap (λ ts. run F C t (choices_step F C (tree.choice f.span ts f.items f.others) levels star))
          (no_tests_left text (at + 1) f.tests middle (omega (arith, e)) (tests_there f))

      -- an alternative without tests is processed as its items: P is what the caller proves of that
      pub as_default : (P : Answer (Unit {0} × Machine) → Type 0) → middle ≡ at + 1
          → ((items : Items) → Stands text middle (nodes_of items) token.next → P (run F C t (items_step F C items levels star)))
          → P (run F C s (choices_step F C choices levels star))
      as_default P e working = let f = front_choice text at left.rest end h left.stands in
          subst P (sym (default_is f e)) (working f.items (items_there f))

      -- the first alternative has a test
      module _ (some : middle ≡ at + 1 → ⊥) where
        -- an alternative with tests, by the first that is true
        with_tests : (f : FrontChoice text at left.rest end)
            → run F C s (choices_step F C choices levels star)
            ≡ run F C t (first_true F C f.tests levels star >>= by_found F C f.items f.others levels star)
        with_tests f = from_rest f ∙ ap (run F C t) (tested F C text (at + 1) middle f.span f.tests f.items f.others levels star some
            (tests_there f))

        -- where its tests are refused, the brace gives that refusal
        pub tests_fail : (fault : MachineFault) → ((tests : Tests) → Stands text (at + 1) (test_nodes tests) middle
            → (fault ≡ Memory) ⊎ (run F C t (first_true F C tests levels star) ≡ Is (Err fault)))
            → (fault ≡ Memory) ⊎ (run F C s (choices_step F C choices levels star) ≡ Is (Err fault))
        tests_fail fault stopped = by (stopped f.tests (tests_there f))
          where
            -- Plan: by what the tests give: memory is lacking, or they are refused, and then so is the brace (`with_tests`).
            f : FrontChoice text at left.rest end
            f = front_choice text at left.rest end h left.stands

            by : (fault ≡ Memory) ⊎ (run F C t (first_true F C f.tests levels star) ≡ Is (Err fault))
                → (fault ≡ Memory) ⊎ (run F C s (choices_step F C choices levels star) ≡ Is (Err fault))
            by (inl memory) = inl memory
            by (inr e) = inr (with_tests f ∙ then_err F C t (first_true F C f.tests levels star)
                (by_found F C f.items f.others levels star) fault e)

        -- where none is true, the loop goes on with the next alternative
        pub none_true : (u : Machine) → ((tests : Tests) → Stands text (at + 1) (test_nodes tests) middle
            → run F C t (first_true F C tests levels star) ≡ Is (Ok (None, u)))
            → ChoicesLeft F C text s u token.next end choices levels star
        none_true u none =
            let f = front_choice text at left.rest end h left.stands in record {
              rest = f.others;
              stands = stands_after f.first token there;
              same = sym (with_tests f ∙ then_ok F C t (first_true F C f.tests levels star)
                  (by_found F C f.items f.others levels star) None u (none f.tests (tests_there f)));
            }

        -- where one is true, its X is processed: P is what the caller proves of that
        pub one_true : (u : Machine) (test : ℕ) (P : Answer (Unit {0} × Machine) → Type 0)
            → ((tests : Tests) → Stands text (at + 1) (test_nodes tests) middle
            → TrueTest F C text t u test (first_true F C tests levels star))
            → ((negated : Bool) (asked : Asked) (items : Items) (others : Step (Unit {0}))
            → (label_at (tree_of text) at).holds_star ≡ has_star items → label_at (tree_of text) test ≡ test_label negated asked
            → Stands text middle (nodes_of items) token.next
            → P (run F C u (worked F C (Some asked) (has_star items) (λ rest inside. items_step F C items inside rest) levels star others)))
            → P (run F C s (choices_step F C choices levels star))
        one_true u test P found working =
            let f = front_choice text at left.rest end h left.stands in
            let g = found f.tests (tests_there f) in
            subst P (sym (with_tests f ∙ then_ok F C t (first_true F C f.tests levels star) (by_found F C f.items f.others levels star)
            (Some g.asked) u g.gives))
            (working g.negated g.asked f.items (choices_step F C f.others levels star)
            (ap (λ (l : Label). l.holds_star) f.first.part.label_is) g.label_is (items_there f))

        -- where a test by a function is first: its arguments are processed, and what they decide is kept in `kept` (`Asking` of walk.rt)
        pub one_asked : (u : Machine) (test : ℕ) (at_test : Token) (is : slice_get (tokens_of (tree_of text)) test ≡ Some at_test)
            (own : Bool) (owns : own ≡ (label_at (tree_of text) at).holds_star) (P : Answer (Unit {0} × Machine) → Type 0)
            → ((tests : Tests) → Stands text (at + 1) (test_nodes tests) middle → AskedTest F C text middle t u test tests levels star)
            → ((items arguments : Items) (kept : Kept) → AskFits text
            (record { test = test; from = at_test.next; start = middle; next = token.next; own = own; end = end }) items kept
            → Stands text (test + 1) (nodes_of arguments) at_test.next
            → P (run F C u (arguments_of F C arguments kept.name levels star >>= judged F C kept.negated kept.asked kept.tests levels star
            >>= found_step F C items kept.choices levels star)))
            → P (run F C s (choices_step F C choices levels star))
        one_asked u test at_test is own owns P found working =
            let f = front_choice text at left.rest end h left.stands in
            let g = found f.tests (tests_there f) in
            let next = next_at text test at_test kinds.Test (test_label g.negated (tree.HasResult g.name g.arguments)) g.next is g.part in
            subst P
            (sym (with_tests f
            ∙ run_then F C t (first_true F C f.tests levels star) (by_found F C f.items f.others levels star)
            ∙ ap (λ x. x >>- λ r. run F C r.1 (by_found F C f.items f.others levels star r.0)) g.gives
            ∙ sym (run_then F C u (truth F C (tree.HasResult g.name g.arguments) levels star
            >>= judged F C g.negated (tree.HasResult g.name g.arguments) g.others levels star)
            (by_found F C f.items f.others levels star))))
            (working f.items g.arguments (record {
              name = g.name;
              negated = g.negated;
              asked = tree.HasResult g.name g.arguments;
              tests =
                  g.others;
              choices = f.others;
            })
            (record {
              in_list = slice_get_within (tokens_of (tree_of text)) test at_test is;
              name_is = ap (λ (l : Label). l.word) g.part.label_is;
              label_is = g.part.label_is;
              later = omega (arith, next, g.part.later);
              own_is = owns ∙ ap (λ (l : Label). l.holds_star) f.first.part.label_is;
              tests_stand = subst (λ (k : ℕ). Stands text k (test_nodes g.others) middle) (sym next) g.following;
              items_stand = items_there f;
              choices_stand = stands_after f.first token there;
            })
            (subst (λ (k : ℕ). Stands text (test + 1) (nodes_of g.arguments) k) (sym next) g.within))

-- where no alternative is left, none gave anything
pub choices_end : (F : Facts) (C : Context) (text : List ℕ) (s t : Machine) (at end : ℕ) → end ≤ at
    → (choices : Choices) (levels : Levels) (star : List ℕ) → ChoicesLeft F C text s t at end choices levels star
    → run F C s (choices_step F C choices levels star) ≡ Is (Ok (tt, t))
choices_end F C text s t at end h choices levels star left = sym left.same
    ∙ ap (λ xs. run F C t (choices_step F C xs levels star)) (no_choices_left text at left.rest end h left.stands)

-- an X is processed once unless its test asks for a switch and it has a %* of its own
once_is : (F : Facts) (C : Context) (negated : Bool) (asked : Asked) (own : Bool) (X : List ℕ → Levels → Step (Unit {0})) (levels : Levels)
    (star : List ℕ) (others : Step (Unit {0})) → asks_switch (test_label negated asked) && own ≡ false
    → worked F C (Some asked) own X levels star others ≡ X star levels
once_is F C negated (tree.HasSwitch (tree.pattern word starred)) true X levels star others e = absurd cc
once_is F C negated (tree.HasSwitch (tree.pattern word starred)) false X levels star others e = refl
once_is F C negated (tree.HasSuffix word) own X levels star others e = refl
once_is F C negated (tree.HasLanguage word) own X levels star others e = refl
once_is F C negated (tree.HasResult name items) own X levels star others e = refl

-- an X that is processed for each hit, by the pattern of its test
pub record ForEach (F : Facts) (C : Context) (negated : Bool) (asked : Asked) (own : Bool) (X : List ℕ → Levels → Step (Unit {0}))
    (levels : Levels) (star : List ℕ) (others : Step (Unit {0})) : Type 0 where
  pub pattern : Pattern
  pub labelled_as : labelled (test_label negated asked) ≡ matching pattern
  pub is : worked F C (Some asked) own X levels star others ≡ each_hit F C pattern X levels (places F C)

-- an X with a %* of its own, after a test that asks for a switch, is processed for each hit
each_is : (F : Facts) (C : Context) (negated : Bool) (asked : Asked) (own : Bool) (X : List ℕ → Levels → Step (Unit {0})) (levels : Levels)
    (star : List ℕ) (others : Step (Unit {0})) → asks_switch (test_label negated asked) && own ≡ true
    → ForEach F C negated asked own X levels star others
each_is F C negated (tree.HasSwitch (tree.pattern word starred)) true X levels star others e =
    record { pattern = tree.pattern word starred; labelled_as = refl; is = refl }
each_is F C negated (tree.HasSwitch (tree.pattern word starred)) false X levels star others e = absurd cc
each_is F C negated (tree.HasSuffix word) own X levels star others e = absurd cc
each_is F C negated (tree.HasLanguage word) own X levels star others e = absurd cc
each_is F C negated (tree.HasResult name items) own X levels star others e = absurd cc

-- an X whose test was found true: `own` is whether it has a %* of its own, b whether moreover the test asks for switches, and c the same as
-- the code has it
module _ (F : Facts) (C : Context) (text : List ℕ) (s : Machine) (test middle end : ℕ) (negated : Bool) (asked : Asked) (items : Items)
    (levels : Levels) (star : List ℕ) (others : Step (Unit {0}))
    (label : label_at (tree_of text) test ≡ test_label negated asked) (own : Bool) (owns : own ≡ has_star items) (b c : Bool)
    (is : b ≡ (asks_switch (label_at (tree_of text) test) && own)) (e : b ≡ c) where
  -- what the code reads of the test and of the X is what the definition asks
  own_is : asks_switch (test_label negated asked) && has_star items ≡ c
  own_is = ap (λ o. asks_switch (test_label negated asked) && o) (sym owns) ∙ ap (λ l. asks_switch l && own) (sym label) ∙ sym is ∙ e

  -- an X that the code works once is processed once by the definition
  pub work_once : c ≡ false → worked F C (Some asked) (has_star items) (λ rest inside. items_step F C items inside rest) levels star others
      ≡ items_step F C items levels star
  work_once f = once_is F C negated asked (has_star items) (λ rest inside. items_step F C items inside rest) levels star others (own_is ∙ f)

  -- an X that the code works for each hit is processed for each hit by the definition
  pub work_for_each : c ≡ true → ForEach F C negated asked (has_star items)
      (λ rest inside. items_step F C items inside rest) levels star others
  work_for_each f = each_is F C negated asked (has_star items) (λ rest inside. items_step F C items inside rest) levels star others
      (own_is ∙ f)

-- the switches that are left, of which the first is at a place
module _ (F : Facts) (C : Context) (p : Pattern) (items : Items) where
  -- the X for the hits among these switches, as the definition has it
  abbrev each : Levels → List ℕ → Step (Unit {0})
  each levels is = each_hit F C p (λ rest inside. items_step F C items inside rest) levels is

  -- the switches from a place of the line on are the one there and those after it
  each_step : (levels : Levels) (i : ℕ) → i < length C.switches
      → each_from F C p items levels i ≡ each levels (i ∷ range_with_len (i + 1) (length C.switches - (i + 1)))
  each_step levels i h = by (length C.switches - i) (length C.switches - (i + 1)) (omega (arith, h))
    where
      by : (n m : ℕ) → n ≡ suc m → each levels (range_with_len i n) ≡ each levels (i ∷ range_with_len (i + 1) m)
      by n m e = ap (λ k. each levels (range_with_len i k)) e

  -- what one switch gives: X and its argument if it is hit, else nothing
  abbrev one : Levels → ℕ → Bool → Step (Unit {0})
  one levels i hit = if hit then hit_step F C p items levels i else nothing

  -- the switch at place i, and whether the pattern hits it, as the code computes it
  module _ (levels : Levels) (s : Machine) (i : ℕ) (h : i < length C.switches) (hit : Bool)
      (e : hit ≡ is_hit (names C) s.world.hidden (matching p) i) where
    -- the switch at this place, by whether it is hit
    at_switch : run F C s (each_from F C p items levels i) ≡ run F C s (one levels i hit >> each_from F C p items levels (i + 1))
    at_switch =
        ap (run F C s) (each_step levels i h)
        ∙ then_ok F C s (look (λ w. is_hit (names C) w.hidden (matching p) i)) (λ b. one levels i b >> each_from F C p items levels (i + 1))
        (is_hit (names C) s.world.hidden (matching p) i) s refl
        ∙ ap (λ b. run F C s (one levels i b >> each_from F C p items levels (i + 1))) (sym e)

    -- a switch that is not hit gives nothing
    pub no_hit : hit ≡ false → run F C s (each_from F C p items levels i) ≡ run F C s (each_from F C p items levels (i + 1))
    no_hit f = at_switch ∙ ap (λ b. run F C s (one levels i b >> each_from F C p items levels (i + 1))) f
        ∙ then_ok F C s nothing (λ u. each_from F C p items levels (i + 1)) tt s refl

    -- a switch that is hit gives X and its argument, and then what the switches after it give
    pub at_hit : hit ≡ true → run F C s (each_from F C p items levels i)
        ≡ run F C s (hit_step F C p items levels i >> each_from F C p items levels (i + 1))
    at_hit f = at_switch ∙ ap (λ b. run F C s (one levels i b >> each_from F C p items levels (i + 1))) f

  -- past the last switch of the line no hit is left, and an X for each hit gives nothing more
  pub each_end : (levels : Levels) (s : Machine) (i : ℕ) → length C.switches ≤ i
      → run F C s (each_from F C p items levels i) ≡ Is (Ok (tt, s))
  each_end levels s i h = by (length C.switches - i) (omega (arith, h))
    where
      by : (n : ℕ) → n ≡ 0 → run F C s (each levels (range_with_len i n)) ≡ Is (Ok (tt, s))
      by n e = ap (λ k. run F C s (each levels (range_with_len i k))) e

  -- the hits of all switches are the hits from the first switch on
  pub each_all : (levels : Levels) → each_hit F C p (λ rest inside. items_step F C items inside rest) levels (places F C)
      ≡ each_from F C p items levels 0
  each_all levels = by (length C.switches - 0) (length C.switches) (omega arith)
    where
      by : (n m : ℕ) → n ≡ m → each levels (range_with_len 0 m) ≡ each levels (range_with_len 0 n)
      by n m e = ap (λ k. each levels (range_with_len 0 k)) (sym e)

-- whether a switch is hit, by the code's own list of names and flags
pub hit_in : (C : Context) (all : List (List ℕ)) (hidden flags : List Bool) (matcher : switches.Pattern) (p : Pattern) (i : ℕ) (hit : Bool)
    → hit ≡ is_hit all hidden matcher i → all ≡ names C → hidden ≡ flags → matcher ≡ matching p
    → hit ≡ is_hit (names C) flags (matching p) i
hit_in C all hidden flags matcher p i hit e a h m = e ∙ ap (λ xs. is_hit xs hidden matcher i) a ∙ ap (λ xs. is_hit (names C) xs matcher i) h
    ∙ ap (λ x. is_hit (names C) flags x i) m

-- the next switch that is hit

-- the next switch that is hit is one of the line, from this place on
pub next_within : (C : Context) (all : List (List ℕ)) (hidden : List Bool) (q : switches.Pattern) (from : ℕ) (found : Option ℕ)
    → all ≡ names C → IsNextHit all hidden q from found → IfSome found (λ i. (from ≤ i) × (i < length C.switches))
next_within C all hidden q from None ns n = tt
next_within C all hidden q from (Some i) ns n = (
  n.0,
  subst (λ (k : ℕ). i < k) (ap (λ xs. length xs) ns ∙ length-map C.switches (λ switch. switch.name)) n.1,
)

-- the code's search for the next switch that is hit
module _ (F : Facts) (C : Context) (p : Pattern) (items : Items) (levels : Levels) (s : Machine) where
  -- switches that are not hit are passed over
  passed_over : (k from to : ℕ) → to ≡ from + k → ((i : ℕ) → from ≤ i → i < to
      → (i < length C.switches) × (is_hit (names C) s.world.hidden (matching p) i ≡ false))
      → run F C s (each_from F C p items levels from) ≡ run F C s (each_from F C p items levels to)
  passed_over zero from to e none = ap (λ i. run F C s (each_from F C p items levels i)) (let same : from ≡ to = omega (arith, e) in same)
  passed_over (suc k) from to e none =
      let here = none from (omega arith) (omega (arith, e)) in
      no_hit F C p items levels s from here.0 false (sym here.1) refl
      ∙ passed_over k (from + 1) to (omega (arith, e)) (λ i low high. none i (omega (arith, low)) high)

  -- the next hit that the code finds is that of the definition
  pub next_finds : (all : List (List ℕ)) (hidden : List Bool) (q : switches.Pattern) (from : ℕ) (found : Option ℕ) → all ≡ names C
      → hidden ≡ s.world.hidden → q ≡ matching p → IsNextHit all hidden q from found → NextHit F C s p items levels from found
  next_finds all hidden q from found ns hs ms n = by found n
    where
      -- Plan: the names and hits of the code are the line's (`many`, `same`); then by whether it found one.
      many : length all ≡ length C.switches
      many = ap (λ xs. length xs) ns ∙ length-map C.switches (λ switch. switch.name)

      same : (i : ℕ) → is_hit all hidden q i ≡ is_hit (names C) s.world.hidden (matching p) i
      same i = hit_in C all hidden s.world.hidden q p i (is_hit all hidden q i) refl ns hs ms

      by : (o : Option ℕ) → IsNextHit all hidden q from o → NextHit F C s p items levels from o
      by None none =
          passed_over (length C.switches - from) from (from + (length C.switches - from)) refl
          (λ i low high. let within : i < length C.switches = omega (arith, low, high) in
          (within, sym (same i) ∙ none i low (omega (arith, within, many))))
          ∙ each_end F C p items levels s (from + (length C.switches - from)) (omega arith)
      by (Some i) next =
          let within : i < length C.switches = omega (arith, next.1, many) in
          passed_over (i - from) from i (omega (arith, next.0))
          (λ j low high. (omega (arith, high, within), sym (same j) ∙ next.3 j low high))
          ∙ at_hit F C p items levels s i within true (sym (sym (same i) ∙ next.2)) refl
