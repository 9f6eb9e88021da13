use Rattle.drv_syntax.proofs.Given.{braces_wrote, choices_given_by, deep_enough, default_turn, far_is, filled, form_given_by}
use Rattle.drv_syntax.proofs.Given.{later_given_by, more_given_by, near_is, result_wrote, test_ends, test_plain, test_result, tried_fails}
use Rattle.drv_syntax.proofs.GivenLists.{directive_shorter, form_shorter, item_shorter, percent_by, percent_simple, plains_shorter}
use Rattle.drv_syntax.proofs.GivenLists.{test_shorter, turn_directive, turn_ends, turn_item, turn_last, x_shorter}
use Rattle.drv_syntax.proofs.Taken.{err_gives, fails, fails_then, fails_within, given_fails, gives_err, gives_same, listed, ok_same, taken}
use Rattle.drv_syntax.proofs.Taken.{value_taken}
use Rattle.drv_syntax.proofs.WordRuns.{differs}
use Rattle.drv_syntax.proofs.descent.lists.+list.Goals as goal
use Rattle.drv_syntax.specs.Code.Lists.{around, brace_on, closed_here, context_seen}
use Rattle.drv_syntax.specs.Code.Tests.{alternative_of, choice_open, order_seen}
use Rattle.drv_syntax.specs.Code.Writing.{Reading, at_rest, item_given, item_on, seen}
use Rattle.drv_syntax.specs.Contexts.{in_arguments, in_braces}
use Rattle.drv_syntax.specs.Descent as d
use Rattle.drv_syntax.specs.Descent.{Took}
use Rattle.drv_syntax.specs.Rest.{Left, after, first_of}
use Rattle.drv_syntax.specs.Tree.{Function}
use Rattle.drv_syntax.specs.declared.descent.tokens.Open.{Open}
use Rattle.drv_syntax.specs.declared.token.TokenKind.TheVariants as kinds
use Rattle.std.proofs.Common.{ap, arith, false, inl, inr, refl, sym, ℕ, ◌∙◌, ◌≡◌}
use Rattle.std.proofs.lemmas.Bool.Decides.{nat_tests}
use Rattle.std.specs.Prelude.{Ok, Some, ◌==◌}

-- The functions of the reader that call one another (src/descent/): each gives what the descent gives for its list, choice, test or call.

-- Names: `l`: of the type `Listed` (proofs/Taken). `b`: of the type `Taken` (proofs/Taken). `seen`: what a `Reader` of the code has read.
-- `context_seen`: the context of a list, as the code's type has it. `gives_err`: code that passes on the fault of a part meets its clause.
-- `differs`: bytes that are not equal are found different by the test. `ok_same`: the values of two equal results are equal.

-- the text ends in the list, and a whole text may
pub items-returns-in_default-clause-list : goal.items-returns-in_default-clause-list
items-returns-in_default-clause-list t c = sym c.loop-tail.invariant
    ∙ turn_last (context_seen c.args.c) c.args.outer c.args.c.kind refl _ _ (seen c.loop-tail.r) _ c.in_ok-tail.ensures
    (sym c.in_default.ensures) ∙ rw (← c.at.ensures.place, ← c.at_end.ensures, c.in_ok-last.was) refl

-- the text ends in a list that is no whole text
pub items-returns-in_err-last-clause-list : goal.items-returns-in_err-last-clause-list
items-returns-in_err-last-clause-list t c = err_gives _ _ c.from_residual-in_err-last.ensures.1 (sym c.loop-tail.invariant
    ∙ turn_last (context_seen c.args.c) c.args.outer c.args.c.kind refl _ _ (seen c.loop-tail.r) _ c.in_ok-tail.ensures
    (sym c.in_default.ensures) ∙ rw (← c.at.ensures.place, ← c.at_end.ensures, c.in_err-last.was) refl)

-- the byte that ends the list comes next
pub items-returns-then-ends_list-clause-list : goal.items-returns-then-ends_list-clause-list
items-returns-then-ends_list-clause-list t c = sym c.loop-tail.invariant
    ∙ turn_ends (context_seen c.args.c) c.args.outer c.args.c.kind refl _ _ (seen c.loop-tail.r) _ c.in_ok-tail.ensures
    _ (sym c.in-Some.ensures) (sym c.ends_list.ensures ∙ c.if-ends_list.true) ∙ rw c.with_end.ensures refl

-- `items`: a directive has a fault, and so has the list
pub items-returns-in_err-percent-clause-list : goal.items-returns-in_err-percent-clause-list
items-returns-in_err-percent-clause-list t c =
    gives_err _ _ c.from_residual-in_err-percent.ensures.1 c.in_err-percent.ensures (λ h. sym c.loop-tail.invariant
    ∙ turn_directive (context_seen c.args.c) c.args.outer c.args.c.kind refl _ _ (seen c.loop-tail.r) _ c.in_ok-tail.ensures (sym
    c.in-Some.ensures ∙ ap (λ x. Some x) c.if-b-eq37.true)
    ∙ rw h refl)

-- `items`: after a directive fewer bytes are left
pub items-loop-tail-smaller-then-b-eq37 : goal.items-loop-tail-smaller-then-b-eq37
items-loop-tail-smaller-then-b-eq37 t c =
    omega (
      arith,
      directive_shorter (context_seen c.args.c) 0 c.args.outer (seen c.plains.new.r) (seen c.percent.new.r)
          (sym c.in-Some.ensures ∙ ap (λ x. Some x) c.if-b-eq37.true) c.in_ok-percent.ensures,
      plains_shorter c.args.c.kind c.loop-tail.tail c.in_ok-tail.tail (seen c.loop-tail.r) (seen c.plains.new.r)
          (ok_same c.in_ok-tail.ensures),
    )

-- after a directive it is written, and the items after it follow
pub items-loop-tail-preserved-then-b-eq37 : goal.items-loop-tail-preserved-then-b-eq37
items-loop-tail-preserved-then-b-eq37 t c = rw c.tail_here-tail-then-b-eq37.ensures (sym (
    turn_directive (context_seen c.args.c) c.args.outer c.args.c.kind refl _ _ (seen c.loop-tail.r) _ c.in_ok-tail.ensures (sym
    c.in-Some.ensures ∙ ap (λ x. Some x) c.if-b-eq37.true)
    ∙ rw c.in_ok-percent.ensures refl) ∙ c.loop-tail.invariant)

-- `items`: what is no directive has a fault, and so has the list
pub items-returns-in_err-tail-2-clause-list : goal.items-returns-in_err-tail-2-clause-list
items-returns-in_err-tail-2-clause-list t c =
    gives_err _ _ c.from_residual-in_err-tail-2.ensures.1 c.in_err-tail-2.ensures (λ h. sym c.loop-tail.invariant
    ∙ turn_item (context_seen c.args.c) c.args.outer c.args.c.kind refl _ _ (seen c.loop-tail.r) _ c.in_ok-tail.ensures
    _ (sym c.in-Some.ensures) (sym c.ends_list.ensures ∙ c.if-ends_list.false) (differs _ _ c.if-b-eq37.false) ∙ rw h refl)

-- `items`: after another item fewer bytes are left
pub items-loop-tail-smaller : goal.items-loop-tail-smaller
items-loop-tail-smaller t c =
    omega (
      arith,
      item_shorter (context_seen c.args.c) 0 c.args.outer c.in_ok-tail.tail c.in_ok-tail-2.tail (seen c.plains.new.r)
          (seen c.item.new.r) c.in-Some.b (sym c.in-Some.ensures) (sym c.ends_list.ensures ∙ c.if-ends_list.false)
          (differs _ _ c.if-b-eq37.false) c.in_ok-tail-2.ensures,
      plains_shorter c.args.c.kind c.loop-tail.tail c.in_ok-tail.tail (seen c.loop-tail.r) (seen c.plains.new.r)
          (ok_same c.in_ok-tail.ensures),
    )

-- after an item that is no directive it is written, and the items after it follow
pub items-loop-tail-preserved : goal.items-loop-tail-preserved
items-loop-tail-preserved t c =
    sym (turn_item (context_seen c.args.c) c.args.outer c.args.c.kind refl _ _ (seen c.loop-tail.r) _ c.in_ok-tail.ensures _ (sym
    c.in-Some.ensures) (sym c.ends_list.ensures ∙ c.if-ends_list.false) (differs _ _ c.if-b-eq37.false)
    ∙ rw c.in_ok-tail-2.ensures refl) ∙ c.loop-tail.invariant

-- `tests`: the first test has a fault
pub tests-returns-in_err-test : goal.tests-returns-in_err-test
tests-returns-in_err-test t c =
    gives_err _ _ c.from_residual.ensures.1 c.in_err-test.ensures (λ h. rw (form_given_by (context_seen c.args.c), h) refl)

-- the braces hold one pattern
pub tests-returns-in-Emits : goal.tests-returns-in-Emits
tests-returns-in-Emits t c = rw (form_given_by (context_seen c.args.c), c.in_ok-test.ensures, c.in-Emits.is) refl

-- the alternative has one test
pub tests-returns-in-Asks : goal.tests-returns-in-Asks
tests-returns-in-Asks t c = rw (form_given_by (context_seen c.args.c), c.in_ok-test.ensures, c.in-Asks.is) refl

-- `more_tests`: the next test has a fault
pub more_tests-returns-in_err-test : goal.more_tests-returns-in_err-test
more_tests-returns-in_err-test t c = gives_err _ _ c.from_residual.ensures.1 c.in_err-test.ensures (λ h. sym c.loop-choice.invariant
    ∙ rw (more_given_by (context_seen c.args.c), h) refl)

-- `more_tests`: a colon ends the tests
pub more_tests-returns-in-Asks : goal.more_tests-returns-in-Asks
more_tests-returns-in-Asks t c =
    sym c.loop-choice.invariant ∙ rw (more_given_by (context_seen c.args.c), c.in_ok-test.ensures, c.in-Asks.is) refl

-- `more_tests`: after a bar the tests so far and those that follow are all
pub more_tests-loop-choice-preserved : goal.more_tests-loop-choice-preserved
more_tests-loop-choice-preserved t c =
    (rw (more_given_by (context_seen c.args.c), c.in_ok-test.ensures, c.in-Bars.is) at c.loop-choice.invariant)

-- `more_tests`: after a test fewer bytes are left
pub more_tests-loop-choice-smaller : goal.more_tests-loop-choice-smaller
more_tests-loop-choice-smaller t c =
    omega (
      arith,
      test_shorter (context_seen c.args.c) c.args.at c.args.outer c.loop-choice.choice _ (seen c.loop-choice.r) (seen c.test.new.r)
          (rw c.in-Bars.is at c.in_ok-test.ensures),
    )

-- `tests`: a pattern after an ampersand has a fault
pub tests-returns-in_err-patterns-in-Joins : goal.tests-returns-in_err-patterns-in-Joins
tests-returns-in_err-patterns-in-Joins t c =
    gives_err _ _ c.from_residual-in_err-patterns-in-Joins.ensures.1 c.in_err-patterns-in-Joins.ensures (λ h. rw (form_given_by
    (context_seen c.args.c))
    (rw (c.in_ok-test.ensures, c.in-Joins.is, h) refl))

-- `tests`: an ampersand leads to more patterns
pub tests-returns-in_ok-patterns-in-Joins : goal.tests-returns-in_ok-patterns-in-Joins
tests-returns-in_ok-patterns-in-Joins t c =
    rw (form_given_by (context_seen c.args.c), c.in_ok-test.ensures, c.in-Joins.is, c.in_ok-patterns-in-Joins.ensures) refl

-- `tests`: a test after a bar has a fault
pub tests-returns-in_err-more_tests-in-Bars : goal.tests-returns-in_err-more_tests-in-Bars
tests-returns-in_err-more_tests-in-Bars t c =
    gives_err _ _ c.from_residual-in_err-more_tests-in-Bars.ensures.1 c.in_err-more_tests-in-Bars.ensures
    (λ h. rw (form_given_by (context_seen c.args.c), c.in_ok-test.ensures, c.in-Bars.is, h) refl)

-- `tests`: a bar leads to more tests
pub tests-returns-in_ok-more_tests-in-Bars : goal.tests-returns-in_ok-more_tests-in-Bars
tests-returns-in_ok-more_tests-in-Bars t c =
    rw (form_given_by (context_seen c.args.c), c.in_ok-test.ensures, c.in-Bars.is, c.in_ok-more_tests-in-Bars.ensures) refl

-- a test after a bar is no pattern
pub more_tests-returns-in-Emits : goal.more_tests-returns-in-Emits
more_tests-returns-in-Emits t c =
    inr (sym c.loop-choice.invariant ∙ elim c.in-Emits.is [
      | inl e ↦ rw (more_given_by (context_seen c.args.c), c.in_ok-test.ensures, e) refl
      | inr e ↦ rw (more_given_by (context_seen c.args.c), c.in_ok-test.ensures, e) refl
    ])

-- `choices`: what the braces begin with has a fault
pub choices-returns-in_err-tests : goal.choices-returns-in_err-tests
choices-returns-in_err-tests t c =
    gives_err _ _ c.from_residual.ensures.1 c.in_err-tests.ensures (λ h. rw (choices_given_by (context_seen c.args.c), h) refl)

-- `choices`: the braces are patterns
pub choices-returns-in-Patterns : goal.choices-returns-in-Patterns
choices-returns-in-Patterns t c = rw (choices_given_by (context_seen c.args.c), c.in_ok-tests.ensures, c.in-Patterns.is) refl

-- `choices`: the first X has a fault
pub choices-returns-in_err-x : goal.choices-returns-in_err-x
choices-returns-in_err-x t c = gives_err _ _ c.from_residual-in_err-x.ensures.1 c.in_err-x.ensures
    (λ h. rw (choices_given_by (context_seen c.args.c), c.in_ok-tests.ensures, c.in-Tests.is, h) refl)

-- `choices`: a later alternative has a fault
pub choices-returns-in_err-later : goal.choices-returns-in_err-later
choices-returns-in_err-later t c = gives_err _ _ c.from_residual-in_err-later.ensures.1 c.in_err-later.ensures
    (λ h. rw (
      choices_given_by (context_seen c.args.c),
      c.in_ok-tests.ensures,
      c.in-Tests.is,
      c.in_ok-x.ensures,
      differs _ _
          c.if-branch-ne125.true,
      h,
    ) refl)

-- `choices`: the first alternative, and those after it
pub choices-returns-in_ok-later : goal.choices-returns-in_ok-later
choices-returns-in_ok-later t c =
    rw (
      choices_given_by (context_seen c.args.c),
      c.in_ok-tests.ensures,
      c.in-Tests.is,
      c.in_ok-x.ensures,
      differs _ _
          c.if-branch-ne125.true,
      c.in_ok-later.ensures,
    ) refl

-- a closing brace (125) ends the first X, and the braces with it
pub choices-returns-else-branch-ne125 : goal.choices-returns-else-branch-ne125
choices-returns-else-branch-ne125 t c =
    rw (choices_given_by (context_seen c.args.c), c.in_ok-tests.ensures, c.in-Tests.is, c.in_ok-x.ensures, c.if-branch-ne125.false) refl

-- `later`: the X of the default has a fault
pub later-returns-in_err-x : goal.later-returns-in_err-x
later-returns-in_err-x t c = gives_err _ _ c.from_residual-in_err-x.ensures.1 c.in_err-x.ensures (λ h. sym c.loop-r.invariant
    ∙ default_turn (context_seen c.args.c) c.args.at c.args.outer c.requires (seen c.loop-r.r)
    (sym c.begins_after_white.ensures ∙ c.if-begins_after_white.true) _ c.skip_white.ensures _ _ (ok_same c.in_ok-choice.ensures)
    ∙ rw h refl)

-- another alternative follows the default
pub later-returns-then-branch-ne125 : goal.later-returns-then-branch-ne125
later-returns-then-branch-ne125 t c = inr (sym c.loop-r.invariant
    ∙ default_turn (context_seen c.args.c) c.args.at c.args.outer c.requires (seen c.loop-r.r)
    (sym c.begins_after_white.ensures ∙ c.if-begins_after_white.true) _ c.skip_white.ensures _ _ (ok_same c.in_ok-choice.ensures)
    ∙ rw (c.in_ok-x.ensures, differs _ _ c.if-branch-ne125.true) refl)

-- the default is the last alternative
pub later-returns-then-begins_after_white : goal.later-returns-then-begins_after_white
later-returns-then-begins_after_white t c = sym c.loop-r.invariant
    ∙ default_turn (context_seen c.args.c) c.args.at c.args.outer c.requires (seen c.loop-r.r)
    (sym c.begins_after_white.ensures ∙ c.if-begins_after_white.true) _ c.skip_white.ensures _ _ (ok_same c.in_ok-choice.ensures)
    ∙ rw (c.in_ok-x.ensures, c.if-branch-ne125.false) refl

-- `later`: the tests of the next alternative have a fault
pub later-returns-in_err-choice-2 : goal.later-returns-in_err-choice-2
later-returns-in_err-choice-2 t c =
    let e = sym c.begins_after_white.ensures ∙ c.if-begins_after_white.false in
    gives_err _ _ c.from_residual-in_err-choice-2.ensures.1 c.in_err-choice-2.ensures
    (λ h. sym c.loop-r.invariant ∙ rw (later_given_by (context_seen c.args.c) _ _ c.requires (seen c.loop-r.r) e, h)
    refl)

-- patterns are in the place of a later alternative
pub later-returns-in_default : goal.later-returns-in_default
later-returns-in_default t c =
    let e = sym c.begins_after_white.ensures ∙ c.if-begins_after_white.false in
    inr (sym c.loop-r.invariant ∙ rw (
      later_given_by (context_seen c.args.c) _ _ c.requires (seen c.loop-r.r) e,
      c.in_ok-choice-2.ensures,
      c.in_default.is,
    ) refl)

-- `later`: its X has a fault
pub later-returns-in_err-x-2 : goal.later-returns-in_err-x-2
later-returns-in_err-x-2 t c =
    let e = sym c.begins_after_white.ensures ∙ c.if-begins_after_white.false in
    gives_err _ _ c.from_residual-in_err-x-2.ensures.1 c.in_err-x-2.ensures
    (λ h. sym c.loop-r.invariant ∙ rw (
      later_given_by (context_seen c.args.c) _ _ c.requires (seen c.loop-r.r) e,
      c.in_ok-choice-2.ensures,
      c.in-Tests.is,
      h,
    ) refl)

-- a closing brace (125) ends the X of a later alternative
pub later-returns-then-branch-eq125 : goal.later-returns-then-branch-eq125
later-returns-then-branch-eq125 t c =
    let e = sym c.begins_after_white.ensures ∙ c.if-begins_after_white.false in
    sym c.loop-r.invariant ∙ rw (
      later_given_by (context_seen c.args.c) _ _ c.requires (seen c.loop-r.r) e,
      c.in_ok-choice-2.ensures,
      c.in-Tests.is,
      c.in_ok-x-2.ensures,
      c.if-branch-eq125.true,
    ) refl

-- `later`: after an alternative fewer bytes are left
pub later-loop-r-smaller : goal.later-loop-r-smaller
later-loop-r-smaller t c =
    let some : (c.args.c.levels == 0) ≡ false = grind (arith, nat_tests, c.requires) in
    omega (
      arith,
      form_shorter (context_seen c.args.c) c.args.at c.args.outer (seen c.loop-r.r) (seen c.tests.new.r) c.in_ok-choice-2.field-0
          (sym c.begins_after_white.ensures ∙ c.if-begins_after_white.false) c.in_ok-choice-2.ensures,
      x_shorter (context_seen c.args.c) c.args.at c.args.outer some c.in-Tests.choice (seen c.tests.new.r) (seen c.x-in-loop-r.new.r)
          c.in_ok-x-2.field-0 c.in_ok-x-2.ensures,
    )

-- `later`: the alternatives so far and those that follow are all
pub later-loop-r-preserved : goal.later-loop-r-preserved
later-loop-r-preserved t c =
    let e = sym c.begins_after_white.ensures ∙ c.if-begins_after_white.false in
    sym (rw (
      later_given_by (context_seen c.args.c) _ _ c.requires (seen c.loop-r.r) e,
      c.in_ok-choice-2.ensures,
      c.in-Tests.is,
      c.in_ok-x-2.ensures,
      differs _ _ c.if-branch-eq125.false,
    ) refl)
    ∙ c.loop-r.invariant

-- the inside of braces has a fault
pub braces-returns-in_err-inside : goal.braces-returns-in_err-inside
braces-returns-in_err-inside t c =
    gives_err _ _ c.from_residual-in_err-inside.ensures.1 c.in_err-inside.ensures (λ h. given_fails c.args.outer _
    (rw (← c.open_unnamed.ensures.rest) (fails_then _ (fails _ _ _ h))))

-- the inside of braces is read, in a part that opens and closes
pub braces-returns : goal.braces-returns
braces-returns t c =
    let b = taken c.args.outer (brace_on (seen c.open_unnamed.new.r).parts) _ c.in_ok-inside.ensures in
    let p = ok_same c.in_ok-part.ensures.part in
    let is : d.choices (around c.args.c.levels).0 (around c.args.c.levels).1 (context_seen c.args.c) c.args.at c.args.r.now.rest
    ≡ Took b.part b.rest = ap (λ (x : Open × Reading). d.choices (around c.args.c.levels).0 (around c.args.c.levels).1 (context_seen
    c.args.c)
    c.args.at x.1.rest) p ∙ b.is in
    rw is (ap (λ x. Ok x) (sym (c.close.ensures
    ∙ ap (λ k. closed_here k c.in_ok-part.part c.choices.new.r.rest.at (seen c.choices.new.r)) c.brace_token.ensures
    ∙ braces_wrote c.args.kind c.args.at (seen c.args.r.now) (seen c.open_unnamed.new.r) (seen c.choices.new.r) c.in_ok-part.part b.part
    c.in_ok-inside.inside b.rest p b.on)))

-- the arguments of a call have a fault
pub call-returns-in_err-items : goal.call-returns-in_err-items
call-returns-in_err-items t c =
    let n = value_taken c.outermost-outer.result (seen c.args.r.now) (d.function c.args.at c.args.r.now.rest) c.in_ok-name.ensures in
    let q = ap (λ (x : Open × Reading). x.1.rest) (ok_same c.in_ok-part.ensures) in
    let k = near_is (context_seen c.args.c) (in_arguments (context_seen c.args.c)) (context_seen c.in_arguments.result) c.requires refl
    c.in_arguments.ensures c.open.new.r.rest in
    gives_err _ _ c.from_residual-in_err-items.ensures.1 c.in_err-items.ensures.list (λ h. given_fails c.args.outer _ (fails_within
    c.args.at
    (rw (← c.outermost-outer.ensures, n.0, q, k) (fails_then _ (fails _ _ _ h)))))

-- the arguments of a call are read, in a part that opens and closes
pub call-returns : goal.call-returns
call-returns t c =
    let n = value_taken c.outermost-outer.result (seen c.args.r.now) (d.function c.args.at c.args.r.now.rest) c.in_ok-name.ensures in
    let p = ok_same c.in_ok-part.ensures in
    let q = ap (λ (x : Open × Reading). x.1.rest) p in
    let k = near_is (context_seen c.args.c) (in_arguments (context_seen c.args.c)) (context_seen c.in_arguments.result) c.requires refl
    c.in_arguments.ensures c.open.new.r.rest in
    let l = listed c.outermost-outer.result _ (seen c.open.new.r) _ c.in_ok-items.ensures.list in
    rw (n.0, q, k, l.is) (ap (λ x. Ok x) (sym (c.close.ensures
    ∙ ap (λ (r : Left). closed_here kinds.Function c.in_ok-part.part r.at (at_rest r (seen c.items.new.r))) c.take.ensures.left
    ∙ filled kinds.Function _ c.args.at (seen c.function.new.r) (seen c.open.new.r) c.in_ok-part.part l.list.0 (seen c.items.new.r).parts
    (after 1 c.items.new.r.rest) p l.parts_are
    ∙ ap (λ z. item_on c.args.at z (Function c.in_ok-name.name.now l.list.0) (after 1 c.items.new.r.rest)) (sym n.1))))

-- a test without a function (no % is there, 37)
pub test-returns-then-begun-ne37 : goal.test-returns-then-begun-ne37
test-returns-then-begun-ne37 t c =
    gives_same _ _ (test_plain c.args.outer c.args.at (order_seen c.args.order) (alternative_of c.args.order) (context_seen c.args.c)
    (seen c.args.r.now) _ _ c.in_ok-begun.ensures (differs _ _ c.if-begun-ne37.true)) c.plain_test.ensures

-- `test`: the call whose result is asked for has a fault
pub test-returns-in_err-choice : goal.test-returns-in_err-choice
test-returns-in_err-choice t c = gives_err _ _ c.from_residual-in_err-choice.ensures.1 c.in_err-choice.ensures (λ h.
    test_result c.args.outer c.args.at (order_seen c.args.order) (alternative_of c.args.order) (context_seen c.args.c)
    (seen c.args.r.now) _ _ c.in_ok-begun.ensures c.if-begun-ne37.false (deep_enough c.args.c.levels c.requires c.if-c-eq1.false)
    ∙ tried_fails c.args.outer c.args.at (order_seen c.args.order) (alternative_of c.args.order) (seen c.begin.new.r)
    (fails_then _ (fails _ _ _ h)))

-- `test`: the text ends after the call
pub test-returns-in_default : goal.test-returns-in_default
test-returns-in_default t c =
    inr (test_ends c.args.outer c.args.at (order_seen c.args.order) (alternative_of c.args.order) (context_seen c.args.c)
    (seen c.args.r.now) _ _ c.in_ok-begun.ensures
    c.if-begun-ne37.false (deep_enough c.args.c.levels c.requires c.if-c-eq1.false) _ (seen c.result.new.r) c.in_ok-choice.ensures _
    c.skip_white.ensures ∙ rw (← c.in_default.ensures, c.unclosed_fault.ensures) refl)

-- `test`: the byte after the call doesn't fit
pub test-returns-in_err-judged : goal.test-returns-in_err-judged
test-returns-in_err-judged t c = err_gives _ _ c.from_residual-in_err-judged.ensures.1
    (test_ends c.args.outer c.args.at (order_seen c.args.order) (alternative_of c.args.order) (context_seen c.args.c)
    (seen c.args.r.now) _ _ c.in_ok-begun.ensures
    c.if-begun-ne37.false (deep_enough c.args.c.levels c.requires c.if-c-eq1.false) _ (seen c.result.new.r) c.in_ok-choice.ensures _
    c.skip_white.ensures ∙ rw (← c.in-Some.ensures, sym c.judge_result.ensures ∙ c.in_err-judged.was) refl)

-- `test`: the byte after the call says what follows
pub test-returns : goal.test-returns
test-returns t c = test_ends c.args.outer c.args.at (order_seen c.args.order) (alternative_of c.args.order) (context_seen c.args.c)
    (seen c.args.r.now) _ _ c.in_ok-begun.ensures
    c.if-begun-ne37.false (deep_enough c.args.c.levels c.requires c.if-c-eq1.false) _ (seen c.result.new.r) c.in_ok-choice.ensures _
    c.skip_white.ensures ∙ rw (← c.in-Some.ensures, sym c.judge_result.ensures ∙ c.in_ok-judged.was, c.take.ensures.left) refl

-- the arguments of a test have a fault
pub result-returns-in_err-items : goal.result-returns-in_err-items
result-returns-in_err-items t c =
    let b = ap (λ (r : Left). first_of r.bytes) (sym c.take.ensures.left) ∙ sym c.in-Some.ensures ∙ ap (λ x. Some x) c.if-b-ne58.false in
    let n = value_taken c.outermost-outer.result (record { rest = c.take-2.new.self; parts = (seen c.args.r.now).parts }) (d.function
    c.at-percent.result
    c.take-2.new.self) c.in_ok-name.ensures in
    let f = ap (λ (r : Left). d.function c.args.r.now.rest.at r) (sym (c.take-2.ensures.left ∙ ap (λ (r : Left). after 1 r)
    c.take.ensures.left)) ∙ ap (λ (m : ℕ). d.function m c.take-2.new.self) (sym c.at-percent.ensures.place) ∙ n.0 in
    let q = sym c.open_alternative.ensures.rest ∙ ap (λ (x : Open × Reading). x.1.rest) (ok_same c.in_ok-part.ensures) in
    let k = far_is (context_seen c.args.c) (in_arguments (in_braces (context_seen c.args.c))) (context_seen c.in_arguments.result)
    c.requires.levels refl (c.in_arguments.ensures ∙ ap (λ x. in_arguments x) c.in_braces.ensures) c.open.new.r.rest in
    gives_err _ _ c.from_residual-in_err-items.ensures.1 c.in_err-items.ensures.list (λ h. rw b (given_fails c.args.outer _ (fails_within
    c.args.at
    (rw (← c.outermost-outer.ensures, f, q, k) (fails_then _ (fails _ _ _ h))))))

-- the arguments of a test are read, in a part that opens and closes
pub result-returns : goal.result-returns
result-returns t c =
    let b = ap (λ (r : Left). first_of r.bytes) (sym c.take.ensures.left) ∙ sym c.in-Some.ensures ∙ ap (λ x. Some x) c.if-b-ne58.false in
    let n = value_taken c.outermost-outer.result (record { rest = c.take-2.new.self; parts = (seen c.args.r.now).parts }) (d.function
    c.at-percent.result
    c.take-2.new.self) c.in_ok-name.ensures in
    let f = ap (λ (r : Left). d.function c.args.r.now.rest.at r) (sym (c.take-2.ensures.left ∙ ap (λ (r : Left). after 1 r)
    c.take.ensures.left)) ∙ ap (λ (m : ℕ). d.function m c.take-2.new.self) (sym c.at-percent.ensures.place) ∙ n.0 in
    let p = ok_same c.in_ok-part.ensures in
    let q = sym c.open_alternative.ensures.rest ∙ ap (λ (x : Open × Reading). x.1.rest) p in
    let k = far_is (context_seen c.args.c) (in_arguments (in_braces (context_seen c.args.c))) (context_seen c.in_arguments.result)
    c.requires.levels refl (c.in_arguments.ensures ∙ ap (λ x. in_arguments x) c.in_braces.ensures) c.open.new.r.rest in
    let l = listed c.outermost-outer.result _ (seen c.open.new.r) _ c.in_ok-items.ensures.list in
    let own = ap (λ z. choice_open (alternative_of c.args.test.order) c.args.test.begun.start z) n.1
    ∙ ap (λ o. choice_open o c.args.test.begun.start (seen c.function.new.r).parts) (sym c.alternative_of.ensures)
    ∙ ok_same c.in_ok-choice.ensures.choice in
    rw (b, f, q, k, l.is) (ap (λ x. Ok x) (result_wrote c.args.test.begun.start c.args.test.begun.negated c.in_ok-name.name.now l.list.0
    (after 1 c.items.new.r.rest) _ c.in_ok-choice.choice (seen c.open_alternative.new.r) own
    ∙ ap (λ (w : Reading). (record { part = c.in_ok-choice.choice.part; label = c.in_ok-choice.choice.label; starred = false }, w))
    (sym (c.close.ensures
    ∙ ap (λ (r : Left). closed_here kinds.Test c.in_ok-part.part r.at (at_rest r (seen c.items.new.r))) c.take-3.ensures.left
    ∙ filled kinds.Test _ c.args.test.begun.start (seen c.open_alternative.new.r) (seen c.open.new.r) c.in_ok-part.part l.list.0
    (seen c.items.new.r).parts (after 1 c.items.new.r.rest) p l.parts_are))))

-- `percent`: a directive without lists
pub percent-returns-then-is_simple : goal.percent-returns-then-is_simple
percent-returns-then-is_simple t c =
    gives_same _ _ (percent_simple (context_seen c.args.c) c.args.outer (seen c.args.r.now) _ c.at-at.ensures.place _ c.take.ensures.left
    c.in-Some.b (sym c.in-Some.ensures) (sym c.allows.ensures ∙ c.if-not-allows.false) _ c.take-2.ensures.left _
    c.directive_of-d.ensures (sym c.is_simple.ensures ∙ c.if-is_simple.true)) c.directive.ensures

-- `percent`: a call of a function
pub percent-returns-in-WithCall : goal.percent-returns-in-WithCall
percent-returns-in-WithCall t c =
    gives_same _ _ (percent_by (context_seen c.args.c) c.args.outer (seen c.args.r.now) _ c.at-at.ensures.place _ c.take.ensures.left
    c.in-Some.b (sym c.in-Some.ensures) (sym c.allows.ensures ∙ c.if-not-allows.false) _ c.take-2.ensures.left _
    (sym c.in-WithCall.is ∙ c.directive_of-d.ensures) ∙ rw (differs _ _ c.if-c-eq0.false) refl) c.call.ensures

-- `percent`: a directive with braces
pub percent-returns-in-WithBraces : goal.percent-returns-in-WithBraces
percent-returns-in-WithBraces t c =
    gives_same _ _ (percent_by (context_seen c.args.c) c.args.outer (seen c.args.r.now) _ c.at-at.ensures.place _ c.take.ensures.left
    c.in-Some.b (sym c.in-Some.ensures) (sym c.allows.ensures ∙ c.if-not-allows.false) _ c.take-2.ensures.left _
    (sym c.in-WithBraces.is ∙ c.directive_of-d.ensures) ∙ rw (differs _ _ c.if-c-eq0.false) refl) c.braces.ensures

-- the text ends after %W or %@
pub percent-returns-in_default-first : goal.percent-returns-in_default-first
percent-returns-in_default-first t c =
    inr (percent_by (context_seen c.args.c) c.args.outer (seen c.args.r.now) _ c.at-at.ensures.place _ c.take.ensures.left c.in-Some.b
    (sym c.in-Some.ensures) (sym c.allows.ensures ∙ c.if-not-allows.false) _ c.take-2.ensures.left _
    (sym c.in-WithMarkedBraces.is ∙ c.directive_of-d.ensures)
    ∙ rw (differs _ _ c.if-c-eq0.false, ← c.in_default-first.ensures, c.unclosed_fault-in_default-first.ensures) refl)

-- another byte than an opening brace (123) follows %W or %@
pub percent-returns-then-b-ne123 : goal.percent-returns-then-b-ne123
percent-returns-then-b-ne123 t c =
    inr (percent_by (context_seen c.args.c) c.args.outer (seen c.args.r.now) _ c.at-at.ensures.place _ c.take.ensures.left c.in-Some.b
    (sym c.in-Some.ensures) (sym c.allows.ensures ∙ c.if-not-allows.false) _ c.take-2.ensures.left _
    (sym c.in-WithMarkedBraces.is ∙ c.directive_of-d.ensures)
    ∙ rw (differs _ _ c.if-c-eq0.false, ← c.in-Some-first.ensures, differs _ _ c.if-b-ne123.true) refl)

-- `percent`: braces, if the byte after the directive is `{`
pub percent-returns-else-b-ne123 : goal.percent-returns-else-b-ne123
percent-returns-else-b-ne123 t c =
    gives_same _ _ (percent_by (context_seen c.args.c) c.args.outer (seen c.args.r.now) _ c.at-at.ensures.place _ c.take.ensures.left
    c.in-Some.b (sym c.in-Some.ensures) (sym c.allows.ensures ∙ c.if-not-allows.false) _ c.take-2.ensures.left _
    (sym c.in-WithMarkedBraces.is ∙ c.directive_of-d.ensures)
    ∙ rw (differs _ _ c.if-c-eq0.false, ← c.in-Some-first.ensures, c.if-b-ne123.false)
    (ap (λ (r : Left). item_given c.args.outer c.at-at.result (seen c.args.r.now) (d.braces (around c.args.c.levels).0
    (around c.args.c.levels).1 (context_seen c.args.c) c.at-at.result c.in-WithMarkedBraces.kind r))
    (sym c.take-in-WithMarkedBraces.ensures.left))) c.braces-in-WithMarkedBraces.ensures
