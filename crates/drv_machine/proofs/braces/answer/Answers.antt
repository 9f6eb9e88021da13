use Rattle.drv_machine.proofs.Judging.{answer_false, answer_true, later_asks, later_true, none_later}
use Rattle.drv_machine.proofs.Standing.{stand_grows}
use Rattle.drv_machine.proofs.Steps.{ok_as}
use Rattle.drv_machine.proofs.TrueTests.{negated_kept}
use Rattle.drv_machine.proofs.braces.answer.Goals as goal
use Rattle.drv_machine.specs.Code.ByKind.{Found, Within}
use Rattle.drv_machine.specs.Code.Running.{reached}
use Rattle.drv_machine.specs.Code.Walking.{Went}
use Rattle.drv_machine.specs.declared.asking.Judged.{Judged}
use Rattle.drv_syntax.specs.Labels.{test_nodes}
use Rattle.drv_syntax.specs.Parsed.{tree_of}
use Rattle.drv_syntax.specs.Tokens.{tokens_of}
use Rattle.std.proofs.Common.{Ok, arith, false, length, subst, true}

-- Names: `n`: how many items were reached. `F`: what is known of the outside. `kept`: what follows arguments: their function, and the test
-- that it answers. `given`: what the walk gives in the end. `fits`, `b`: the clause's conditions `AskFits` and `Following`. `fits`: of the
-- type `AskFits` (specs/Code/Walking). `nodes`, `stands`: the fields of `Spans` (specs/Code/Standing). `reached n s`: the machine s where n
-- items were reached. `stand_grows`: parts end at or after the place where they begin. `ok_as`: what follows from a property of a step that
-- went well. `negated_kept`: whether a test is true, its ! considered, as the code computes it. `answer_false`: what follows a test that is
-- false.

-- the test is a token of the text
pub is_negated-requires : goal.is_negated-requires
is_negated-requires c = c.requires.2.in_list

-- the test is a token of the text, for its X
pub enter_alternative-requires : goal.enter_alternative-requires
enter_alternative-requires c = c.requires.2.in_list

-- the tests after it lie up to the X
pub first_true-requires : goal.first_true-requires
first_true-requires c = record { nodes = test_nodes c.requires.1.tests; stands = c.requires.2.tests_stand }

-- the test is true: its X is opened or reached
pub returns-then-holds-is_negated-clause-does : goal.returns-then-holds-is_negated-clause-does
returns-then-holds-is_negated-clause-does c n F items kept given fits b =
    c.enter_alternative.ensures.does n F kept.negated kept.asked items _ given fits.own_is fits.label_is fits.items_stand
    (answer_true F c.args.context.now c.args.walk.now.text.now c.args.walk.now items kept given c.args.asking fits c.args.holds
    (reached n c.args.machine.now) b (negated_kept kept.negated kept.asked c.args.walk.now.text.now c.args.asking.test c.args.holds
    c.is_negated.result true c.is_negated.ensures fits.label_is c.if-holds-is_negated.true))

-- a later test is true: its X is opened or reached
pub returns-in-True-clause-does : goal.returns-in-True-clause-does
returns-in-True-clause-does c n F items kept given fits b =
    let following = answer_false F c.args.context.now c.args.walk.now.text.now c.args.walk.now items kept given c.args.asking fits
    c.args.holds (reached n c.args.machine.now) b (negated_kept kept.negated kept.asked c.args.walk.now.text.now c.args.asking.test
    c.args.holds c.is_negated.result false c.is_negated.ensures fits.label_is c.if-holds-is_negated.false) in
    later_true F c.args.context.now c.args.walk.now.text.now c.args.walk.now items kept given c.args.asking fits c.args.holds
    (reached n c.args.machine.now) b following (reached n c.args.machine.now) c.in-True.test (λ levels star. subst
    (λ (f : Judged). Found F c.args.context.now c.args.walk.now.text.now c.args.asking.start (reached n c.args.machine.now)
    (reached n c.args.machine.now) (Ok f) kept.tests levels star) c.in-True.is
    (c.first_true.ensures.does n F kept.tests levels star fits.tests_stand)) (Went F c.args.context.now
    c.enter_alternative-in-True.new.walk.text.now c.enter_alternative-in-True.new.walk (reached n c.args.machine.now) given
    c.enter_alternative-in-True.result) (λ negated asked others label stands. c.enter_alternative-in-True.ensures.does n F negated asked
    items others given fits.own_is label fits.items_stand stands)

-- a later test by a function must be asked first
pub returns-in-Asks-clause-does : goal.returns-in-Asks-clause-does
returns-in-Asks-clause-does c n F items kept given fits b =
    let following = answer_false F c.args.context.now c.args.walk.now.text.now c.args.walk.now items kept given c.args.asking fits
    c.args.holds (reached n c.args.machine.now) b (negated_kept kept.negated kept.asked c.args.walk.now.text.now c.args.asking.test
    c.args.holds c.is_negated.result false c.is_negated.ensures fits.label_is c.if-holds-is_negated.false) in
    later_asks F c.args.context.now c.args.walk.now.text.now c.args.walk.now items kept given c.args.asking fits c.args.holds
    (reached n c.args.machine.now) b following (reached n c.args.machine.now) c.in-Asks.test c.token_at.result c.token_at.ensures
    (λ levels star. subst (λ (f : Judged). Found F c.args.context.now c.args.walk.now.text.now c.args.asking.start
    (reached n c.args.machine.now) (reached n c.args.machine.now) (Ok f) kept.tests levels star) c.in-Asks.is
    (c.first_true.ensures.does n F kept.tests levels star fits.tests_stand))
    (Went F c.args.context.now c.open_test.new.walk.text.now c.open_test.new.walk (reached n c.open_test.new.machine) given
    c.open_test.result) (λ arguments later others stands after. c.open_test.ensures.does n F c.args.context.now items arguments later given
    others stands after)

-- no later test is true: the alternatives after the X are chosen from
pub returns-in-Neither-clause-does : goal.returns-in-Neither-clause-does
returns-in-Neither-clause-does c n F items kept given fits b =
    let following = answer_false F c.args.context.now c.args.walk.now.text.now c.args.walk.now items kept given c.args.asking fits
    c.args.holds (reached n c.args.machine.now) b (negated_kept kept.negated kept.asked c.args.walk.now.text.now c.args.asking.test
    c.args.holds c.is_negated.result false c.is_negated.ensures fits.label_is c.if-holds-is_negated.false) in
    c.choose.ensures.does n F kept.choices given fits.choices_stand
    (none_later F c.args.context.now c.args.walk.now.text.now c.args.walk.now items kept given c.args.asking fits c.args.holds
    (reached n c.args.machine.now) b following (reached n c.args.machine.now) (λ levels star. subst
    (λ (f : Judged). Found F c.args.context.now c.args.walk.now.text.now c.args.asking.start (reached n c.args.machine.now)
    (reached n c.args.machine.now) (Ok f) kept.tests levels star) c.in-Neither.is
    (c.first_true.ensures.does n F kept.tests levels star fits.tests_stand)))

-- the later test by a function is before its X
pub open_test-requires : goal.open_test-requires
open_test-requires c =
    let found = subst (λ (f : Judged). Within c.args.asking.from c.args.asking.start (length (tokens_of (tree_of c.args.walk.now.text.now)))
    f) c.in-Asks.is c.first_true.ensures.within in
    found.1

-- to open an X for a hit adds no more than the switches of the line
pub returns-then-holds-is_negated-clause-lighter : goal.returns-then-holds-is_negated-clause-lighter
returns-then-holds-is_negated-clause-lighter c =
    ok_as c.enter_alternative.result (λ l. omega (arith, l)) c.enter_alternative.ensures.lighter

-- to open the X of a later test adds no more than the switches of the line
pub returns-in-True-clause-lighter : goal.returns-in-True-clause-lighter
returns-in-True-clause-lighter c = ok_as c.enter_alternative-in-True.result
    (λ l. omega (arith, l)) c.enter_alternative-in-True.ensures.lighter

-- to open a later test's arguments adds less than the test before it had: the places test, from, start, next, end of `Asking`
-- (src/walk.rt) never fall
pub returns-in-Asks-clause-lighter : goal.returns-in-Asks-clause-lighter
returns-in-Asks-clause-lighter c =
    let fits = c.requires.2 in
    let tests = stand_grows _ _ c.args.asking.from _ c.args.asking.start fits.tests_stand in
    let items = stand_grows _ _ c.args.asking.start _ c.args.asking.next fits.items_stand in
    let choices = stand_grows _ _ c.args.asking.next _ c.args.asking.end fits.choices_stand in
    let found = subst (λ (f : Judged). Within c.args.asking.from c.args.asking.start (length (tokens_of (tree_of c.args.walk.now.text.now)))
    f) c.in-Asks.is c.first_true.ensures.within in
    ok_as c.open_test.result (λ l. omega (arith, fits.later, tests, items, choices, found.0, l))
    (c.open_test.ensures.lighter (length c.args.context.now.switches))

-- to choose from the alternatives after it adds less than the test had
pub returns-in-Neither-clause-lighter : goal.returns-in-Neither-clause-lighter
returns-in-Neither-clause-lighter c =
    let fits = c.requires.2 in
    let tests = stand_grows _ _ c.args.asking.from _ c.args.asking.start fits.tests_stand in
    let items = stand_grows _ _ c.args.asking.start _ c.args.asking.next fits.items_stand in
    ok_as c.choose.result (λ l. omega (arith, fits.later, tests, items, l)) c.choose.ensures.lighter
