use Rattle.drv_syntax.proofs.descent.lists.+list.Given as goal
use Rattle.drv_syntax.specs.Code.Lists.{around, context_seen, later_given, listed_given, tail_at}
use Rattle.drv_syntax.specs.Code.Tests.{more_given}
use Rattle.drv_syntax.specs.Code.Writing.{seen}
use Rattle.drv_syntax.specs.Descent as descent
use Rattle.std.proofs.Common.{◌≡◌, ◌+◌, ◌*◌, length}

-- The functions of the reader that call one another (src/descent/): each gives what the descent gives for its list, choice, test or call.

-- each call of the cycle takes a lower number than its caller: 10 for each level that may still be opened, and then the order of the
-- functions, from `items` down. A call that opens no level so goes on to a function further down.
abbrev pub decreases-items : goal.decreases-items
decreases-items l = 10 * l.c.levels + 9

-- `percent` is next below `items`, which calls it in the same list
abbrev pub decreases-percent : goal.decreases-percent
decreases-percent l = 10 * l.c.levels + 8

-- `braces` is next below `percent`, which calls it
abbrev pub decreases-braces : goal.decreases-braces
decreases-braces l = 10 * l.c.levels + 7

-- `choices` is next below `braces`, which calls it
abbrev pub decreases-choices : goal.decreases-choices
decreases-choices l = 10 * l.c.levels + 6

-- `later` is next below `choices`, which calls it
abbrev pub decreases-later : goal.decreases-later
decreases-later l = 10 * l.c.levels + 5

-- `tests` is next below `later`, which calls it
abbrev pub decreases-tests : goal.decreases-tests
decreases-tests l = 10 * l.c.levels + 4

-- `more_tests` is next below `tests`, which calls it
abbrev pub decreases-more_tests : goal.decreases-more_tests
decreases-more_tests l = 10 * l.c.levels + 3

-- `test` is next below `more_tests`, which calls it
abbrev pub decreases-test : goal.decreases-test
decreases-test l = 10 * l.c.levels + 2

-- `result` is below `test`, which calls it, and above `items` of a level less
abbrev pub decreases-result : goal.decreases-result
decreases-result l = 10 * l.c.levels + 1

-- `x` is below `later`, which calls it, and above `items` of a level less
abbrev pub decreases-x : goal.decreases-x
decreases-x l = 10 * l.c.levels + 1

-- `call` is below `percent`, which calls it, and above `items` of a level less
abbrev pub decreases-call : goal.decreases-call
decreases-call l = 10 * l.c.levels + 1

-- a round of `items`: what it has written so far and what Descent gives of the text that is left make what is given of the whole list
abbrev pub invariant-items-loop-tail : goal.invariant-items-loop-tail
invariant-items-loop-tail l =
    listed_given l.outer l.tail (seen l.r)
    (descent.items (around l.c.levels).0 (around l.c.levels).1 (context_seen l.c) l.r.rest)
    ≡ listed_given l.fn.outer (tail_at (seen l.fn.r)) (seen l.fn.r)
    ((descent.levels l.fn.c.levels).0 (context_seen l.fn.c) l.fn.r.rest)

-- each round of `items` takes a byte of the text at least
abbrev pub decreases-items-loop-tail : goal.decreases-items-loop-tail
decreases-items-loop-tail l = length l.r.rest.bytes

-- a round of `later`: the alternatives so far and what Descent gives of the text that is left make what is given of all alternatives
-- after the first
abbrev pub invariant-later-loop-r : goal.invariant-later-loop-r
invariant-later-loop-r l =
    later_given l.outer (seen l.r)
    (descent.later (around l.c.levels).0 (around l.c.levels).1 (context_seen l.c) l.at l.r.rest)
    ≡ later_given l.fn.outer (seen l.fn.r)
    (descent.later (around l.fn.c.levels).0 (around l.fn.c.levels).1 (context_seen l.fn.c) l.fn.at l.fn.r.rest)

-- each round of `later` takes a byte of the text at least
abbrev pub decreases-later-loop-r : goal.decreases-later-loop-r
decreases-later-loop-r l = length l.r.rest.bytes

-- a round of `more_tests`: the tests so far and what Descent gives of the text that is left make what is given of all tests after a bar
abbrev pub invariant-more_tests-loop-choice : goal.invariant-more_tests-loop-choice
invariant-more_tests-loop-choice l =
    more_given l.outer l.choice (seen l.r)
    (descent.more_tests (around l.c.levels).1 (context_seen l.c) l.at l.r.rest)
    ≡ more_given l.fn.outer l.fn.choice (seen l.fn.r)
    (descent.more_tests (around l.fn.c.levels).1 (context_seen l.fn.c) l.fn.at l.fn.r.rest)

-- each round of `more_tests` takes a byte of the text at least
abbrev pub decreases-more_tests-loop-choice : goal.decreases-more_tests-loop-choice
decreases-more_tests-loop-choice l = length l.r.rest.bytes
