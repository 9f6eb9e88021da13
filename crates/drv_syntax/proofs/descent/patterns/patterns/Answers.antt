use Rattle.drv_syntax.proofs.Given.{patterns_turn}
use Rattle.drv_syntax.proofs.GivenLists.{turn_shorter}
use Rattle.drv_syntax.proofs.Progress.{patterns_by}
use Rattle.drv_syntax.proofs.Taken.{fails, fails_then, given_fails, given_mapped, gives_err, ok_same}
use Rattle.drv_syntax.proofs.WordRuns.{differs}
use Rattle.drv_syntax.proofs.descent.patterns.patterns.Goals as goal
use Rattle.drv_syntax.specs.Code.Tests.{patterns_given}
use Rattle.drv_syntax.specs.Code.Writing.{Reading, seen}
use Rattle.drv_syntax.specs.Descent as descent
use Rattle.drv_syntax.specs.Descent.{after_turn, then_read}
use Rattle.drv_syntax.specs.Rest.{Left}
use Rattle.std.proofs.Common.{ap, inr, length, refl, subst, sym, ◌<◌, ◌∙◌}
use Rattle.std.specs.Prelude.{Some}

-- Names: `seen`: what a `Reader` of the code has read. `patterns_turn`: patterns (`patterns` of lists.rt), as T after & in %{S*&T*}.
-- `fails_then`: two parts in a row have the fault of the first. `ok_same`: the values of two equal results are equal.

-- the next pattern has a fault
pub returns-in_err-p : goal.returns-in_err-p
returns-in_err-p c =
    gives_err _ _ c.from_residual.ensures.1 c.in_err-p.ensures (λ h. sym c.loop-p.invariant
    ∙ ap (λ r. patterns_given c.args.outer (seen c.loop-p.r) r) (patterns_by c.args.at c.loop-p.r.rest
    ∙ ap (λ (r : Left). then_read (descent.pattern_from c.args.at r) (after_turn (descent.patterns c.args.at))) (sym c.skip_white.ensures))
    ∙ given_fails c.args.outer _ (fails_then _ (fails_then _ (fails _ _ _ h))))

-- the text ends after a pattern
pub returns-in_default : goal.returns-in_default
returns-in_default c =
    inr (sym c.loop-p.invariant
    ∙ patterns_turn c.args.outer c.args.at (seen c.loop-p.r) _ c.skip_white.ensures _ c.at-start.ensures.place _ (seen c.pattern.new.r)
    c.in_ok-p.ensures _ c.at-end.ensures.place _ c.skip_white-in-loop-p.ensures
    ∙ rw (← c.in_default.ensures, c.unclosed_fault.ensures) refl)

-- another byte than } and & (38) follows a pattern
pub returns-then-b-ne38 : goal.returns-then-b-ne38
returns-then-b-ne38 c =
    inr (sym c.loop-p.invariant
    ∙ patterns_turn c.args.outer c.args.at (seen c.loop-p.r) _ c.skip_white.ensures _ c.at-start.ensures.place _ (seen c.pattern.new.r)
    c.in_ok-p.ensures _ c.at-end.ensures.place _ c.skip_white-in-loop-p.ensures
    ∙ rw (← c.in-Some.ensures, differs _ _ c.if-b-eq125.false, differs _ _ c.if-b-ne38.true) refl)

-- a closing brace (125) ends the patterns
pub returns-then-b-eq125 : goal.returns-then-b-eq125
returns-then-b-eq125 c =
    sym c.loop-p.invariant
    ∙ patterns_turn c.args.outer c.args.at (seen c.loop-p.r) _ c.skip_white.ensures _ c.at-start.ensures.place _ (seen c.pattern.new.r)
    c.in_ok-p.ensures _ c.at-end.ensures.place _ c.skip_white-in-loop-p.ensures
    ∙ rw (← c.in-Some.ensures, c.if-b-eq125.true) (rw c.take.ensures.left at c.in_ok-emit_pattern.ensures)

-- after an ampersand less of the text is left
pub loop-p-smaller : goal.loop-p-smaller
loop-p-smaller c =
    subst (λ (v : Reading). length v.rest.bytes < length c.loop-p.r.rest.bytes) (ok_same c.in_ok-emit_pattern-2.ensures)
    (turn_shorter c.args.outer c.args.at (seen c.loop-p.r) _ c.skip_white.ensures _ (seen c.pattern.new.r) c.in_ok-p.ensures _
    c.skip_white-in-loop-p.ensures (sym c.in-Some.ensures ∙ ap (λ x. Some x) c.if-b-ne38.false) _ c.take-in-loop-p.ensures.left)

-- after an ampersand the pattern is written, and the others follow
pub loop-p-preserved : goal.loop-p-preserved
loop-p-preserved c =
    sym (patterns_turn c.args.outer c.args.at (seen c.loop-p.r) _ c.skip_white.ensures _ c.at-start.ensures.place _ (seen c.pattern.new.r)
    c.in_ok-p.ensures _ c.at-end.ensures.place _ c.skip_white-in-loop-p.ensures
    ∙ rw (← c.in-Some.ensures, c.if-b-ne38.false)
    (given_mapped c.args.outer _ _ _ ∙ ap (λ (v : Reading). patterns_given c.args.outer v (descent.patterns c.args.at v.rest))
    (rw c.take-in-loop-p.ensures.left at (ok_same c.in_ok-emit_pattern-2.ensures)))) ∙ c.loop-p.invariant
