use Rattle.drv_compile.proofs.Settled.{chooses_it, chooses_later, chooses_none, chooses_own, tries_it, tries_later, tries_no_more}
use Rattle.drv_compile.proofs.Settled.{tries_none_yet}
use Rattle.drv_compile.proofs.temp_folder.first_usable.Goals as goal
use Rattle.std.proofs.Common.{arith, refl, rules}

pub loop-name-init : goal.loop-name-init
loop-name-init g c = record { chooses = search rules; tries = tries_none_yet _ _ }

-- the folder at hand is usable, and none before it: it is chosen
pub returns-then-branch-clause-chooses : goal.returns-then-branch-clause-chooses
returns-then-branch-clause-chooses g c =
    let copy = c.clone.ensures.cases in
    chooses_it c.args.names.now c.loop-name.name-index c.name-item.result c.in_ok-is_usable.field-0 _ _ _ c.clone.result
    c.loop-name-test.true c.name-item.is
    c.if-branch.true c.in_ok-is_usable.ensures.event c.loop-name.invariant.chooses (search rules)

pub returns-then-branch-clause-tries : goal.returns-then-branch-clause-tries
returns-then-branch-clause-tries g c =
    tries_it c.args.names.now c.loop-name.name-index c.name-item.result c.in_ok-is_usable.field-0 _ _ _ c.loop-name-test.true c.name-item.is
    c.in_ok-is_usable.ensures.event c.loop-name.invariant.tries

-- One folder more isn't usable: the choice is later, and it was tried in vain.
pub loop-name-preserved : goal.loop-name-preserved
loop-name-preserved g c = record {
  chooses =
      chooses_later c.args.names.now c.loop-name.name-index c.name-item.result c.in_ok-is_usable.field-0 _ _ _ c.loop-name-test.true
      c.name-item.is
      c.if-branch.false c.in_ok-is_usable.ensures.event c.loop-name.invariant.chooses;
  tries =
      tries_later c.args.names.now c.loop-name.name-index c.name-item.result c.in_ok-is_usable.field-0 _ _ _ c.loop-name-test.true
      c.name-item.is
      c.if-branch.false c.in_ok-is_usable.ensures.event c.loop-name.invariant.tries;
}

pub returns-in_err-is_usable-clause-chooses : goal.returns-in_err-is_usable-clause-chooses
returns-in_err-is_usable-clause-chooses g c =
    chooses_none c.args.names.now c.loop-name.name-index _ _ _ c.from_residual.result _ _ c.loop-name.invariant.chooses
    c.in_err-is_usable.ensures.memory c.from_residual.ensures.1

pub returns-in_err-is_usable-clause-tries : goal.returns-in_err-is_usable-clause-tries
returns-in_err-is_usable-clause-tries g c =
    tries_no_more c.args.names.now c.loop-name.name-index _ _ _ c.in_err-is_usable.ensures.memory c.loop-name.invariant.tries

pub returns-clause-chooses : goal.returns-clause-chooses
returns-clause-chooses g c =
    chooses_own c.args.names.now c.loop-name.name-index _ _ c.from_bytes.result
    (omega (arith, c.loop-name-test.false)) c.loop-name.invariant.chooses c.from_bytes.ensures

pub returns-clause-tries : goal.returns-clause-tries
returns-clause-tries g c = tries_no_more c.args.names.now c.loop-name.name-index _ _ _ refl c.loop-name.invariant.tries
