use Rattle.drv_machine.proofs.Finished.{all_grouped, grouped_none}
use Rattle.drv_machine.proofs.machine.finishing.groups_of.Goals as goal
use Rattle.drv_machine.specs.Outcome.{groups}
use Rattle.drv_system.proofs.AskedCalls.{asked_further, asked_none, extends_before}
use Rattle.std.proofs.Common.{arith, [], ◌∷◌, ◌≡◌, ◌∙◌, ap, append-nil, append_assoc, rules, sym}
use Rattle.std.proofs.lemmas.Iterator.Adapters.{YieldsList-from_vec}
use Rattle.std.proofs.lemmas.Iterator.Consumers.{YieldsList-end}
use Rattle.std.proofs.lemmas.List.{map-id}

-- Names: `F`: what is known of the outside. `e`: that `F` extends the facts of this call. `all_grouped`: after the last command the group
-- that is begun ends. `grouped_none`: before the first command no group has ended or begun, and what the lines give is all.
-- `asked_further`: calls that only asked, one after another. `asked_none`: a call that leaves the outside as it was only asked.

-- before the first command no group has ended or begun
pub loop-line-init : goal.loop-line-init
loop-line-init g c = record {
  asks = asked_none c.args.outside.now;
  made =
      λ F e rest. grouped_none c.new.result c.new-2.result.items (groups F c.args.context.now rest) c.new.ensures
      (search rules);
}

-- one command is added, and the others are left
pub loop-line-preserved : goal.loop-line-preserved
loop-line-preserved g c = record {
  asks = asked_further c.loop-line.invariant.asks c.add_line.ensures.asks;
  made = λ F e rest.
      ap (groups F c.args.context.now) (append_assoc c.loop-line.yielded (c.in-Some.line ∷ []) rest)
      ∙ c.loop-line.invariant.made F (extends_before c.add_line.ensures.asks e) (c.in-Some.line ∷ rest)
      ∙ c.in_ok-add_line.ensures.added F e rest;
}

-- all commands are added, and the group that is begun ends
pub returns-clause-made : goal.returns-clause-made
returns-clause-made g c F e =
    let given = c.into_iter-line-iterator.ensures.into_iter_gives in
    let ended =
    YieldsList-end (YieldsList-from_vec {s = c.into_iter-line-iterator.result} c.into_vec-line-items.result.items given.0
    (omega (arith, given.1, c.into_vec-line-items.result.ok.0))) c.loop-line.yielded c.loop-line.line-iterator c.loop-line.yielded_by
    c.next.result c.next.new.self c.in-None.is c.next.ensures.steps in
    let all : c.loop-line.yielded ≡ c.args.lines = sym (map-id c.loop-line.yielded) ∙ ended.0 ∙ c.into_vec-line-items.ensures in
    ap (groups F c.args.context.now) (sym all ∙ sym (append-nil c.loop-line.yielded)) ∙ c.loop-line.invariant.made F e []
    ∙ all_grouped F c.args.context.now c.loop-line.grouping.ended c.push_group.new.groups c.loop-line.grouping.begun.items
    c.in_ok-push_group.ensures
