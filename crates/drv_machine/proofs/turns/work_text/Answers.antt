use Rattle.drv_machine.proofs.Onward.{left_in}
use Rattle.drv_machine.proofs.Standing.{whole_there}
use Rattle.drv_machine.proofs.TurnSteps.{framed_of, lain_of, started}
use Rattle.drv_machine.proofs.turns.work_text.Goals as goal
use Rattle.drv_machine.specs.Atoms.{items_step, levels_left}
use Rattle.drv_machine.specs.Code.Counting.{state}
use Rattle.drv_machine.specs.Code.Running.{run}
use Rattle.drv_machine.specs.Working.{most_open}
use Rattle.drv_syntax.specs.Parsed.{tree_of}
use Rattle.drv_system.specs.Facts.{no_facts}
use Rattle.std.proofs.Common.{[], ap, length}

-- Names: `F`: what is known of the outside. `e`: that `F` extends the facts of this call. `no_facts`: nothing is known yet. `state`: the
-- state of a machine and its count. `tree_of`: the tree of a text. `left_in`: `Left` with another name for the same text.

-- the items of the text lie from its first place to its last
pub work_items-requires-clause-lain : goal.work_items-requires-clause-lain
work_items-requires-clause-lain g c =
    let given = run no_facts c.args.context.now (state c.args.tally.now)
    (items_step no_facts c.args.context.now (tree_of c.args.text.now) (levels_left no_facts c.args.context.now most_open) []) in
    lain_of no_facts c.args.context.now c.new-walk.result.text.now c.new-walk.result (state c.args.tally.now) given
    (left_in no_facts c.args.context.now c.args.text.now c.new-walk.result.text.now c.new-walk.result (state c.args.tally.now) given
    c.new-walk.ensures.text
    (started no_facts c.args.context.now c.args.text.now c.new-walk.result (state c.args.tally.now) (tree_of c.args.text.now)
    (length c.tokens.result.now)
    (whole_there c.args.text.now (length c.tokens.result.now) (ap (λ ts. length ts) c.tokens.ensures)) c.new-walk.ensures.at
    c.new-walk.ensures.end c.new-walk.ensures.star c.new-walk.ensures.frames))

-- a walk that begins has no open part
pub work_items-requires-clause-framed : goal.work_items-requires-clause-framed
work_items-requires-clause-framed g c =
    let given = run no_facts c.args.context.now (state c.args.tally.now)
    (items_step no_facts c.args.context.now (tree_of c.args.text.now) (levels_left no_facts c.args.context.now most_open) []) in
    framed_of no_facts c.args.context.now c.new-walk.result.text.now c.new-walk.result (state c.args.tally.now) given
    (left_in no_facts c.args.context.now c.args.text.now c.new-walk.result.text.now c.new-walk.result (state c.args.tally.now) given
    c.new-walk.ensures.text
    (started no_facts c.args.context.now c.args.text.now c.new-walk.result (state c.args.tally.now) (tree_of c.args.text.now)
    (length c.tokens.result.now)
    (whole_there c.args.text.now (length c.tokens.result.now) (ap (λ ts. length ts) c.tokens.ensures)) c.new-walk.ensures.at
    c.new-walk.ensures.end c.new-walk.ensures.star c.new-walk.ensures.frames))

-- the walk over the text gives what its items mean
pub returns-clause-does : goal.returns-clause-does
returns-clause-does g c F e =
    let given = run F c.args.context.now (state c.args.tally.now)
    (items_step F c.args.context.now (tree_of c.args.text.now) (levels_left F c.args.context.now most_open) []) in
    c.work_items.ensures.does F e given
    (left_in F c.args.context.now c.args.text.now c.new-walk.result.text.now c.new-walk.result (state c.args.tally.now) given
    c.new-walk.ensures.text
    (started F c.args.context.now c.args.text.now c.new-walk.result (state c.args.tally.now) (tree_of c.args.text.now)
    (length c.tokens.result.now)
    (whole_there c.args.text.now (length c.tokens.result.now) (ap (λ ts. length ts) c.tokens.ensures)) c.new-walk.ensures.at
    c.new-walk.ensures.end c.new-walk.ensures.star c.new-walk.ensures.frames))
