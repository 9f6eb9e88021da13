use Rattle.drv_funcs.proofs.Ends.{all_changed}
use Rattle.drv_funcs.proofs.changes.apply_changes.Goals as goal

-- the words with all ends are those after the changes one by one
pub returns : goal.returns
returns c = all_changed c.args.changes.now c.args.words.now c.in_ok-ends.ends c.with_ends.result c.in_ok-ends.ensures c.with_ends.ensures
