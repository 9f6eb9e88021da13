use Rattle.drv_cc.proofs.Lines.{further}
use Rattle.drv_cc.proofs.known.stands_at.Goals as goal
use Rattle.std.proofs.Common.{◌-◌}

-- the end of another line precedes the place, and this line begins there
pub returns-then-byte-eq10 : goal.returns-then-byte-eq10
returns-then-byte-eq10 c =
    further (c.args.at - 1) c.args.text.now c.rest_from.result.now c.args.line.now c.begins_with-then-byte-eq10.result c.rest_from.ensures
    c.in-len1-up.len_at_least
    c.begins_with-then-byte-eq10.ensures c.if-byte-eq10.true
