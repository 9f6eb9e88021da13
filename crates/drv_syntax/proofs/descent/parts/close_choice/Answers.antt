use Rattle.drv_syntax.proofs.Wrote.{owned_of}
use Rattle.drv_syntax.proofs.descent.parts.close_choice.Goals as goal
use Rattle.drv_syntax.specs.Code.Writing.{seen}

-- Names: `owned_of`: the fields that the code leaves when it closes an alternative are those that the definition says. `seen`: what a
-- `Reader` of the code has read.

-- what was written after the tail is taken back, and the alternative's token and label are filled in
pub returns : goal.returns
returns c =
    owned_of c.args.choice c.args.tail c.args.r.now.holds_star (seen c.args.r.now) c.truncate.new.self c.close.new.self
    c.truncate-2.new.self c.hold.new.self
    c.truncate.ensures c.truncate-2.ensures c.close.ensures c.hold.ensures
