use Rattle.drv_machine.proofs.Draws.{piped_out}
use Rattle.drv_machine.proofs.Steps.{gives_as}
use Rattle.drv_machine.proofs.machine.Machine.put_temp.Goals as goal
use Rattle.drv_machine.specs.Code.Running.{reached}
use Rattle.std.proofs.Common.{sym, ◌∙◌}

-- Names: `n`: how many items were reached. `F`: what is known of the outside. `e`: that `F` extends the facts of this call. `reached n s`:
-- the machine s where n items were reached. `piped_out`: where commands are piped, %| is a hyphen.

-- with -pipe a %| is a hyphen
pub returns-in-PipedOut-clause-does : goal.returns-in-PipedOut-clause-does
returns-in-PipedOut-clause-does g c n F e =
    gives_as (reached n c.put.new.self) c.put.result _ _ (piped_out F c.args.context.now (reached n c.args.self.now) c.args.kind
    c.args.suffix.now c.in-PipedOut.is (sym c.is_piping.ensures ∙ c.if-is_piping.true)) (c.put.ensures n F c.args.context.now)
