use Rattle.drv_machine.proofs.Cutter.{bytes_put}
use Rattle.drv_machine.proofs.machine.Machine.put_bytes.Goals as goal
use Rattle.drv_machine.specs.Code.Running.{reached}
use Rattle.drv_machine.specs.contracts.machine.Machine.{the_view}
use Rattle.std.proofs.Common.{◌∙◌, ◌++◌, ap, sym}

-- Names: `n`: how many items were reached. `F`: what is known of the outside. `bytes_put`: a word that has grown by some bytes. `reached n
-- s`: the machine s where n items were reached.

-- the bytes go into the open word, or open one
pub returns : goal.returns
returns c n F C = rw (← c.self.view_is)
    (bytes_put F C (reached n (the_view c.self.inside)) c.args.bytes.now c.add_bytes.new.word.items c.if-is_empty.ensures
    (c.in_ok-add_bytes.ensures.ok ∙ ap (λ word. word ++ c.args.bytes.now) (sym c.self.invariant)))
