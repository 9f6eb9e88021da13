use Rattle.drv_machine.proofs.Cutter.{put_last}
use Rattle.drv_machine.proofs.machine.Machine.put_word.Goals as goal
use Rattle.drv_machine.specs.Atoms.{broken_word}
use Rattle.drv_machine.specs.Code.Running.{reached}
use Rattle.drv_machine.specs.Working.{Open}
use Rattle.std.proofs.Common.{[], ◌∷◌}

-- Names: `n`: how many items were reached. `F`: what is known of the outside. `e`: that `F` extends the facts of this call. `reached n s`:
-- the machine s where n items were reached. `put_last`: where the first part was put, what putting the second gives is what the whole
-- gives.

-- the word is put whole: it is opened, its bytes are put, and it ends
pub returns-clause-does : goal.returns-clause-does
returns-clause-does g c n F e =
    put_last F c.args.context.now (reached n c.args.self.now) (reached n c.open.new.self) (reached n c.put_broken.new.self) (Open ∷ [])
    (broken_word c.args.word.now) c.put_broken.result (c.open.ensures.does n F c.args.context.now) (c.put_broken.ensures.does n F e)
