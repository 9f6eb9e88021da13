use Rattle.drv_compile.proofs.Worded.{front_told}
use Rattle.drv_compile.proofs.expanding.gcc_words.Goals as goal
use Rattle.drv_compile.specs.Words.{stop_of}
use Rattle.std.proofs.Common.{◌∙◌, ap}

-- Names: `stop_of`: how a call ends before its work that the driver would end so. `front_told`: `gcc_words` says the front's refusal.

-- the front refuses the words: the call ends as the driver ends for them
pub returns-in_ok-stop-in-Err : goal.returns-in_ok-stop-in-Err
returns-in_ok-stop-in-Err c =
    front_told c.args.calling.now c.args.expanded c.in-Err.ending c.in_ok-stop-in-Err.stop
    (c.in_ok-stop-in-Err.ensures ∙ ap (λ n. stop_of n c.in-Err.ending) c.as_bytes.ensures) c.in-Err.ensures
