use Rattle.drv_compile.proofs.Files.{file_found_so}
use Rattle.drv_compile.proofs.finding.spec_file.Goals as goal
use Rattle.drv_system.proofs.AskedCalls.{extends_before}

-- Names: `file_found_so`: `spec_file` asks the variable first, and then what is at the path. `extends_before`: what extends the facts after
-- a call extends those before it.

pub returns-clause-path : goal.returns-clause-path
returns-clause-path g c F e =
    file_found_so F c.args.own c.in_ok-named.named c.or_own.result c.plain_at.result
    (c.in_ok-named.ensures.path F (extends_before c.plain_at.ensures.asks e)) c.or_own.ensures (c.plain_at.ensures.path F e)
