use Rattle.drv_compile.proofs.Files.{plain_asked}
use Rattle.drv_compile.proofs.finding.plain_at.Goals as goal

-- Names: `plain_asked`: `plain_at` asks what is at a path, if there is one.

pub returns-clause-path : goal.returns-clause-path
returns-clause-path g c F e =
    plain_asked F c.args.path c.in-Some.path c.in_ok-kind.kind c.path_if_plain.result c.in-Some.is
    (e.kinds c.in-Some.path c.in_ok-kind.kind c.in_ok-kind.ensures.known) c.path_if_plain.ensures
