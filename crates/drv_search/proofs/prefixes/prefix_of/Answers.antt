use Rattle.drv_search.proofs.Candidates.{prefix_given}
use Rattle.drv_search.proofs.prefixes.prefix_of.Goals as goal
use Rattle.drv_search.specs.Search.{is_prefix}
use Rattle.std.proofs.Common.{◌∙◌, ap, sym}

-- Names: `prefix_given`: the prefix of -B, by the kind that the code asked. `is_prefix`: an argument that is empty or ends with a slash is
-- a prefix already.

-- the prefix ends with a slash where the argument is a folder
pub returns-clause-prefix : goal.returns-clause-prefix
returns-clause-prefix g c F e = prefix_given F c.args.dir.now c.in_ok-kind.kind c.prefix_for.result (ap is_prefix (sym c.as_bytes.ensures)
    ∙ sym c.is_prefix.ensures ∙ c.if-is_prefix.false) (e.kinds c.args.dir.now c.in_ok-kind.kind c.in_ok-kind.ensures.known)
    c.prefix_for.ensures
