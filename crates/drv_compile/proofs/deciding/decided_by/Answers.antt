use Rattle.drv_compile.proofs.Decided.{compiler_given, surrounded}
use Rattle.drv_compile.proofs.deciding.decided_by.Goals as goal
use Rattle.drv_system.proofs.AskedCalls.{asked_further, extends_before}
use Rattle.std.proofs.Common.{◌∙◌, sym}

pub returns-clause-asks : goal.returns-clause-asks
returns-clause-asks g c = asked_further (asked_further c.variable.ensures.asks c.variable-2.ensures.asks) c.decided_around.ensures.asks

-- What was asked for the two variables stays known while the later calls ask more.
pub returns-clause-decision : goal.returns-clause-decision
returns-clause-decision g c F e =
    let after = extends_before c.decided_around.ensures.asks e in
    compiler_given F c.args.path c.args.words.now c.args.about c.as_bytes-text.result.now c.in-Some.compiler _
    c.in_ok-compiler_path.compiler_path c.in_ok-library_path.library_path c.decided_around.result c.as_bytes-text.ensures
    (sym c.in_ok-compiler.ensures ∙ c.in-Some.is)
    (surrounded c.args.path c.as_bytes.result.now c.as_bytes-text.result.now c.in-Some.compiler
    c.in_ok-folders.folders c.in_ok-copies.copies
    c.in_ok-children.children c.in_ok-compiler_path.compiler_path c.in_ok-library_path.library_path c.as_bytes.ensures
    c.in_ok-folders.ensures c.in_ok-copies.ensures c.in_ok-children.ensures)
    (c.in_ok-compiler_path.ensures.value F (extends_before c.variable-2.ensures.asks after))
    (c.in_ok-library_path.ensures.value F after) (c.decided_around.ensures.decision F e)
