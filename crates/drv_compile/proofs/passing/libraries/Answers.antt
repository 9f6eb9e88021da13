use Rattle.drv_compile.proofs.LinkLibraries.{last_library}
use Rattle.drv_compile.proofs.passing.libraries.Goals as goal

-- Names: `last_library`: once no word is left, the libraries so far are all.

pub returns : goal.returns
returns c = last_library c.loop-left.found c.loop-left.left.now c.args.words.now c.in_default.len_below c.loop-left.invariant
