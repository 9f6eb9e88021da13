use Rattle.drv_compile.proofs.CutLines.{line_cut_off}
use Rattle.drv_compile.proofs.compilers.cut_line.Goals as goal

pub returns-in-Some-clause-lines : goal.returns-in-Some-clause-lines
returns-in-Some-clause-lines c = line_cut_off c.args.text.now c.find_byte.result c.in-Some.at c.find_byte.ensures c.in-Some.is
