use Rattle.drv_machine.proofs.CutFiles.{arguments_around, file_words_are, lines_around, stray_around}
use Rattle.drv_machine.proofs.cut_laws.file_law.Goals as goal

-- each clause is a lemma of CutFiles
pub returns : goal.returns
returns c = record { words = file_words_are; lines = lines_around; stray = stray_around; arguments = arguments_around }
