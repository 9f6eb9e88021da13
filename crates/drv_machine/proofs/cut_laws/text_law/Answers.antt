use Rattle.drv_machine.proofs.TextStretches.{are_stretched, part_balanced, text_balanced}
use Rattle.drv_machine.proofs.Told.{told}
use Rattle.drv_machine.proofs.cut_laws.text_law.Goals as goal

-- each clause is a lemma: Told and TextStretches
pub returns : goal.returns
returns c = record { stretched = are_stretched; told = told; balanced = text_balanced; parts = part_balanced }
