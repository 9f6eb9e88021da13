use Rattle.drv_words.proofs.Shown.{shown_text}
use Rattle.drv_words.specs.Printed.{lines_text}
use Rattle.std.proofs.Common.{◌≡◌, arith}
use Rattle.std.proofs.lemmas.Grind.{common_steps}
use Rattle.drv_words.proofs.printing.render.Goals as goal

-- the text shows the lines, since it is their printed form
pub returns-clause-shows : goal.returns-clause-shows
returns-clause-shows c =
    let is : c.from_vec.result ≡ lines_text c.args.lines.now = grind (arith, common_steps) in shown_text _ _ is
