use Rattle.drv_words.proofs.Shown.{shown_word}
use Rattle.drv_words.specs.Printed.{quoted}
use Rattle.std.proofs.Common.{◌≡◌, arith}
use Rattle.std.proofs.lemmas.Grind.{common_steps}
use Rattle.drv_words.proofs.quoting.quote.Goals as goal

-- the text shows the word, since it is its printed form
pub returns-clause-shows : goal.returns-clause-shows
returns-clause-shows c = let is : c.from_vec.result ≡ quoted c.args.word.now = grind (arith, common_steps) in shown_word _ _ is
