use Rattle.drv_words.proofs.ReadBack.{shown_is_found}
use Rattle.drv_words.proofs.Soundness.{found_is_shown}
use Rattle.std.proofs.lemmas.Result.{IfOk-weaker}
use Rattle.drv_words.proofs.reading_back.read_back.Goals as goal

-- Names: `shown_is_found`: the reader finds every list of lines that a text shows. `found_is_shown`: the reader finds the lines that the
-- text shows.

-- the lines that were found are shown by the text
pub returns-clause-shown : goal.returns-clause-shown
returns-clause-shown c = IfOk-weaker _ _ _ (found_is_shown c.args.text.now) c.read_lines.ensures

-- where the text shows lines, they are found
pub returns-clause-always : goal.returns-clause-always
returns-clause-always c = IfOk-weaker _ _ _ (shown_is_found c.args.text.now) c.read_lines.ensures
