use Rattle.drv_words.proofs.ReadBack.{one_list}
use Rattle.drv_words.proofs.reading_back.one_list_of_lines.Goals as goal

-- two lists of lines that a text shows are one
pub returns : goal.returns
returns c = one_list
