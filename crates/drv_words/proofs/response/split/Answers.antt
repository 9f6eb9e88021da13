use Rattle.drv_words.proofs.Splitting.{split_is_grammar, split_is_only}
use Rattle.std.proofs.lemmas.Result.{IfOk-weaker}
use Rattle.drv_words.proofs.response.split.Goals as goal

-- Names: `split_is_grammar`: what the splitter makes of a text, the grammar gives. `split_is_only`: no other words are those of the text.

-- the words are those of the grammar
pub returns-clause-words : goal.returns-clause-words
returns-clause-words c = IfOk-weaker _ _ _ (λ words. split_is_grammar c.args.text.now c.new.result words c.new.ensures) c.split_text.ensures

-- no other words are
pub returns-clause-only : goal.returns-clause-only
returns-clause-only c = IfOk-weaker _ _ _ (λ words. split_is_only c.args.text.now c.new.result words c.new.ensures) c.split_text.ensures
