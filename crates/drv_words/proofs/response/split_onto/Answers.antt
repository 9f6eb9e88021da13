use Rattle.drv_words.proofs.Splitting.{split_is_onto}
use Rattle.drv_words.specs.Code.Splitter.{following, words_of}
use Rattle.std.proofs.Common.{◌∙◌, ap}
use Rattle.drv_words.proofs.response.split_onto.Goals as goal

-- Names: `split_is_onto`: the splitter's words are those of the grammar. `following`: at the start of a text, whose words are appended to
-- others.

-- the words of the text come after the others
pub returns : goal.returns
returns c =
    split_is_onto c.args.text.now c.args.words.now c.in_ok-words.field-0
    (c.in_ok-words.ensures ∙ ap (λ words. words_of (following words) c.args.text.now) c.replace-others.ensures.value)
