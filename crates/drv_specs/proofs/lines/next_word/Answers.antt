use Rattle.drv_specs.proofs.Sliced.{words_alone, words_none, words_some}
use Rattle.drv_specs.proofs.lines.next_word.Goals as goal
use Rattle.drv_specs.specs.Lines.{words_of}
use Rattle.std.proofs.Common.{◌∷◌, ◌∙◌, ap, sym, take}

-- Names: `words_alone`: a line without a blank after its front has one word. `words_none`: the words of a line.

pub returns-then-not-has_byte-clause-none : goal.returns-then-not-has_byte-clause-none
returns-then-not-has_byte-clause-none c = words_none c.args.text.now c.without_blanks-text.result.now c.without_blanks-text.ensures.bytes
    (sym c.has_byte.ensures ∙ c.if-not-has_byte.true)

pub returns-in-Some-clause-some : goal.returns-in-Some-clause-some
returns-in-Some-clause-some c =
    words_some c.args.text.now c.without_blanks-text.result.now c.find_byteset.result c.in-Some.at c.without_blanks-text.ensures.bytes
    (sym c.has_byte.ensures ∙ c.if-not-has_byte.false) c.find_byteset.ensures c.in-Some.is
    ∙ ap (λ t. take c.in-Some.at c.without_blanks-text.result.now ∷ words_of t) (sym c.following.ensures)

pub returns-in-None-clause-some : goal.returns-in-None-clause-some
returns-in-None-clause-some c =
    words_alone c.args.text.now c.without_blanks-text.result.now c.find_byteset.result c.without_blanks-text.ensures.bytes
    (sym c.has_byte.ensures ∙ c.if-not-has_byte.false) c.find_byteset.ensures c.in-None.is
