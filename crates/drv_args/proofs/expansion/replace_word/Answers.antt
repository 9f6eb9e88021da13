use Rattle.drv_args.proofs.Expanding.{itself_by, replacement_is}
use Rattle.drv_args.proofs.Limiting.{text_over, text_within}
use Rattle.drv_args.specs.Expansion.{by_answer, is_over, judged}
use Rattle.drv_system.specs.Known.{Is}
use Rattle.drv_words.specs.Response.{SplitsOnto}
use Rattle.std.proofs.Common.{◌≡◌, List, ap, inr, not, refl, subst, sym, ◌∙◌, ℕ}
use Rattle.drv_args.proofs.expansion.replace_word.Goals as goal

-- Names: `F`: what is known of the outside. `e`: that `F` extends the facts of this call. `replacement_is`: the replacement of a word, by
-- the facts after the call that asked for its file. `is_over`: whether a text has more words than the limit. `by_answer`: by the answer for
-- the file. `judged`: a text with too many words counts as too large.

-- the file's text was read and has few enough words
pub returns-then-branch-clause-replaces : goal.returns-then-branch-clause-replaces
returns-then-branch-clause-replaces g c F e =
    let P : List ℕ → Type 0 = λ text. SplitsOnto text c.args.words.now c.add_words.new.words in
    let fits : c.in_ok-add_words-in-Read.field-0 ≡ not (is_over c.args.most c.in-Read.text) = c.in_ok-add_words-in-Read.ensures.fits
    ∙ ap (λ text. not (is_over c.args.most text)) c.as_bytes.ensures in (
      c.len-start.ensures,
      (
        c.in-Read.text,
        replacement_is c.args.most F c.read.new.self c.args.word.now c.in-Some.path c.read_answer.result.now e
            (sym c.in_ok-path.ensures ∙ c.in-Some.is) c.read_answer.ensures
            ∙ ap (λ answer. Is (by_answer c.in-Some.path (judged c.args.most answer))) c.in-Read.is
            ∙ ap Is (text_within c.args.most c.in-Some.path c.in-Read.text c.in_ok-add_words-in-Read.field-0 fits c.if-branch.true),
        subst P c.as_bytes.ensures (c.in_ok-add_words-in-Read.ensures.splits c.if-branch.true),
      ),
    )

-- the file's text was read and has too many words
pub returns-else-branch-clause-replaces : goal.returns-else-branch-clause-replaces
returns-else-branch-clause-replaces g c F e =
    let fits : c.in_ok-add_words-in-Read.field-0 ≡ not (is_over c.args.most c.in-Read.text) = c.in_ok-add_words-in-Read.ensures.fits
    ∙ ap (λ text. not (is_over c.args.most text)) c.as_bytes.ensures in
    inr (
      c.in-Some.path,
      replacement_is c.args.most F c.read.new.self c.args.word.now c.in-Some.path c.read_answer.result.now e
          (sym c.in_ok-path.ensures ∙ c.in-Some.is) c.read_answer.ensures
          ∙ ap (λ answer. Is (by_answer c.in-Some.path (judged c.args.most answer))) c.in-Read.is
          ∙ ap Is (text_over c.args.most c.in-Some.path c.in-Read.text c.in_ok-add_words-in-Read.field-0 fits c.if-branch.false),
      refl,
    )

-- the file is too large to be read
pub returns-in-TooLarge-clause-replaces : goal.returns-in-TooLarge-clause-replaces
returns-in-TooLarge-clause-replaces g c F e =
    inr (
      c.in-Some.path,
      replacement_is c.args.most F c.read.new.self c.args.word.now c.in-Some.path c.read_answer.result.now e
          (sym c.in_ok-path.ensures ∙ c.in-Some.is) c.read_answer.ensures
          ∙ ap (λ answer. Is (by_answer c.in-Some.path (judged c.args.most answer))) c.in-TooLarge.is,
      refl,
    )

-- the file is not there: the word is given as it is
pub returns-in-Missing-clause-replaces : goal.returns-in-Missing-clause-replaces
returns-in-Missing-clause-replaces g c F e = (
  replacement_is c.args.most F c.read.new.self c.args.word.now c.in-Some.path c.read_answer.result.now e
      (sym c.in_ok-path.ensures ∙ c.in-Some.is) c.read_answer.ensures
      ∙ itself_by c.args.most c.in-Some.path c.read_answer.result.now c.in-Missing.is,
  refl,
)
