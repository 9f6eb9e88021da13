use Rattle.drv_words.proofs.Counting.{fitting, within}
use Rattle.drv_words.specs.Response.{SplitsOnto}
use Rattle.std.proofs.Common.{◌≡◌, ◌-◌, ◌∙◌, IsTrue, List, ap, arith, length, nat_le, subst, ℕ}
use Rattle.drv_words.proofs.response.split_within.Goals as goal

-- Names: `fitting`: if the words that were made fit, they are all words of the text. `within`: words that were made of the text, no further
-- than to one more than are permitted.

-- the words fit where the text has at most so many
pub returns-clause-counts : goal.returns-clause-counts
returns-clause-counts c =
    let made : c.saturating_sub.result ≡ length c.in_ok-words.field-0 - length c.replace-others.result =
    omega (arith, c.saturating_sub.ensures, c.len.ensures, c.len-before.ensures) in
    ap (λ n. nat_le n c.args.most) made ∙ within c.args.text.now c.replace-others.result c.in_ok-words.field-0 c.args.most
    c.in_ok-words.ensures.all c.in_ok-words.ensures.more

-- if the words that were made are few enough, they are all words of the text
pub returns-clause-splits : goal.returns-clause-splits
returns-clause-splits c fits =
    let made : c.saturating_sub.result ≡ length c.in_ok-words.field-0 - length c.replace-others.result =
    omega (arith, c.saturating_sub.ensures, c.len.ensures, c.len-before.ensures) in
    let P : List (List ℕ) → Type 0 = λ others. SplitsOnto c.args.text.now others c.in_ok-words.field-0 in
    let Q : ℕ → Type 0 = λ n. IsTrue (nat_le n c.args.most) in
    subst P c.replace-others.ensures.value
    (fitting c.args.text.now c.replace-others.result c.in_ok-words.field-0 c.args.most c.in_ok-words.ensures.all (subst Q made fits))
