use Rattle.drv_gcc.specs.Answers.{first_word, head, name_before, names_from, with_named}
use Rattle.drv_words.specs.Bytes as byte
use Rattle.std.proofs.Common.{◌≡◌, ◌-◌, ◌==◌, ◌≤◌, ◌∙◌, List, [], ◌∷◌, ◌++◌, ap, append_assoc, arith, drop, false, get_or, if◌then◌else◌}
use Rattle.std.proofs.Common.{length, sym, take, true, ℕ}
use Rattle.std.proofs.lemmas.List.{take_all}

-- For `named_texts`, `values` and `options` (src/answers.rt and src/listed.rt): the steps of the loops that look for names.
-- Names: `left` is what is left of the text. `word` is the name so far, and `after` with one byte more; in `next_byte` `names` is the names
-- so far, and `after` with those that begin here. `whole` is the whole result. `b` is the first byte, and `d` what a look-up gives where
-- there is none. `head` is a text up to its first `=`, and that too.

-- all that follows the first byte
after_first : (b : ℕ) (text : List ℕ) → take (length (b ∷ text) - 1) text ≡ text
after_first b text = take_all (length (b ∷ text) - 1) text (omega arith)

-- the names that begin at the first byte are noted, and the text is one byte shorter
pub next_byte : (left beginning : List ℕ) (names after whole : List (List ℕ)) → 1 ≤ length left → after ≡ with_named beginning names left
    → names_from beginning names left ≡ whole → names_from beginning after (take (length left - 1) (drop 1 left)) ≡ whole
next_byte [] beginning names after whole some is before = absurd (omega (arith, some))
next_byte (b ∷ text) beginning names after whole some is before =
    ap (names_from beginning after) (after_first b text) ∙ ap (λ n. names_from beginning n text) is ∙ before

-- a byte before the parenthesis is one of the name
pub name_next : (left word whole : List ℕ) (b d : ℕ) → 1 ≤ length left → b ≡ get_or left 0 d → (b == byte.closing_parenthesis) ≡ false
    → word ++ name_before left ≡ whole
    → (word ++ (b ∷ [])) ++ name_before (take (length left - 1) (drop 1 left)) ≡ whole
name_next [] word whole b d some first goes before = absurd (omega (arith, some))
name_next (c ∷ text) word whole b d some first goes before =
    append_assoc word (b ∷ []) (name_before (take (length (c ∷ text) - 1) text))
    ∙ ap (λ l. word ++ (b ∷ name_before l)) (after_first c text)
    ∙ ap (λ x. word ++ (x ∷ name_before text)) first
    ∙ ap (λ t. word ++ (if t then [] else c ∷ name_before text)) (sym goes ∙ ap (λ x. x == byte.closing_parenthesis) first)
    ∙ before

-- a byte before the blank is one of the word
pub word_next : (left word whole : List ℕ) (b d : ℕ) → 1 ≤ length left → b ≡ get_or left 0 d → (b == byte.space) ≡ false
    → word ++ first_word left ≡ whole
    → (word ++ (b ∷ [])) ++ first_word (take (length left - 1) (drop 1 left)) ≡ whole
word_next [] word whole b d some first goes before = absurd (omega (arith, some))
word_next (c ∷ text) word whole b d some first goes before =
    append_assoc word (b ∷ []) (first_word (take (length (c ∷ text) - 1) text))
    ∙ ap (λ l. word ++ (b ∷ first_word l)) (after_first c text)
    ∙ ap (λ x. word ++ (x ∷ first_word text)) first
    ∙ ap (λ t. word ++ (if t then [] else c ∷ first_word text)) (sym goes ∙ ap (λ x. x == byte.space) first)
    ∙ before

-- a byte before the equals sign is one of the name
pub head_next : (left word after whole : List ℕ) (b d : ℕ) → 1 ≤ length left → b ≡ get_or left 0 d → (b == byte.equals) ≡ false
    → after ≡ word ++ (b ∷ [])
    → word ++ head left ≡ whole → after ++ head (take (length left - 1) (drop 1 left)) ≡ whole
head_next [] word after whole b d some first goes put before = absurd (omega (arith, some))
head_next (c ∷ text) word after whole b d some first goes put before =
    ap (λ l. l ++ head (take (length (c ∷ text) - 1) text)) put
    ∙ append_assoc word (b ∷ []) (head (take (length (c ∷ text) - 1) text))
    ∙ ap (λ l. word ++ (b ∷ head l)) (after_first c text)
    ∙ ap (λ x. word ++ (x ∷ head text)) first
    ∙ ap (λ t. word ++ (if t then c ∷ [] else c ∷ head text)) (sym goes ∙ ap (λ x. x == byte.equals) first)
    ∙ before

-- the equals sign is the last byte of the name
pub head_here : (left word after whole : List ℕ) (b d : ℕ) → 1 ≤ length left → b ≡ get_or left 0 d → (b == byte.equals) ≡ true
    → after ≡ word ++ (b ∷ [])
    → word ++ head left ≡ whole → after ≡ whole
head_here [] word after whole b d some first is put before = absurd (omega (arith, some))
head_here (c ∷ text) word after whole b d some first is put before =
    put ∙ ap (λ x. word ++ (x ∷ [])) first
    ∙ ap (λ t. word ++ (if t then c ∷ [] else c ∷ head text)) (sym is ∙ ap (λ x. x == byte.equals) first)
    ∙ before
