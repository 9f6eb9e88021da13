use Rattle.drv_dump.specs.Grammar.{is_white}
use Rattle.drv_dump.specs.Passed.{passed_from, passed_word, with_option}
use Rattle.std.proofs.Common.{◌≡◌, ◌-◌, ◌≤◌, ◌∙◌, List, [], ◌∷◌, ◌++◌, ap, append_assoc, arith, codes, drop, false, get_or, if◌then◌else◌}
use Rattle.std.proofs.Common.{length, sym, take, true, ℕ}
use Rattle.std.proofs.lemmas.List.{take_all}

-- For `pass_libraries` (src/passed.rt): the loop that copies the names of libraries, byte by byte.
-- Names: `copy`: the text as it is written again. `b`: a byte. `left`: what is left of the text. `whole`: what the whole text gives. `mid`:
-- what is between. `d`: the byte that the code reads where a list has none. `passed_from`: the words of plain bytes, of which the last one
-- has these bytes so far. `passed_word`: what a word becomes.

-- a word after the option
pub option_put : (copy mid after word : List ℕ) → mid ≡ copy ++ codes "-plugin-opt=-pass-through=" → after ≡ mid ++ word
    → after ≡ copy ++ with_option word
option_put copy mid after word one put = put ∙ ap (λ l. l ++ word) one ∙ append_assoc copy (codes "-plugin-opt=-pass-through=") word

-- The steps of the loop over plain bytes.

-- all that follows the first byte
after_first : (b : ℕ) (text : List ℕ) → take (length (b ∷ text) - 1) text ≡ text
after_first b text = take_all (length (b ∷ text) - 1) text (omega arith)

-- a byte that ends a word
pub ended_next : (left word copy mid after whole : List ℕ) (b d : ℕ) → 1 ≤ length left → b ≡ get_or left 0 d → is_white b ≡ true
    → mid ≡ copy ++ passed_word word
    → after ≡ mid ++ (b ∷ []) → copy ++ passed_from word left ≡ whole
    → after ++ passed_from [] (take (length left - 1) (drop 1 left)) ≡ whole
ended_next [] word copy mid after whole b d some first white passed put before = absurd (omega (arith, some))
ended_next (c ∷ text) word copy mid after whole b d some first white passed put before =
    ap (λ l. after ++ passed_from [] l) (after_first c text)
    ∙ ap (λ l. l ++ passed_from [] text) (put ∙ ap (λ l. l ++ (b ∷ [])) passed)
    ∙ append_assoc (copy ++ passed_word word) (b ∷ []) (passed_from [] text)
    ∙ append_assoc copy (passed_word word) (b ∷ passed_from [] text)
    ∙ ap (λ x. copy ++ (passed_word word ++ (x ∷ passed_from [] text))) first
    ∙ ap (λ t. copy ++ (if t then passed_word word ++ (c ∷ passed_from [] text) else passed_from (word ++ (c ∷ [])) text))
    (sym white ∙ ap is_white first)
    ∙ before

-- a byte of a word
pub word_next : (left word copy whole : List ℕ) (b d : ℕ) → 1 ≤ length left → b ≡ get_or left 0 d → is_white b ≡ false
    → copy ++ passed_from word left ≡ whole → copy ++ passed_from (word ++ (b ∷ [])) (take (length left - 1) (drop 1 left)) ≡ whole
word_next [] word copy whole b d some first other before = absurd (omega (arith, some))
word_next (c ∷ text) word copy whole b d some first other before =
    ap (λ l. copy ++ passed_from (word ++ (b ∷ [])) l) (after_first c text)
    ∙ ap (λ x. copy ++ passed_from (word ++ (x ∷ [])) text) first
    ∙ ap (λ t. copy ++ (if t then passed_word word ++ (c ∷ passed_from [] text) else passed_from (word ++ (c ∷ [])) text))
    (sym other ∙ ap is_white first)
    ∙ before
