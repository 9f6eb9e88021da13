use Rattle.drv_gcc.specs.Replacing.{put_other, replaced}
use Rattle.std.proofs.Common.{◌≡◌, ◌-◌, ◌<◌, ◌≤◌, ◌∙◌, List, [], ◌∷◌, ◌++◌, ap, append_assoc, arith, drop, false, get_or, length, nat_eq}
use Rattle.std.proofs.Common.{suc, sym, take, true, zero, ℕ}
use Rattle.std.proofs.lemmas.List.{take_all}
use Rattle.std.specs.List.{starts_with}

-- For `replace` (src/replacing.rt): the steps of the loop that replaces a form.
-- Names: `left` is what is left of the text. `form` is what is replaced, and `other` what takes its place. `word` is the text so far, and
-- `after` with what this step adds. `whole` is the whole result. `skip` is how many bytes are part of the form before, and `next` that
-- after this step. `b` is the first byte, and `d` what a look-up gives where there is none. `replaced form other skip left` is a text with
-- the form in other words (specs/Replacing).

-- all that follows the first byte
after_first : (b : ℕ) (text : List ℕ) → take (length (b ∷ text) - 1) text ≡ text
after_first b text = take_all (length (b ∷ text) - 1) text (omega arith)

-- the next byte is part of the form
pub skipped_next : (left form other word whole : List ℕ) (skip : ℕ) → 1 ≤ length left → 0 < skip
    → word ++ replaced form other skip left ≡ whole
    → word ++ replaced form other (skip - 1) (take (length left - 1) (drop 1 left)) ≡ whole
skipped_next [] form other word whole skip some more before = absurd (omega (arith, some))
skipped_next (b ∷ text) form other word whole zero some more before = absurd (omega (arith, more))
skipped_next (b ∷ text) form other word whole (suc k) some more before =
    let e : suc k - 1 ≡ k = omega arith in
    rw e (ap (λ l. word ++ replaced form other k l) (after_first b text) ∙ before)

-- the text begins with the form: the other one takes its place
pub form_next : (left form other word after whole : List ℕ) (skip next : ℕ) → 1 ≤ length left → skip ≡ 0
    → starts_with nat_eq left form ≡ true
    → after ≡ word ++ other → next ≡ length form - 1 → word ++ replaced form other skip left ≡ whole
    → after ++ replaced form other next (take (length left - 1) (drop 1 left)) ≡ whole
form_next [] form other word after whole skip next some none is put so before = absurd (omega (arith, some))
form_next (b ∷ text) form other word after whole skip next some none is put so before =
    ap (λ l. l ++ replaced form other next (take (length (b ∷ text) - 1) text)) put
    ∙ append_assoc word other (replaced form other next (take (length (b ∷ text) - 1) text))
    ∙ ap (λ l. word ++ (other ++ replaced form other next l)) (after_first b text)
    ∙ ap (λ n. word ++ (other ++ replaced form other n text)) so
    ∙ ap (λ t. word ++ put_other other (λ skip. replaced form other skip text) t (length form - 1) b) (sym is)
    ∙ ap (λ n. word ++ replaced form other n (b ∷ text)) (sym none) ∙ before

-- the text doesn't begin with the form: its first byte stays
pub byte_next : (left form other word after whole : List ℕ) (b skip d : ℕ) → 1 ≤ length left → b ≡ get_or left 0 d → skip ≡ 0
    → starts_with nat_eq left form ≡ false → after ≡ word ++ (b ∷ []) → word ++ replaced form other skip left ≡ whole
    → after ++ replaced form other skip (take (length left - 1) (drop 1 left)) ≡ whole
byte_next [] form other word after whole b skip d some first none is put before = absurd (omega (arith, some))
byte_next (c ∷ text) form other word after whole b skip d some first none is put before =
    ap (λ l. l ++ replaced form other skip (take (length (c ∷ text) - 1) text)) put
    ∙ append_assoc word (b ∷ []) (replaced form other skip (take (length (c ∷ text) - 1) text))
    ∙ ap (λ l. word ++ (b ∷ replaced form other skip l)) (after_first c text)
    ∙ ap (λ n. word ++ (b ∷ replaced form other n text)) none
    ∙ ap (λ x. word ++ (x ∷ replaced form other 0 text)) first
    ∙ ap (λ t. word ++ put_other other (λ skip. replaced form other skip text) t (length form - 1) c) (sym is)
    ∙ ap (λ n. word ++ replaced form other n (c ∷ text)) (sym none) ∙ before
