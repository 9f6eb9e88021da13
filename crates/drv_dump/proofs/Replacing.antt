use Rattle.drv_dump.specs.Forms.{form_at, others, ours}
use Rattle.drv_dump.specs.Ours.{all_words, arguments_from, name_from, put, put_form, put_words, replaced, with_words, words_before}
use Rattle.drv_dump.specs.Ours.{words_of}
use Rattle.drv_dump.specs.declared.fault.OursFault.{OursFault}
use Rattle.drv_dump.specs.declared.forms.WholeForm.{WholeForm}
use Rattle.drv_dump.specs.declared.piece.Piece.{Piece}
use Rattle.drv_words.specs.Bytes as byte
use Rattle.std.proofs.Common.{◌≡◌, ◌+◌, ◌-◌, ◌<◌, ◌==◌, ◌≤◌, ◌∙◌, ◌⊎◌, Err, List, [], ◌∷◌, ◌++◌, None, Ok, Option, Result, Some, ap}
use Rattle.std.proofs.Common.{append_assoc, arith, drop, false, get_or, if◌then◌else◌, inl, inr, length, refl, suc, sym, take, true, zero}
use Rattle.std.proofs.Common.{ℕ}
use Rattle.std.proofs.lemmas.List.{at_drop_more, take_all}
use Rattle.drv_dump.proofs.Kept.{same_value}

-- For `translate_text` (src/ours.rt): the loops that replace forms of gcc by those of the driver.
-- Names: `left`: what is left of the text. `whole`: what the whole text gives. `b`: a byte. `skip`: how many bytes are already passed over.
-- `d`: the byte that the code reads where a list has none. `replaced`: a text with each form of several pieces in this driver's words.
-- `words_before`: words before those of other pieces. `all_words`: what all pieces become, or the first that becomes nothing.

-- all that follows the first byte
after_first : (b : ℕ) (text : List ℕ) → take (length (b ∷ text) - 1) text ≡ text
after_first b text = take_all (length (b ∷ text) - 1) text (omega arith)

-- the next byte is part of a form
pub skipped_next : (left word whole : List ℕ) (skip : ℕ) → 1 ≤ length left → 0 < skip → word ++ replaced skip left ≡ whole
    → word ++ replaced (skip - 1) (take (length left - 1) (drop 1 left)) ≡ whole
skipped_next [] word whole skip some more before = absurd (omega (arith, some))
skipped_next (b ∷ text) word whole zero some more before = absurd (omega (arith, more))
skipped_next (b ∷ text) word whole (suc k) some more before =
    let e : suc k - 1 ≡ k = omega arith in
    rw e (ap (λ l. word ++ replaced k l) (after_first b text) ∙ before)

-- the text begins with a form, or with none
pub form_next : (left word whole : List ℕ) (form : WholeForm) (skip : ℕ) → 1 ≤ length left → skip ≡ 0 → form_at left ≡ Some form
    → word ++ replaced skip left ≡ whole
    → (word ++ ours form) ++ replaced (others form) (take (length left - 1) (drop 1 left)) ≡ whole
form_next [] word whole form skip some none is before = absurd (omega (arith, some))
form_next (b ∷ text) word whole form skip some none is before =
    append_assoc word (ours form) (replaced (others form) (take (length (b ∷ text) - 1) text))
    ∙ ap (λ l. word ++ (ours form ++ replaced (others form) l)) (after_first b text)
    ∙ ap (λ f. word ++ put_form (λ skip. replaced skip text) f b) (sym is)
    ∙ ap (λ n. word ++ replaced n (b ∷ text)) (sym none) ∙ before

-- a byte at which no form begins stays
pub byte_next : (left word whole : List ℕ) (b skip d : ℕ) → 1 ≤ length left → b ≡ get_or left 0 d → skip ≡ 0 → form_at left ≡ None
    → word ++ replaced skip left ≡ whole
    → (word ++ (b ∷ [])) ++ replaced skip (take (length left - 1) (drop 1 left)) ≡ whole
byte_next [] word whole b skip d some first none is before = absurd (omega (arith, some))
byte_next (c ∷ text) word whole b skip d some first none is before =
    append_assoc word (b ∷ []) (replaced skip (take (length (c ∷ text) - 1) text))
    ∙ ap (λ l. word ++ (b ∷ replaced skip l)) (after_first c text)
    ∙ ap (λ n. word ++ (b ∷ replaced n text)) none
    ∙ ap (λ x. word ++ (x ∷ replaced 0 text)) first
    ∙ ap (λ f. word ++ put_form (λ skip. replaced skip text) f c) (sym is)
    ∙ ap (λ n. word ++ replaced n (c ∷ text)) (sym none) ∙ before

-- the name of a function goes on
pub name_next : (left word whole : List ℕ) (b d : ℕ) → 1 ≤ length left → b ≡ get_or left 0 d → (b == byte.opening_parenthesis) ≡ false
    → word ++ name_from left ≡ whole
    → (word ++ (b ∷ [])) ++ name_from (take (length left - 1) (drop 1 left)) ≡ whole
name_next [] word whole b d some first goes before = absurd (omega (arith, some))
name_next (c ∷ text) word whole b d some first goes before =
    append_assoc word (b ∷ []) (name_from (take (length (c ∷ text) - 1) text))
    ∙ ap (λ l. word ++ (b ∷ name_from l)) (after_first c text)
    ∙ ap (λ x. word ++ (x ∷ name_from text)) first
    ∙ ap (λ t. word ++ (if t then [] else c ∷ name_from text)) (sym goes ∙ ap (λ x. x == byte.opening_parenthesis) first)
    ∙ before

-- the arguments of a function begin after this byte
pub arguments_here : (left word whole : List ℕ) (b d : ℕ) → 1 ≤ length left → b ≡ get_or left 0 d → (b == byte.opening_parenthesis) ≡ true
    → word ++ arguments_from left ≡ whole
    → word ++ take (length left - 1) (drop 1 left) ≡ whole
arguments_here [] word whole b d some first is before = absurd (omega (arith, some))
arguments_here (c ∷ text) word whole b d some first is before =
    ap (λ l. word ++ l) (after_first c text)
    ∙ ap (λ t. word ++ (if t then text else arguments_from text)) (sym is ∙ ap (λ x. x == byte.opening_parenthesis) first) ∙ before

-- what follows a byte before the parenthesis has the same arguments
pub arguments_next : (left word whole : List ℕ) (b d : ℕ) → 1 ≤ length left → b ≡ get_or left 0 d → (b == byte.opening_parenthesis) ≡ false
    → word ++ arguments_from left ≡ whole
    → word ++ arguments_from (take (length left - 1) (drop 1 left)) ≡ whole
arguments_next [] word whole b d some first goes before = absurd (omega (arith, some))
arguments_next (c ∷ text) word whole b d some first goes before =
    ap (λ l. word ++ arguments_from l) (after_first c text)
    ∙ ap (λ t. word ++ (if t then text else arguments_from text)) (sym goes ∙ ap (λ x. x == byte.opening_parenthesis) first) ∙ before

-- a piece in other words
put_rest : (ws : Option (List ℕ)) (before after bytes : List ℕ) (rest : Result (List ℕ) OursFault) → put_words before ws bytes ≡ Ok after
    → words_before before (with_words ws bytes rest) ≡ words_before after rest
put_rest None before after bytes rest is = absurd cc
put_rest (Some ws) before after bytes (Ok more) is =
    ap Ok (sym (append_assoc before ws more) ∙ ap (λ l. l ++ more)
    (same_value (before ++ ws) after (put_words before (Some ws) bytes) refl is))
put_rest (Some ws) before after bytes (Err fault) is = refl

-- a piece that is refused ends all
put_refused : (ws : Option (List ℕ)) (before bytes : List ℕ) (fault : OursFault) (rest : Result (List ℕ) OursFault)
    → put_words before ws bytes ≡ Err fault
    → words_before before (with_words ws bytes rest) ≡ Err fault
put_refused None before bytes fault rest is = is
put_refused (Some ws) before bytes fault rest is = absurd cc

-- one more piece in other words
pub piece_put : (pieces : List Piece) (i : ℕ) (piece : Piece) (before after : List ℕ) (whole : Result (List ℕ) OursFault)
    → i < length pieces → piece ≡ get_or pieces i piece
    → put before piece ≡ Ok after → words_before before (all_words (drop i pieces)) ≡ whole
    → words_before after (all_words (drop (i + 1) pieces)) ≡ whole
piece_put pieces i piece before after whole below is goes left =
    sym (put_rest (words_of piece.kind piece.bytes) before after piece.bytes (all_words (drop (i + 1) pieces)) goes)
    ∙ ap (λ p. words_before before (all_words (p ∷ drop (i + 1) pieces))) is
    ∙ sym (at_drop_more (λ l. words_before before (all_words l)) pieces i piece below) ∙ left

-- a piece that has no other words refuses the text
pub piece_refused : (pieces : List Piece) (i : ℕ) (piece : Piece) (before : List ℕ) (none fault : OursFault)
    (whole : Result (List ℕ) OursFault) → i < length pieces → piece ≡ get_or pieces i piece
    → (fault ≡ none) ⊎ (put before piece ≡ Err fault) → words_before before (all_words (drop i pieces)) ≡ whole
    → (fault ≡ none) ⊎ (whole ≡ Err fault)
piece_refused pieces i piece before none fault whole below is (inl is_none) left = inl is_none
piece_refused pieces i piece before none fault whole below is (inr refused) left =
    inr (sym left ∙ at_drop_more (λ l. words_before before (all_words l)) pieces i piece below
    ∙ ap (λ p. words_before before (all_words (p ∷ drop (i + 1) pieces))) (sym is)
    ∙ put_refused (words_of piece.kind piece.bytes) before piece.bytes fault (all_words (drop (i + 1) pieces)) refused)
