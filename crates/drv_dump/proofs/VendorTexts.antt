use Rattle.drv_dump.specs.Ours.{put_words, with_words, words_before}
use Rattle.drv_dump.specs.Vendors.{all_vendor_words, macro_test, vendor_words}
use Rattle.drv_dump.specs.declared.fault.OursFault.{OursFault}
use Rattle.drv_dump.specs.declared.piece.Piece.{Piece}
use Rattle.std.proofs.Common.{◌≡◌, ◌++◌, ◌-◌, ◌≤◌, ◌∙◌, ◌⊎◌, Err, List, [], ◌∷◌, None, Ok, Option, Result, Some, ap, append_assoc, arith}
use Rattle.std.proofs.Common.{codes, drop, get_or, inl, inr, length, refl, sym, take, ℕ}
use Rattle.std.proofs.lemmas.List.{take_all}

-- For `translate_vendors` (src/vendors.rt): the loop over the pieces of a text.
-- Names: `left`: the pieces that are left. `whole`: what the whole text gives. `mid`: what is between. `put_words`: words with what one
-- more piece becomes, if it becomes anything. `vendor_words`: what a piece of a kind becomes before these. `words_before`: words before
-- those of other pieces.

-- a switch for a macro after a word
pub macro_put : (word mid after test name : List ℕ) → mid ≡ word ++ codes "-gdrv-define=" → name ≡ drop 1 test → after ≡ mid ++ name
    → after ≡ word ++ macro_test test
macro_put word mid after test name one named put =
    put ∙ ap (λ l. mid ++ l) named ∙ ap (λ l. l ++ drop 1 test) one ∙ append_assoc word (codes "-gdrv-define=") (drop 1 test)

-- all pieces that follow the first
after_piece : (piece : Piece) (rest : List Piece) → take (length (piece ∷ rest) - 1) rest ≡ rest
after_piece piece rest = take_all (length (piece ∷ rest) - 1) rest (omega arith)

-- words with those of a piece, before the words of others
words_joined : (word next : List ℕ) (found : Option (List ℕ)) (bytes : List ℕ) (more : Result (List ℕ) OursFault)
    → put_words word found bytes ≡ Ok next → words_before next more ≡ words_before word (with_words found bytes more)
words_joined word next None bytes more put = absurd cc
words_joined word next (Some words) bytes (Ok more) put =
    let same : next ≡ word ++ words = cc in
    ap (λ l. Ok (l ++ more)) same ∙ ap Ok (append_assoc word words more)
words_joined word next (Some words) bytes (Err fault) put = refl

-- a piece that becomes nothing ends the words
words_ended : (word : List ℕ) (found : Option (List ℕ)) (bytes : List ℕ) (more : Result (List ℕ) OursFault) (fault : OursFault)
    → put_words word found bytes ≡ Err fault → words_before word (with_words found bytes more) ≡ Err fault
words_ended word None bytes more fault put = put
words_ended word (Some words) bytes more fault put = absurd cc

-- the words of the pieces from this one on
pub piece_next : (left : List Piece) (word next : List ℕ) (piece d : Piece) (whole : Result (List ℕ) OursFault) → 1 ≤ length left
    → piece ≡ get_or left 0 d
    → put_words word (vendor_words piece.kind piece.bytes (take (length left - 1) (drop 1 left))) piece.bytes ≡ Ok next
    → words_before word (all_vendor_words left) ≡ whole
    → words_before next (all_vendor_words (take (length left - 1) (drop 1 left))) ≡ whole
piece_next [] word next piece d whole some first put before = absurd (omega (arith, some))
piece_next (c ∷ rest) word next piece d whole some first put before =
    ap (λ l. words_before next (all_vendor_words l)) (after_piece c rest)
    ∙ words_joined word next (vendor_words c.kind c.bytes rest) c.bytes (all_vendor_words rest)
    (ap (λ l. put_words word (vendor_words c.kind c.bytes l) c.bytes) (sym (after_piece c rest))
    ∙ ap (λ (p : Piece). put_words word (vendor_words p.kind p.bytes (take (length (c ∷ rest) - 1) rest)) p.bytes) (sym first) ∙ put)
    ∙ before

-- a piece that becomes nothing, or for which there is no memory
pub piece_refused : (left : List Piece) (word : List ℕ) (piece d : Piece) (none fault : OursFault) (whole : Result (List ℕ) OursFault)
    → 1 ≤ length left
    → piece ≡ get_or left 0 d
    → (fault ≡ none)
    ⊎ (put_words word (vendor_words piece.kind piece.bytes (take (length left - 1) (drop 1 left))) piece.bytes ≡ Err fault)
    → words_before word (all_vendor_words left) ≡ whole → (fault ≡ none) ⊎ (whole ≡ Err fault)
piece_refused left word piece d none fault whole some first (inl is_none) before = inl is_none
piece_refused [] word piece d none fault whole some first (inr put) before = absurd (omega (arith, some))
piece_refused (c ∷ rest) word piece d none fault whole some first (inr put) before =
    inr (sym before ∙ words_ended word (vendor_words c.kind c.bytes rest) c.bytes (all_vendor_words rest) fault
    (ap (λ l. put_words word (vendor_words c.kind c.bytes l) c.bytes) (sym (after_piece c rest))
    ∙ ap (λ (p : Piece). put_words word (vendor_words p.kind p.bytes (take (length (c ∷ rest) - 1) rest)) p.bytes) (sym first) ∙ put))
