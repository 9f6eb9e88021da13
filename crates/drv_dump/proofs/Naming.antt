use Rattle.drv_dump.specs.Files.{ending_in, files_from, joint_after, put_piece, skip_after, split_from}
use Rattle.drv_dump.specs.Grammar.{is_white}
use Rattle.drv_dump.specs.declared.files.Ending.{Ending}
use Rattle.drv_dump.specs.declared.files.Joint.{Joint}
use Rattle.drv_dump.specs.declared.files.LastWord.{LastWord}
use Rattle.drv_dump.specs.declared.piece.Piece.{Piece}
use Rattle.std.proofs.Common.{◌≡◌, ◌-◌, ◌<◌, ◌≤◌, ◌∙◌, List, [], ◌∷◌, ◌++◌, ap, append_assoc, arith, drop, false, get_or, if◌then◌else◌}
use Rattle.std.proofs.Common.{length, suc, sym, take, true, zero, ℕ}
use Rattle.std.proofs.lemmas.List.{take_all}

-- For `translate_text` (src/ours.rt): the loops that replace the names of files by named texts.
-- Names: `whole`: what the whole text gives. `front`: what is before. `b`: a byte. `left`: what is left of the text. `left`: the pieces
-- that are left. `skip`: how many bytes are already passed over. `split_from`: a text up to its last word, and that word. `files_from`:
-- pieces, of which so many belong to the name before. `joint_after`: the first word of what an alternative gives is whole.

-- all that follows the first one
after_first : {X : Type 0} (x : X) (xs : List X) → take (length (x ∷ xs) - 1) xs ≡ xs
after_first x xs = take_all (length (x ∷ xs) - 1) xs (omega arith)

-- a byte of a text that is split before its last word
pub split_white : (left front word : List ℕ) (whole : LastWord) (b d : ℕ) → 1 ≤ length left → b ≡ get_or left 0 d → is_white b ≡ true
    → split_from front word left ≡ whole
    → split_from ((front ++ word) ++ (b ∷ [])) [] (take (length left - 1) (drop 1 left)) ≡ whole
split_white [] front word whole b d some first white before = absurd (omega (arith, some))
split_white (c ∷ text) front word whole b d some first white before =
    ap (split_from ((front ++ word) ++ (b ∷ [])) []) (after_first c text)
    ∙ ap (λ x. split_from ((front ++ word) ++ (x ∷ [])) [] text) first
    ∙ ap (λ t. if t then split_from ((front ++ word) ++ (c ∷ [])) [] text else split_from front (word ++ (c ∷ [])) text)
    (sym white ∙ ap is_white first)
    ∙ before

-- a byte of the last word, or the end of a word before it
pub split_next : (left front word : List ℕ) (whole : LastWord) (b d : ℕ) → 1 ≤ length left → b ≡ get_or left 0 d → is_white b ≡ false
    → split_from front word left ≡ whole
    → split_from front (word ++ (b ∷ [])) (take (length left - 1) (drop 1 left)) ≡ whole
split_next [] front word whole b d some first other before = absurd (omega (arith, some))
split_next (c ∷ text) front word whole b d some first other before =
    ap (split_from front (word ++ (b ∷ []))) (after_first c text)
    ∙ ap (λ x. split_from front (word ++ (x ∷ [])) text) first
    ∙ ap (λ t. if t then split_from ((front ++ word) ++ (c ∷ [])) [] text else split_from front (word ++ (c ∷ [])) text)
    (sym other ∙ ap is_white first)
    ∙ before

-- a piece that belongs to the name before it
pub piece_skipped : (left named whole : List Piece) (joint : Joint) (skip : ℕ) → 1 ≤ length left → 0 < skip
    → named ++ files_from skip joint left ≡ whole
    → named ++ files_from (skip - 1) joint (take (length left - 1) (drop 1 left)) ≡ whole
piece_skipped [] named whole joint skip some more before = absurd (omega (arith, some))
piece_skipped (p ∷ rest) named whole joint zero some more before = absurd (omega (arith, more))
piece_skipped (p ∷ rest) named whole joint (suc k) some more before =
    let e : suc k - 1 ≡ k = omega arith in
    rw e (ap (λ l. named ++ files_from k joint l) (after_first p rest) ∙ before)

-- any other piece
pub piece_named : (left named after whole : List Piece) (piece : Piece) (joint : Joint) (ending : Ending) (skip : ℕ) → 1 ≤ length left
    → piece ≡ get_or left 0 piece → skip ≡ 0
    → ending ≡ ending_in joint piece (take (length left - 1) (drop 1 left)) → after ≡ named ++ put_piece ending piece
    → named ++ files_from skip joint left ≡ whole
    → after ++ files_from (skip_after ending) (joint_after piece) (take (length left - 1) (drop 1 left)) ≡ whole
piece_named [] named after whole piece joint ending skip some first none is put before = absurd (omega (arith, some))
piece_named (p ∷ rest) named after whole piece joint ending skip some first none is put before =
    ap (λ l. after ++ files_from (skip_after ending) (joint_after piece) l) (after_first p rest)
    ∙ ap (λ l. l ++ files_from (skip_after ending) (joint_after piece) rest) put
    ∙ append_assoc named (put_piece ending piece) (files_from (skip_after ending) (joint_after piece) rest)
    ∙ ap (λ e. named ++ (put_piece e piece ++ files_from (skip_after e) (joint_after piece) rest))
    (is ∙ ap (ending_in joint piece) (after_first p rest))
    ∙ ap (λ q. named ++ (put_piece (ending_in joint q rest) q ++ files_from (skip_after (ending_in joint q rest)) (joint_after q) rest))
    first
    ∙ ap (λ n. named ++ files_from n joint (p ∷ rest)) (sym none) ∙ before
