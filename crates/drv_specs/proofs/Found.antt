use Rattle.bstr.specs.Find.{IsFirstByte, Nowhere, Passes, is_byte}
use Rattle.bstr.specs.Bytes.{is_in}
use Rattle.drv_specs.proofs.Booleans.{and_first, and_second}
use Rattle.drv_specs.specs.Lines.{ends_line, is_kept, joined_onto}
use Rattle.drv_specs.specs.Code.Slices.{settled_onto}
use Rattle.drv_words.specs.Bytes.{backslash, carriage_return, newline}
use Rattle.std.proofs.Common.{◌≡◌, ◌<◌, ◌≤◌, ◌+◌, ◌-◌, ◌∙◌, ◌==◌, ◌&&◌, ◌||◌, Bool, List, [], ◌∷◌, ◌++◌, ap, append_assoc, arith, drop}
use Rattle.std.proofs.Common.{eqb-true, false, filter, fold, if◌then◌else◌, length, nat_eq, not, refl, suc, sym, take, true, zero, ℕ}
use Rattle.std.proofs.lemmas.List.{append-nil, drop_more, take-append-drop}
use Rattle.std.specs.List.{ends_with, list_all}
use Rattle.std.specs.Prelude.{None, Option, Some, slice_index}

-- For the reading of a file: what a search for a byte finds, and what precedes it. `IsFirstByte test text found` says that `found` is the
-- first byte that passes.
-- Names: `text` is a text. `b` is one byte. `found` is what a search finds. `at` is the place that was found. `test` is a test of bytes.
-- `left` is the text from the place on. `is_kept` says that a byte is no carriage return. `joined_onto` adds a byte; a newline after a
-- backslash goes, with the backslash.

-- a truth value that isn't true is false
pub fails_of : (t : Bool) → (t ≡ true → ⊥) → t ≡ false
fails_of t never = by t refl
  where
    -- Plan: `by` goes by both answers of `t`.
    by : (u : Bool) → t ≡ u → t ≡ false
    by true is = absurd (never is)
    by false is = is

-- no byte before a place passes, if the search passed over them
front_clean : (test : ℕ → Bool) (text : List ℕ) (at : ℕ) → Nowhere (Passes test text) 0 at → at ≤ length text
    → list_all (λ b. not (test b)) (take at text) ≡ true
front_clean test text zero none within = refl
front_clean test [] (suc n) none within = refl
front_clean test (b ∷ text) (suc n) none within =
    let fails : test b ≡ false = fails_of (test b) (none 0 (omega arith) (omega arith)) in
    rw fails (front_clean test text n (λ k low below. none (suc k) (omega arith) (omega (arith, below))) (omega (arith, within)))

-- a text is what precedes a place, the byte there, and what follows
pub split_at : (text : List ℕ) (at : ℕ) → at < length text → text ≡ take at text ++ slice_index text at ∷ drop (at + 1) text
split_at text at below = sym (take-append-drop at text) ∙ ap (λ t. take at text ++ t) (drop_more text at 0 below)

-- no byte before the one that was found passes
pub clean_front : (test : ℕ → Bool) (text : List ℕ) (found : Option ℕ) (at : ℕ) → IsFirstByte test text found → found ≡ Some at
    → list_all (λ b. not (test b)) (take at text) ≡ true
clean_front test text None at h is = absurd cc
clean_front test text (Some k) at h is =
    let same : k ≡ at = cc in
    ap (λ n. list_all (λ b. not (test b)) (take n text)) (sym same) ∙ front_clean test text k h.0.before (omega (arith, h.0.high))

-- the place that was found is in the text
pub found_below : (test : ℕ → Bool) (text : List ℕ) (found : Option ℕ) (at : ℕ) → IsFirstByte test text found → found ≡ Some at
    → at < length text
found_below test text None at h is = absurd cc
found_below test text (Some k) at h is = let same : k ≡ at = cc in omega (arith, same, h.0.high)

-- the byte at the place that was found passes
pub found_passes : (test : ℕ → Bool) (text : List ℕ) (found : Option ℕ) (at : ℕ) → IsFirstByte test text found → found ≡ Some at
    → test (slice_index text at) ≡ true
found_passes test text None at h is = absurd cc
found_passes test text (Some k) at h is = let same : k ≡ at = cc in ap (λ n. test (slice_index text n)) (sym same) ∙ h.1

-- as many bytes as a text has are all of it
take_all : (text : List ℕ) → take (length text) text ≡ text
take_all [] = refl
take_all (b ∷ text) = ap (λ t. b ∷ t) (take_all text)

-- where none was found, no byte passes
pub clean_all : (test : ℕ → Bool) (text : List ℕ) (found : Option ℕ) → IsFirstByte test text found → found ≡ None
    → list_all (λ b. not (test b)) text ≡ true
clean_all test text None h is = ap (list_all (λ b. not (test b))) (sym (take_all text))
    ∙ front_clean test text (length text) h (omega arith)
clean_all test text (Some k) h is = absurd cc

-- the newline that was found ends the first line
pub line_found : (text : List ℕ) (found : Option ℕ) (at : ℕ) → IsFirstByte (is_byte newline) text found → found ≡ Some at
    → text ≡ take at text ++ newline ∷ drop (at + 1) text
line_found text found at h is =
    split_at text at (found_below (is_byte newline) text found at h is)
    ∙ ap (λ b. take at text ++ b ∷ drop (at + 1) text)
    (eqb-true (slice_index text at) newline (found_passes (is_byte newline) text found at h is))

-- the line before the first newline has no newline in it
pub line_clean : (text : List ℕ) (found : Option ℕ) (at : ℕ) → IsFirstByte (is_byte newline) text found → found ≡ Some at
    → list_all (λ b. not (ends_line b)) (take at text) ≡ true
line_clean text found at h is = clean_front (is_byte newline) text found at h is

-- where none was found, the text is one line
pub line_alone : (text : List ℕ) (found : Option ℕ) → IsFirstByte (is_byte newline) text found → found ≡ None
    → list_all (λ b. not (ends_line b)) text ≡ true
line_alone text found h is = clean_all (is_byte newline) text found h is

-- the bytes that settling looks for: carriage returns and newlines
abbrev pub settles : List ℕ
settles = carriage_return ∷ newline ∷ []

-- a byte that the search passes over is kept, and is no newline
plain : (b : ℕ) → not (is_in settles b) ≡ true → (is_kept b ≡ true) × ((b == newline) ≡ false)
unfolding is_in
plain b is = by (b == carriage_return) (b == newline) is
  where
    -- Plan: `by` goes by the cases of `b == carriage_return` and `b == newline`.
    by : (r n : Bool) → not (r || (n || false)) ≡ true → (not r ≡ true) × (n ≡ false)
    by true n is' = absurd cc
    by false true is' = absurd cc
    by false false is' = (refl, refl)

-- a run of bytes that are no ends of lines goes to the text as it is
run_settled : (run rest left : List ℕ) → list_all (λ b. not (is_in settles b)) run ≡ true
    → fold joined_onto left (filter is_kept (run ++ rest)) ≡ fold joined_onto (left ++ run) (filter is_kept rest)
run_settled [] rest left is = ap (λ l. fold joined_onto l (filter is_kept rest)) (sym (append-nil left))
run_settled (b ∷ run) rest left is =
    let fits = plain b (and_first (not (is_in settles b)) _ is) in
    ap (λ kept. fold joined_onto left (if kept then b ∷ filter is_kept (run ++ rest) else filter is_kept (run ++ rest))) fits.0
    ∙ ap (λ ends. fold joined_onto (if ends && ends_with nat_eq left (backslash ∷ []) then take (length left - 1) left else left ++ b ∷ [])
    (filter is_kept (run ++ rest))) fits.1
    ∙ run_settled run rest (left ++ b ∷ []) (and_second (not (is_in settles b)) _ is)
    ∙ ap (λ l. fold joined_onto l (filter is_kept rest)) (append_assoc left (b ∷ []) run)

-- the byte that ends the run is settled by itself
end_settled : (b : ℕ) (rest left : List ℕ) → fold joined_onto left (filter is_kept (b ∷ rest))
    ≡ fold joined_onto (settled_onto left b) (filter is_kept rest)
end_settled b rest left = by (is_kept b) refl
  where
    -- Plan: `by` goes by both answers of `is_kept b`.
    by : (kept : Bool) → is_kept b ≡ kept → fold joined_onto left (if kept then b ∷ filter is_kept rest else filter is_kept rest)
        ≡ fold joined_onto (if kept then joined_onto left b else left) (filter is_kept rest)
    by true kept = refl
    by false kept = refl

-- a line up to the byte that was found, and that byte, are settled: the rest is left
pub line_settled : (text left front after whole : List ℕ) (found : Option ℕ) (at b : ℕ) → IsFirstByte (is_in settles) text found
    → found ≡ Some at → b ≡ slice_index text at
    → front ≡ left ++ take at text → after ≡ settled_onto front b → fold joined_onto left (filter is_kept text) ≡ whole
    → fold joined_onto after (filter is_kept (drop (at + 1) text)) ≡ whole
line_settled text left front after whole found at b h is here fronts afters so_far =
    ap (λ l. fold joined_onto l (filter is_kept (drop (at + 1) text))) (afters ∙ ap (λ f. settled_onto f b) fronts)
    ∙ sym (end_settled b (drop (at + 1) text) (left ++ take at text))
    ∙ sym (run_settled (take at text) (b ∷ drop (at + 1) text) left (clean_front (is_in settles) text found at h is))
    ∙ ap (λ c. fold joined_onto left (filter is_kept (take at text ++ c ∷ drop (at + 1) text))) here
    ∙ ap (λ t. fold joined_onto left (filter is_kept t)) (sym (split_at text at (found_below (is_in settles) text found at h is)))
    ∙ so_far

-- the last line, settled: no end of a line was found in it
pub rest_settled : (text left all whole : List ℕ) (found : Option ℕ) → IsFirstByte (is_in settles) text found → found ≡ None
    → all ≡ left ++ text
    → fold joined_onto left (filter is_kept text) ≡ whole → all ≡ whole
rest_settled text left all whole found h is alls so_far =
    alls ∙ sym (run_settled text [] left (clean_all (is_in settles) text found h is))
    ∙ ap (λ t. fold joined_onto left (filter is_kept t)) (append-nil text) ∙ so_far
