use Rattle.drv_specs.proofs.Booleans.{and_first, and_second, not_true}
use Rattle.drv_specs.specs.Kept.{fits, is_body, sees}
use Rattle.drv_specs.specs.Lines.{is_kept, joined_onto, settle}
use Rattle.drv_specs.specs.Sets.{ends_with_backslash}
use Rattle.drv_words.specs.Bytes.{backslash, colon, newline}
use Rattle.std.proofs.Common.{◌≡◌, ◌-◌, ◌∙◌, ◌==◌, ◌&&◌, ◌||◌, Bool, List, [], ◌∷◌, ◌++◌, ap, append_assoc, arith, drop, false, filter}
use Rattle.std.proofs.Common.{fold, if◌then◌else◌, length, length-append, nat_eq, not, refl, suc, sym, take, true, ℕ}
use Rattle.std.proofs.lemmas.List.{append-nil}
use Rattle.std.specs.Cmp.Lexicographic.{pointwise}
use Rattle.std.specs.List.{list_all}

-- For the dump and the reading of a file: texts without carriage returns, and without a newline after a backslash, stay as they are when
-- they are settled (`settled_same`).
-- Names: `text` is a text. `b` is one byte. `seen` says whether the line has a byte that is no blank. `back` says whether the byte before
-- is a backslash. `ends_with_backslash` says that a text ends with a backslash, and so is refused. `is_kept` says that a byte is no
-- carriage return. `and_first` and `and_second` give the parts of a true `&&`. `not_true` says that a test whose negation holds fails.

-- without its front a text with one more byte is that byte
drop_front : (text : List ℕ) (b : ℕ) → drop (length text) (text ++ b ∷ []) ≡ b ∷ []
drop_front [] b = refl
drop_front (c ∷ text) b = drop_front text b

-- the last byte of a text is what follows all others
drop_last : (text : List ℕ) (b : ℕ) → drop (length (text ++ b ∷ []) - 1) (text ++ b ∷ []) ≡ b ∷ []
drop_last text b =
    let size : length (text ++ b ∷ []) - 1 ≡ length text = omega (arith, length-append text (b ∷ [])) in
    ap (λ n. drop n (text ++ b ∷ [])) size ∙ drop_front text b

-- the last byte alone says whether a backslash is the last
pub ends_last : (text : List ℕ) (b : ℕ) → ends_with_backslash (text ++ b ∷ []) ≡ ends_with_backslash (b ∷ [])
ends_last text b = ap (pointwise nat_eq (backslash ∷ [])) (drop_last text b)

-- the bytes before the last do not matter
pub ends_more : (b c : ℕ) (text : List ℕ) → ends_with_backslash (b ∷ c ∷ text) ≡ ends_with_backslash (c ∷ text)
ends_more b c text =
    let size : length (b ∷ c ∷ text) - 1 ≡ suc (length (c ∷ text) - 1) = omega arith in
    ap (λ n. pointwise nat_eq (backslash ∷ []) (drop n (b ∷ c ∷ text))) size ∙ by (length (c ∷ text) - 1)
  where
    -- Plan: `by` says that one byte more is dropped of one byte more.
    by : (n : ℕ) → pointwise nat_eq (backslash ∷ []) (drop (suc n) (b ∷ c ∷ text)) ≡ pointwise nat_eq (backslash ∷ []) (drop n (c ∷ text))
    by n = refl

-- a text without carriage returns, and without a newline after a backslash
abbrev pub is_settled : Bool → List ℕ → Bool
is_settled back [] = true
is_settled back (b ∷ text) = is_kept b && (not (b == newline && back) && is_settled (ends_with_backslash (b ∷ [])) text)

-- a settled text is put after another byte by byte
settles_same : (text done : List ℕ) → is_settled (ends_with_backslash done) text ≡ true
    → fold joined_onto done (filter is_kept text) ≡ done ++ text
settles_same [] done is = sym (append-nil done)
settles_same (b ∷ text) done is =
    let kept = and_first (is_kept b) _ is in
    let rest = and_second (is_kept b) _ is in
    let apart = not_true _ (and_first (not (b == newline && ends_with_backslash done)) _ rest) in
    let later = and_second (not (b == newline && ends_with_backslash done)) _ rest in
    rw kept (
    ap (λ c. fold joined_onto (if c then take (length done - 1) done else done ++ b ∷ []) (filter is_kept text)) apart
    ∙ settles_same text (done ++ b ∷ []) (ap (λ back. is_settled back text) (ends_last done b) ∙ later)
    ∙ append_assoc done (b ∷ []) text
    )

-- a text that is settled stays as it is
pub settled_same : (text : List ℕ) → is_settled false text ≡ true → settle text ≡ text
settled_same text is = settles_same text [] is

-- bytes that a line may have
abbrev pub is_line_byte : ℕ → Bool
is_line_byte b = is_kept b && not (b == newline)

-- a byte that fits a body makes no pair with the one before
no_pair : (ends seen back : Bool) → (not ends || (seen && not back)) ≡ true → not (ends && back) ≡ true
no_pair false seen back is = refl
no_pair true seen false is = refl
no_pair true true true is = is
no_pair true false true is = is

-- a body, a newline and a settled text are settled
pub body_settled : (text rest : List ℕ) (seen back : Bool) → is_body seen back text ≡ true → is_settled false (newline ∷ rest) ≡ true
    → is_settled back (text ++ newline ∷ rest) ≡ true
body_settled [] rest true false is later = later
body_settled [] rest true true is later = absurd cc
body_settled [] rest false back is later = absurd cc
body_settled (b ∷ text) rest seen back is later =
    let fit = and_first (fits seen back b) _ is in
    let kept = and_first (is_kept b) _ fit in
    let apart = no_pair (b == newline) seen back (and_second (is_kept b) _ fit) in
    rw kept (rw apart (body_settled text rest (sees seen b) (ends_with_backslash (b ∷ [])) (and_second (fits seen back b) _ is) later))

-- a line's head, a colon, a newline and a settled text are settled
pub head_settled : (key rest : List ℕ) (back : Bool) → list_all is_line_byte key ≡ true → is_settled false rest ≡ true
    → is_settled back (key ++ colon ∷ newline ∷ rest) ≡ true
head_settled [] rest back is later = later
head_settled (b ∷ key) rest back is later =
    let line = and_first (is_line_byte b) _ is in
    let kept = and_first (is_kept b) _ line in
    let apart = not_true _ (and_second (is_kept b) _ line) in
    rw kept (rw apart (head_settled key rest (ends_with_backslash (b ∷ [])) (and_second (is_line_byte b) _ is) later))

-- no backslash ends a body
pub body_ends : (b : ℕ) (text : List ℕ) (seen back : Bool) → is_body seen back (b ∷ text) ≡ true → ends_with_backslash (b ∷ text) ≡ false
body_ends b [] seen back is = not_true _ (and_second (sees seen b) _ (and_second (fits seen back b) _ is))
body_ends b (c ∷ text) seen back is = ends_more b c text
    ∙ body_ends c text (sees seen b) (ends_with_backslash (b ∷ [])) (and_second (fits seen back b) _ is)
