use Rattle.std.proofs.Common.{Equal, Greater, Less, Ordering, ◌≡◌, ◌<◌, ◌+◌, ◌*◌, ◌∙◌, List, [], ◌∷◌, ap, arith, length, refl, sym, suc, ℕ}
use Rattle.std.proofs.lemmas.Cmp.{ranked}
use Rattle.std.specs.Cmp.Lexicographic.{slice_cmp}
use Rattle.std.specs.Int.{from_be_bytes, w64}
use Rattle.std.specs.Ordering.{MatchOrdering, nat_cmp, ordering_then}
use Rattle.std.specs.Prelude.{get_or}

-- For `order`: texts are ordered as the numbers are that their bytes spell, and eight bytes that are the same are passed over.
-- Names: `x` and `y` are numbers. `us` and `vs` are texts of the same length. `r` is how two numbers compare.

-- numbers of which the first is less compare as Less
is_less : (x y : ℕ) (r : Ordering) → MatchOrdering r (x < y) (x ≡ y) (y < x) → x < y → r ≡ Less
is_less x y Less h l = refl
is_less x y Equal h l = let e : x ≡ y = h in absurd (omega arith)
is_less x y Greater h l = let e : y < x = h in absurd (omega arith)

-- equal numbers compare as Equal
is_equal : (x y : ℕ) (r : Ordering) → MatchOrdering r (x < y) (x ≡ y) (y < x) → x ≡ y → r ≡ Equal
is_equal x y Less h l = let e : x < y = h in absurd (omega arith)
is_equal x y Equal h l = refl
is_equal x y Greater h l = let e : y < x = h in absurd (omega arith)

-- numbers of which the first is greater compare as Greater
is_greater : (x y : ℕ) (r : Ordering) → MatchOrdering r (x < y) (x ≡ y) (y < x) → y < x → r ≡ Greater
is_greater x y Less h l = let e : x < y = h in absurd (omega arith)
is_greater x y Equal h l = let e : x ≡ y = h in absurd (omega arith)
is_greater x y Greater h l = refl

-- so `nat_cmp` says Less of the lesser
less : (x y : ℕ) → x < y → nat_cmp x y ≡ Less
less x y = is_less x y (nat_cmp x y) (ranked x y (nat_cmp x y) refl)

-- and Equal of a number and itself
equal : (x : ℕ) → nat_cmp x x ≡ Equal
equal x = is_equal x x (nat_cmp x x) (ranked x x (nat_cmp x x) refl) refl

-- and Greater of the greater
greater : (x y : ℕ) → y < x → nat_cmp x y ≡ Greater
greater x y = is_greater x y (nat_cmp x y) (ranked x y (nat_cmp x y) refl)

-- bytes, and the number that they spell after others, the first one the greatest
abbrev Bytes : List ℕ → Type 0
Bytes text = (k : ℕ) → get_or text k 0 < 256

-- the number that bytes spell after the number n
abbrev spelled : ℕ → List ℕ → ℕ
spelled n [] = n
spelled n (b ∷ text) = spelled (n * 256 + b) text

-- where a first byte is less, the spelled number is less, whatever follows
rises : (a b : ℕ) (us vs : List ℕ) → length us ≡ length vs → Bytes us → a < b → spelled a us < spelled b vs
rises a b [] [] same small l = l
rises a b [] (v ∷ vs) same small l = absurd (omega arith)
rises a b (u ∷ us) [] same small l = absurd (omega arith)
rises a b (u ∷ us) (v ∷ vs) same small l =
    let below : u < 256 = small 0 in
    rises (a * 256 + u) (b * 256 + v) us vs (omega arith) (λ k. small (suc k)) (omega arith)

-- the numbers that two texts spell are ordered as the texts are
numbers_order : (a : ℕ) (us vs : List ℕ) → length us ≡ length vs → Bytes us → Bytes vs
    → nat_cmp (spelled a us) (spelled a vs) ≡ slice_cmp nat_cmp us vs
numbers_order a [] [] same small others = equal a
numbers_order a [] (v ∷ vs) same small others = absurd (omega arith)
numbers_order a (u ∷ us) [] same small others = absurd (omega arith)
numbers_order a (u ∷ us) (v ∷ vs) same small others =
    by (nat_cmp u v) refl (ranked u v (nat_cmp u v) refl)
    (numbers_order (a * 256 + u) us vs (omega arith) (λ k. small (suc k)) (λ k. others (suc k)))
  where
    -- Plan: by how the first bytes compare: if they are equal the rest decides, else they do (`rises`).
    by : (r : Ordering) → nat_cmp u v ≡ r → MatchOrdering r (u < v) (u ≡ v) (v < u)
        → nat_cmp (spelled (a * 256 + u) us) (spelled (a * 256 + u) vs) ≡ slice_cmp nat_cmp us vs
        → nat_cmp (spelled (a * 256 + u) us) (spelled (a * 256 + v) vs) ≡ ordering_then (nat_cmp u v) (slice_cmp nat_cmp us vs)
    by Less e h ih =
        let under : u < v = h in
        less _ _ (rises (a * 256 + u) (a * 256 + v) us vs (omega arith) (λ k. small (suc k)) (omega arith))
        ∙ sym (ap (λ r. ordering_then r (slice_cmp nat_cmp us vs)) e)
    by Greater e h ih =
        let over : v < u = h in
        greater _ _ (rises (a * 256 + v) (a * 256 + u) vs us (omega arith) (λ k. others (suc k)) (omega arith))
        ∙ sym (ap (λ r. ordering_then r (slice_cmp nat_cmp us vs)) e)
    by Equal e h ih =
        let level : u ≡ v = h in
        ap (λ n. nat_cmp (spelled (a * 256 + u) us) (spelled (a * 256 + n) vs)) (sym level) ∙ ih
        ∙ sym (ap (λ r. ordering_then r (slice_cmp nat_cmp us vs)) e)

-- the code's number of eight bytes is the one that they spell
eight_spelled : (text : List ℕ) → length text ≡ 8 → from_be_bytes w64 text ≡ spelled 0 text
eight_spelled (a ∷ b ∷ c ∷ d ∷ e ∷ f ∷ g ∷ h ∷ []) l = omega arith
eight_spelled [] l = absurd (omega arith)
eight_spelled (a ∷ []) l = absurd (omega arith)
eight_spelled (a ∷ b ∷ []) l = absurd (omega arith)
eight_spelled (a ∷ b ∷ c ∷ []) l = absurd (omega arith)
eight_spelled (a ∷ b ∷ c ∷ d ∷ []) l = absurd (omega arith)
eight_spelled (a ∷ b ∷ c ∷ d ∷ e ∷ []) l = absurd (omega arith)
eight_spelled (a ∷ b ∷ c ∷ d ∷ e ∷ f ∷ []) l = absurd (omega arith)
eight_spelled (a ∷ b ∷ c ∷ d ∷ e ∷ f ∷ g ∷ []) l = absurd (omega arith)
eight_spelled (a ∷ b ∷ c ∷ d ∷ e ∷ f ∷ g ∷ h ∷ i ∷ text) l = absurd (omega arith)

-- eight bytes and the numbers that they spell
pub eight_ordered : (us vs : List ℕ) (x y : ℕ) → length us ≡ 8 → length vs ≡ 8 → Bytes us → Bytes vs
    → x ≡ from_be_bytes w64 us → y ≡ from_be_bytes w64 vs → nat_cmp x y ≡ slice_cmp nat_cmp us vs
eight_ordered us vs x y many as_many small others x_is y_is =
    ap (λ n. nat_cmp n y) (x_is ∙ eight_spelled us many) ∙ ap (nat_cmp (spelled 0 us)) (y_is ∙ eight_spelled vs as_many)
    ∙ numbers_order 0 us vs (many ∙ sym as_many) small others
