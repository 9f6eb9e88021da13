use Rattle.drv_specs.proofs.SettledTexts.{ends_last, ends_more}
use Rattle.drv_specs.specs.Lines.{joined, joined_onto}
use Rattle.drv_specs.specs.Reading.{IsJoined, Joins, is_joined, pair_goes}
use Rattle.drv_specs.specs.Sets.{ends_with_backslash}
use Rattle.drv_words.specs.Bytes.{backslash, newline}
use Rattle.std.proofs.Common.{◌≡◌, ◌-◌, ◌⊎◌, ◌∙◌, ◌==◌, ◌&&◌, Bool, List, [], ◌∷◌, ◌++◌, ap, append_assoc, arith, eqb-true, false, fold}
use Rattle.std.proofs.Common.{if◌then◌else◌, inl, inr, length, length-append, refl, subst, sym, take, true, ℕ}
use Rattle.std.proofs.lemmas.List.{append-nil, take_at}
use Rattle.drv_specs.proofs.Booleans.{and_first, and_second}

-- For directives_are_read: the pairs of a backslash and a newline go, by cases (`Joins`, in any order) as byte by byte (`joined`).
-- Names: `text` is a text. `b` is one byte. `front` is the text before. `done` is the bytes so far, and `back` those that follow. `ys` is
-- what is left of a text. `joined_onto` adds a byte; a newline after a backslash goes, with the backslash. `and_first` and `and_second`
-- give the parts of a true `&&`.

-- Lists with one item more at their end.

-- two lists that are the same with one more item have the same last item and the same before it
snoc_same : (xs ys : List ℕ) (a b : ℕ) → xs ++ a ∷ [] ≡ ys ++ b ∷ [] → (xs ≡ ys) × (a ≡ b)
snoc_same [] [] a b e = (refl, (let same : a ≡ b = cc in same))
snoc_same [] (y ∷ []) a b e = absurd cc
snoc_same [] (y ∷ z ∷ ys) a b e = absurd cc
snoc_same (x ∷ []) [] a b e = absurd cc
snoc_same (x ∷ z ∷ xs) [] a b e = absurd cc
snoc_same (x ∷ xs) (y ∷ ys) a b e =
    let head : x ≡ y = cc in
    let tail : xs ++ a ∷ [] ≡ ys ++ b ∷ [] = cc in
    let both = snoc_same xs ys a b tail in
    (rw (head, both.0) refl, both.1)

-- a list is empty or has a last item
last_of : (xs : List ℕ) → (xs ≡ []) ⊎ ((ys : List ℕ) × (b : ℕ) × (xs ≡ ys ++ b ∷ []))
last_of [] = inl refl
last_of (x ∷ xs) = by (last_of xs)
  where
    -- Plan: `by` goes by whether the rest is empty or has a last item.
    by : (xs ≡ []) ⊎ ((ys : List ℕ) × (b : ℕ) × (xs ≡ ys ++ b ∷ [])) → (x ∷ xs ≡ []) ⊎ ((ys : List ℕ) × (b : ℕ) × (x ∷ xs ≡ ys ++ b ∷ []))
    by (inl none) = inr ([], x, ap (λ l. x ∷ l) none)
    by (inr (ys, b, is)) = inr (x ∷ ys, b, ap (λ l. x ∷ l) is)

-- a text that ends with a backslash has something before it
before_backslash : (text : List ℕ) → ends_with_backslash text ≡ true → (front : List ℕ) × (text ≡ front ++ backslash ∷ [])
before_backslash [] is = absurd cc
before_backslash (b ∷ []) is = ([], ap (λ c. c ∷ []) (sym (eqb-true backslash b (and_first (backslash == b) _ is))))
before_backslash (b ∷ c ∷ text) is =
    let rest = before_backslash (c ∷ text) (sym (ends_more b c text) ∙ is) in
    (b ∷ rest.0, ap (λ l. b ∷ l) rest.1)

-- without its last byte a front with a backslash is the front
without_last : (front : List ℕ) → take (length (front ++ backslash ∷ []) - 1) (front ++ backslash ∷ []) ≡ front
without_last front = take_at front (backslash ∷ []) (length (front ++ backslash ∷ []) - 1)
    (omega (arith, length-append front (backslash ∷ [])))

-- Joined texts.

-- whether a byte is the newline after a backslash
abbrev is_pair : List ℕ → ℕ → Bool
is_pair text b = b == newline && ends_with_backslash text

-- a text without pairs has none without its last backslash
front_joined : (front : List ℕ) → IsJoined (front ++ backslash ∷ []) → IsJoined front
front_joined front all = λ a b is. all a (b ++ backslash ∷ [])
    (ap (λ l. l ++ backslash ∷ []) is ∙ append_assoc a (backslash ∷ newline ∷ b) (backslash ∷ []))

-- one more byte makes no pair, unless it is a newline after a backslash
more_joined : (done : List ℕ) (b : ℕ) → IsJoined done → is_pair done b ≡ false → IsJoined (done ++ b ∷ [])
more_joined done b all plain = λ front back is. by front back (last_of back) is
  where
    -- Plan: by whether anything follows the pair: if not, the new byte is its newline.
    by : (front back : List ℕ) → (back ≡ []) ⊎ ((ys : List ℕ) × (c : ℕ) × (back ≡ ys ++ c ∷ []))
        → done ++ b ∷ [] ≡ front ++ backslash ∷ newline ∷ back → ⊥
    by front back (inl none) is =
        let ends = snoc_same done (front ++ backslash ∷ []) b newline
        (is ∙ ap (λ l. front ++ backslash ∷ newline ∷ l) none ∙ sym (append_assoc front (backslash ∷ []) (newline ∷ []))) in
        let pair : is_pair done b ≡ true = rw (ends.0, ends.1) (ends_last front backslash) in
        absurd (let apart : false ≡ true = sym plain ∙ pair in cc)
    by front back (inr (ys, c, last)) is =
        all front ys (snoc_same done (front ++ backslash ∷ newline ∷ ys) b c
        (is ∙ ap (λ l. front ++ backslash ∷ newline ∷ l) last ∙ sym (append_assoc front (backslash ∷ newline ∷ ys) (c ∷ [])))).0

-- From the relation to the function.

-- two texts byte by byte, one after the other
fold_both : (front back start : List ℕ) → fold joined_onto start (front ++ back) ≡ fold joined_onto (fold joined_onto start front) back
fold_both [] back start = refl
fold_both (b ∷ front) back start = fold_both front back (joined_onto start b)

-- a text without a pair stays as it is
stays : (rest done : List ℕ) → IsJoined (done ++ rest) → fold joined_onto done rest ≡ done ++ rest
stays [] done all = sym (append-nil done)
stays (b ∷ rest) done all = by (is_pair done b) refl
    (stays rest (done ++ b ∷ []) (subst IsJoined (sym (append_assoc done (b ∷ []) rest)) all))
  where
    -- Plan: by whether the byte ends a pair, which it doesn't.
    by : (pair : Bool) → is_pair done b ≡ pair → fold joined_onto (done ++ b ∷ []) rest ≡ (done ++ b ∷ []) ++ rest
        → fold joined_onto done (b ∷ rest) ≡ done ++ b ∷ rest
    by false plain later = ap (λ p. fold joined_onto (if p then take (length done - 1) done else done ++ b ∷ []) rest) plain ∙ later
        ∙ append_assoc done (b ∷ []) rest
    by true pair_is later =
        let front = before_backslash done (and_second (b == newline) _ pair_is) in
        let line = eqb-true b newline (and_first (b == newline) _ pair_is) in
        absurd (all front.0 rest (ap (λ l. l ++ b ∷ rest) front.1 ∙ append_assoc front.0 (backslash ∷ []) (b ∷ rest)
        ∙ ap (λ c. front.0 ++ backslash ∷ c ∷ rest) line))

-- byte by byte, a pair of a backslash and a newline goes
pair_gone : (front back : List ℕ) → joined (front ++ backslash ∷ newline ∷ back) ≡ joined (front ++ back)
pair_gone front back =
    fold_both front (backslash ∷ newline ∷ back) [] ∙ by (fold joined_onto [] front) ∙ sym (fold_both front back [])
  where
    -- Plan: `by` says that the two bytes change nothing of what was joined before them.
    by : (done : List ℕ) → fold joined_onto done (backslash ∷ newline ∷ back) ≡ fold joined_onto done back
    by done =
        ap (λ p. fold joined_onto (if p then take (length (done ++ backslash ∷ []) - 1) (done ++ backslash ∷ [])
        else (done ++ backslash ∷ []) ++ newline ∷ []) back) (ends_last done backslash)
        ∙ ap (λ l. fold joined_onto l back) (without_last done)

-- what is left by cases is left byte by byte
pub joins_gives : {text left : List ℕ} → Joins text left → joined text ≡ left
joins_gives (is_joined {text} all) = stays text [] all
joins_gives (pair_goes front back joins) = pair_gone front back ∙ joins_gives joins

-- From the function to the relation.

-- what is left byte by byte is left by cases, after a beginning without a pair
joins_from : (rest done : List ℕ) → IsJoined done → Joins (done ++ rest) (fold joined_onto done rest)
joins_from [] done all = subst (λ l. Joins l done) (sym (append-nil done)) (is_joined all)
joins_from (b ∷ rest) done all = by (is_pair done b) refl (joins_from rest)
  where
    -- Plan: by whether the byte ends a pair: then both go, else it stays.
    by : (pair : Bool) → is_pair done b ≡ pair → ((front : List ℕ) → IsJoined front → Joins (front ++ rest) (fold joined_onto front rest))
        → Joins (done ++ b ∷ rest) (fold joined_onto done (b ∷ rest))
    by false plain later =
        subst (λ l. Joins (done ++ b ∷ rest) l) (sym (ap (λ p. fold joined_onto
        (if p then take (length done - 1) done else done ++ b ∷ []) rest) plain))
        (subst (λ l. Joins l (fold joined_onto (done ++ b ∷ []) rest)) (append_assoc done (b ∷ []) rest)
        (later (done ++ b ∷ []) (more_joined done b all plain)))
    by true pair_is later =
        let front = before_backslash done (and_second (b == newline) _ pair_is) in
        let line = eqb-true b newline (and_first (b == newline) _ pair_is) in
        let whole : front.0 ++ backslash ∷ newline ∷ rest ≡ done ++ b ∷ rest =
        sym (ap (λ l. l ++ b ∷ rest) front.1 ∙ append_assoc front.0 (backslash ∷ []) (b ∷ rest)
        ∙ ap (λ c. front.0 ++ backslash ∷ c ∷ rest) line) in
        let folded : fold joined_onto front.0 rest ≡ fold joined_onto done (b ∷ rest) =
        sym (ap (λ p. fold joined_onto (if p then take (length done - 1) done else done ++ b ∷ []) rest) pair_is
        ∙ ap (λ l. fold joined_onto (take (length l - 1) l) rest) front.1 ∙ ap (λ l. fold joined_onto l rest) (without_last front.0)) in
        subst (λ l. Joins (done ++ b ∷ rest) l) folded
        (subst (λ l. Joins l (fold joined_onto front.0 rest)) whole
        (pair_goes front.0 rest (later front.0 (front_joined front.0 (subst IsJoined front.1 all)))))

-- no text has a pair in it if it is empty
none_joined : IsJoined []
none_joined = λ front back is. by front back is
  where
    -- Plan: `by` says that no text with a pair in it is empty.
    by : (front back : List ℕ) → [] ≡ front ++ backslash ∷ newline ∷ back → ⊥
    by [] back is = cc
    by (b ∷ front) back is = cc

-- what is left of a whole text byte by byte is left by cases
pub joined_joins : (text : List ℕ) → Joins text (joined text)
joined_joins text = joins_from text [] none_joined
