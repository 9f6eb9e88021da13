use Rattle.drv_check.specs.Branches.{asks_all, covers, names_all}
use Rattle.drv_check.specs.Coverage.{has_switch, is_true, pattern_of}
use Rattle.drv_match.specs.Matching.{is_broad, is_hit, is_live, is_named, name_at}
use Rattle.drv_syntax.specs.Labels.{Label}
use Rattle.drv_syntax.specs.declared.token.TestKind.TheVariants as asking
use Rattle.drv_syntax.specs.declared.token.TestKind.{TestKind}
use Rattle.std.proofs.Common.{◌≡◌, ◌<◌, ◌≤◌, ◌∙◌, ◌&&◌, ◌||◌, ◌+◌, ◌++◌, Bool, List, [], ◌∷◌, ap, append-nil, append_assoc, arith, drop}
use Rattle.std.proofs.Common.{false, get_or, if◌then◌else◌, length, nat_eq, not, refl, subst, sym, true, ℕ}
use Rattle.std.proofs.Math.Bool.{or-true}
use Rattle.std.proofs.lemmas.Bool.Decides.{Decides-eqb, nat_tests}
use Rattle.std.proofs.lemmas.List.{length-append}
use Rattle.std.proofs.lemmas.Slice.Eq.{slice_eq-Decides, starts_is}
use Rattle.std.specs.Cmp.Lexicographic.{pointwise}
use Rattle.std.specs.List.{filter, range_with_len, starts_with}
use Rattle.std.specs.Prelude.{nat_le, nat_lt}

-- A pattern that names all that another one names hits a switch wherever that one does. For `covered_tests_are_true` (src/laws.rt).
-- Names: `first` and `second` are the labels of two tests. `p` and `q` are the words of two patterns, and `a` and `b` whether each has a
-- star. `name` is a switch's name. `names` is all switches of the line, and `hidden` says which are hidden. `i` is the place of one. `k`
-- and `l` are what two tests ask. `names_all first second`: each switch that the second names is named by the first. `is_hit` says that a
-- pattern hits a switch (drv_match). `covers` says that the first test is true wherever the second is (specs/Branches).

-- Equal by comparison is equal: tests of words become equations.
same : (a b : List ℕ) → pointwise nat_eq a b ≡ true → a ≡ b
same a b is = (slice_eq-Decides Decides-eqb a b (pointwise nat_eq a b) refl).0 is

-- A word is equal to itself by comparison: this is wanted for a pattern without a star.
same_back : (a : List ℕ) → pointwise nat_eq a a ≡ true
same_back a = (slice_eq-Decides Decides-eqb a a (pointwise nat_eq a a) refl).1 refl

-- A word that begins with another is that one and a rest.
begins : (s p : List ℕ) → starts_with nat_eq s p ≡ true → s ≡ p ++ drop (length p) s
begins s p is = (starts_is Decides-eqb s p (starts_with nat_eq s p) refl).0 is

-- A word and a rest begin with that word.
begins_back : (s p rest : List ℕ) → s ≡ p ++ rest → starts_with nat_eq s p ≡ true
begins_back s p rest is = (starts_is Decides-eqb s p (starts_with nat_eq s p) refl).1 rest is

-- What a word begins with begins with what that begins with: one starred pattern then covers a longer one.
through : (p q name : List ℕ) → starts_with nat_eq q p ≡ true → starts_with nat_eq name q ≡ true → starts_with nat_eq name p ≡ true
through p q name one two =
    begins_back name p (drop (length p) q ++ drop (length q) name)
    (begins name q two ∙ ap (λ s. s ++ drop (length q) name) (begins q p one) ∙ append_assoc p (drop (length p) q) (drop (length q) name))

-- A name that the second pattern has, the first has, where it names all that the second one names.
named_too : (a b : Bool) (p q name : List ℕ) → (if a then starts_with nat_eq q p else not b && pointwise nat_eq q p) ≡ true
    → (if b then starts_with nat_eq name q else pointwise nat_eq name q) ≡ true
    → (if a then starts_with nat_eq name p else pointwise nat_eq name p) ≡ true
named_too true true p q name all is = through p q name all is
named_too true false p q name all is = subst (λ n. starts_with nat_eq n p ≡ true) (sym (same name q is)) all
named_too false true p q name all is = absurd cc
named_too false false p q name all is = subst (λ n. pointwise nat_eq n p ≡ true) (sym (same name q is)) all

-- A word is no longer than one that begins with it.
shorter : (p q : List ℕ) → starts_with nat_eq q p ≡ true → length p ≤ length q
shorter p q is =
    let whole : length q ≡ length p + length (drop (length p) q) = ap (λ s. length s) (begins q p is)
    ∙ length-append p (drop (length p) q) in
    omega (arith, whole)

-- A pattern that names all of a broad one's switches is broad too, so that it hits the same dead switches.
broad_too : (a b : Bool) (p q : List ℕ) → (if a then starts_with nat_eq q p else not b && pointwise nat_eq q p) ≡ true
    → (b && nat_le (length q) 1) ≡ true → (a && nat_le (length p) 1) ≡ true
broad_too true true p q all is =
    let less : length p ≤ length q = shorter p q all in
    grind (arith, nat_tests, less)
broad_too a false p q all is = absurd cc
broad_too false true p q all is = absurd cc

-- The tests of a hit, taken together, pass from one pattern to the other.
both_too : (shown live named named' broad broad' : Bool) → (named ≡ true → named' ≡ true) → (broad ≡ true → broad' ≡ true)
    → (shown && named && (broad || live)) ≡ true → (shown && named' && (broad' || live)) ≡ true
both_too false live named named' broad broad' f g e = absurd cc
both_too true live false named' broad broad' f g e = absurd cc
both_too true live true named' true broad' f g e = rw (f refl, g refl) refl
both_too true true true named' false broad' f g e = rw (f refl) (or-true broad')
both_too true false true named' false broad' f g e = absurd cc

-- A switch that the second pattern hits, the first one hits.
hit_too : (names : List (List ℕ)) (hidden : List Bool) (first second : Label) → names_all first second ≡ true → (i : ℕ)
    → is_hit names hidden (pattern_of second) i ≡ true → is_hit names hidden (pattern_of first) i ≡ true
hit_too names hidden first second all i =
    both_too (not (get_or hidden i false)) (is_live names i) (is_named (pattern_of second) (name_at names i))
    (is_named (pattern_of first) (name_at names i))
    (is_broad (pattern_of second)) (is_broad (pattern_of first))
    (named_too first.starred second.starred first.word second.word (name_at names i) all)
    (broad_too first.starred second.starred first.word second.word all)

-- Where each item that passes one test passes another, and some pass the first, some pass the second.
some_too : (f g : ℕ → Bool) → ((i : ℕ) → f i ≡ true → g i ≡ true) → (xs : List ℕ) → nat_lt 0 (length (filter f xs)) ≡ true
    → nat_lt 0 (length (filter g xs)) ≡ true
some_too f g more [] is = absurd cc
some_too f g more (x ∷ xs) is = by (f x) (g x) refl refl (some_too f g more xs) is
  where
    -- Plan: `by` goes by the cases of `f x` and `g x`.
    by : (t u : Bool) → f x ≡ t → g x ≡ u → (nat_lt 0 (length (filter f xs)) ≡ true → nat_lt 0 (length (filter g xs)) ≡ true)
        → nat_lt 0 (length (if t then x ∷ filter f xs else filter f xs)) ≡ true
        → nat_lt 0 (length (if u then x ∷ filter g xs else filter g xs)) ≡ true
    by t true has has' ih e =
        let some : 0 < length (filter g xs) + 1 = omega arith in
        grind (arith, nat_tests, some)
    by true false has has' ih e = absurd (let clash : true ≡ false = sym (more x has) ∙ has' in cc)
    by false false has has' ih e = ih e

-- So a line that has a switch for the second pattern has one for the first.
switch_too : (names : List (List ℕ)) (hidden : List Bool) (first second : Label) → names_all first second ≡ true
    → has_switch names hidden second ≡ true → has_switch names hidden first ≡ true
switch_too names hidden first second all =
    some_too (is_hit names hidden (pattern_of second)) (is_hit names hidden (pattern_of first)) (hit_too names hidden first second all)
    (range_with_len 0 (length names))

-- With negations on either side the tests still pass from one to the other: all cases, by themselves.
turned_too : (turned turned' A B C D : Bool) → (C ≡ true → B ≡ true → A ≡ true) → (D ≡ true → A ≡ true → B ≡ true)
    → (if turned then turned' && D else not turned' && C) ≡ true → (if turned' then not B else B) ≡ true
    → (if turned then not A else A) ≡ true
turned_too true true true true C D f g e t = absurd cc
turned_too true true true false C D f g e t = absurd (let clash : false ≡ true = g e refl in cc)
turned_too true true false B C D f g e t = refl
turned_too true false A B C D f g e t = absurd cc
turned_too false true A B C D f g e t = absurd cc
turned_too false false A B C D f g e t = f e t

-- Two tests of switches cover one another as their patterns do.
covers_by : (k l : TestKind) (first second : Label) → k ≡ asking.Switch → l ≡ asking.Switch
    → (if first.negated then second.negated && asks_all l k second first else not second.negated && asks_all k l first second) ≡ true
    → (if first.negated then second.negated && names_all second first else not second.negated && names_all first second) ≡ true
covers_by k l first second is is' e =
    subst (λ j. (if first.negated then second.negated && asks_all asking.Switch j second first
    else not second.negated && asks_all j asking.Switch first second) ≡ true) is
    (subst (λ j. (if first.negated then second.negated && asks_all j k second first else not second.negated && asks_all k j first second)
    ≡ true) is' e)

-- A test that covers another is true on each line where that is: no line reaches a branch behind it.
pub covered : (names : List (List ℕ)) (hidden : List Bool) (first second : Label) → first.asks ≡ asking.Switch → second.asks ≡ asking.Switch
    → covers first second ≡ true → is_true names hidden second ≡ true → is_true names hidden first ≡ true
covered names hidden first second is is' covers =
    turned_too first.negated second.negated (has_switch names hidden first) (has_switch names hidden second) (names_all first second)
    (names_all second first)
    (switch_too names hidden first second) (switch_too names hidden second first)
    (covers_by first.asks second.asks first second is is' covers)

-- a pattern that names no switch which another one doesn't name

-- A word isn't itself and also longer by a byte: one switch more tells a starred pattern from a plain one.
no_longer : (p q : List ℕ) → q ≡ p → q ++ 0 ∷ [] ≡ p → ⊥
no_longer p q is longer =
    let one : length q ≡ length p = ap (λ s. length s) is in
    let more : length q + 1 ≡ length p = sym (length-append q (0 ∷ [])) ∙ ap (λ s. length s) longer in
    omega (arith, one, more)

-- A pattern that names each switch that another names is found by the comparison of the two words.
whole_by : (a b : Bool) (p q : List ℕ)
    → ((name : List ℕ) → (if b then starts_with nat_eq name q else pointwise nat_eq name q) ≡ true
    → (if a then starts_with nat_eq name p else pointwise nat_eq name p) ≡ true)
    → (if a then starts_with nat_eq q p else not b && pointwise nat_eq q p) ≡ true
whole_by true true p q names = names q (begins_back q q [] (sym (append-nil q)))
whole_by true false p q names = names q (same_back q)
whole_by false false p q names = names q (same_back q)
whole_by false true p q names =
    absurd (no_longer p q (same q p (names q (begins_back q q [] (sym (append-nil q)))))
    (same (q ++ 0 ∷ []) p (names (q ++ 0 ∷ []) (begins_back (q ++ 0 ∷ []) q (0 ∷ []) refl))))

-- So the definition finds every pattern that names all that another one names.
pub whole : (first second : Label)
    → ((name : List ℕ) → is_named (pattern_of second) name ≡ true → is_named (pattern_of first) name ≡ true) → names_all first second ≡ true
whole first second = whole_by first.starred second.starred first.word second.word
