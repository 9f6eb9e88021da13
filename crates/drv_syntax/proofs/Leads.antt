use Rattle.drv_words.specs.Bytes as ascii
use Rattle.drv_syntax.specs.Bytes.{is_of, is_white, is_word, any_of, functions, is_front, is_function, is_function_front, is_same, is_mark}
use Rattle.drv_syntax.specs.Contexts.{ListContext}
use Rattle.drv_syntax.specs.Fronts as cuts
use Rattle.drv_syntax.specs.Fronts.{RunsOut}
use Rattle.drv_syntax.specs.Spelling as s
use Rattle.drv_syntax.specs.Spelling.{AreSpaces, IsAsked, IsPattern, IsSign}
use Rattle.drv_syntax.specs.Tree.{Asked, Pattern}
use Rattle.std.proofs.Common.{◌≡◌, ◌≤◌, ◌∙◌, Bool, false, true, List, [], ◌∷◌, ap, arith, refl, subst, sym, ℕ, ◌++◌}
use Rattle.std.proofs.lemmas.Bool.Decides.{nat_tests}
use Rattle.std.specs.Prelude.{◌==◌, if◌then◌else◌, nat_le}

-- Facts on bytes and classes of them.
-- Names: `b`: a byte. `q`, `w`: what is left of the text, from step to step. `f`: a class of bytes. `more`: more text behind. `x`, `z`: a
-- test's value, so that `by` can go by both cases. `c`: where the list is, and what is around it. `p`: a pattern. `rest`: what follows in
-- the text. `is_word`: the byte may be in a word of a test. `is_of`: the byte is one of these. `any_of`: one of these names passes the test
-- f. `is_front`: the first is a front of the second. `is_function_front`: the bytes begin the name of a function, or are the whole of it.

-- bytes that the test finds equal are equal
pub same : (a b : ℕ) → (a == b) ≡ true → a ≡ b
same a b h = grind (arith, nat_tests)

-- true is not false, so a case in which they are equal can't arise
pub differs : {A : Type 0} → true ≡ false → A
differs h = absurd cc

-- a number that the test finds at most another is at most the other
pub le_true : {m n : ℕ} → nat_le m n ≡ true → m ≤ n
le_true h = grind (arith, nat_tests)

-- a byte that is none of these differs from the first of them and is none of the others
pub not_of : (x : ℕ) (xs : List ℕ) (b : ℕ) → is_of (x ∷ xs) b ≡ false → ((b == x) ≡ false) × (is_of xs b ≡ false)
not_of x xs b h = by (b == x) refl h
  where
    by : (z : Bool) → (b == x) ≡ z → is_of (x ∷ xs) b ≡ false → ((b == x) ≡ false) × (is_of xs b ≡ false)
    by true e h = differs (rw e at h)
    by false e h = (e, rw e at h)

-- a byte that f allows differs from one that f doesn't allow
pub other : (f : ℕ → Bool) (b x : ℕ) → f b ≡ true → f x ≡ false → (b == x) ≡ false
other f b x h g = by (b == x) refl
  where
    by : (z : Bool) → (b == x) ≡ z → (b == x) ≡ false
    by true e = differs (sym h ∙ ap f (same b x e) ∙ g)
    by false e = e

-- P holds of each byte of the list
abbrev pub AllOf : (ℕ → Type 0) → List ℕ → Type 0
AllOf P [] = Unit {0}
AllOf P (x ∷ xs) = (y : P x) × AllOf P xs

-- what holds of each byte of a list holds of a byte that is in the list
pub each : (P : ℕ → Type 0) (xs : List ℕ) (b : ℕ) → is_of xs b ≡ true → AllOf P xs → P b
each P [] b h all = differs (sym h)
each P (x ∷ xs) b h all = by (b == x) refl h (λ g. each P xs b g all.1)
  where
    by : (z : Bool) → (b == x) ≡ z → is_of (x ∷ xs) b ≡ true → (is_of xs b ≡ true → P b) → P b
    by true e h k = subst P (sym (same b x e)) all.0
    by false e h k = k (rw e at h)

-- a mark can be in a word
pub mark_word : (b : ℕ) → is_mark b ≡ true → is_word b ≡ true
mark_word b e = each (λ b. is_word b ≡ true) (46 ∷ 44 ∷ []) b e (refl, (refl, tt))

-- What the first byte of a pattern and of a test isn't. It serves the laws `spelled_is_read`, `front_is_unrefused` and `refusal_kinds`.
-- `NoHead f` says that f allows no byte that begins a pattern, and `s.Stops f t` that the text t doesn't begin with a byte that f allows.
-- The numbers in the statements are bytes: 37 is %, 42 *, 92 a backslash.

-- f allows no byte that begins a word, no backslash and no star
pub record NoHead (f : ℕ → Bool) : Type 0 where
  pub escape : f 92 ≡ false
  pub star : f 42 ≡ false
  pub word : (b : ℕ) → is_word b ≡ true → f b ≡ false

-- where f allows no byte that begins a pattern, no pattern begins with a byte that f allows
pub pattern_head : {f : ℕ → Bool} {text rest : List ℕ} {p : Pattern} → NoHead f → IsPattern text p rest → s.Stops f text
pattern_head h (s.unstarred (s.quoted_escape i) e) = s.at_byte h.escape
pattern_head h (s.unstarred (s.quoted_byte {b} e g i) z) = s.at_byte (h.word b g)
pattern_head h (s.starred (s.quoted_stop e g)) = s.at_byte h.star
pattern_head h (s.starred (s.quoted_escape i)) = s.at_byte h.escape
pattern_head h (s.starred (s.quoted_byte {b} e g i)) = s.at_byte (h.word b g)

-- where f allows no byte that begins a pattern, no word that the text ends in begins with a byte that f allows
pub out_head : {f : ℕ → Bool} {text : List ℕ} → NoHead f → RunsOut is_word text → s.Stops f text
out_head h cuts.out_end = s.at_end
out_head h cuts.out_backslash = s.at_byte h.escape
out_head h (cuts.out_escape o) = s.at_byte h.escape
out_head h (cuts.out_byte {b} e g o) = s.at_byte (h.word b g)

-- where f allows no byte that begins a pattern, and no percent sign, what a test asks doesn't begin with a byte that f allows
pub asked_head : {f : ℕ → Bool} {size : ℕ} {c : ListContext} {text rest : List ℕ} {a : Asked} → NoHead f → f 37 ≡ false
    → IsAsked size c text a rest → s.Stops f text
asked_head h e (s.switch z i) = pattern_head h i
asked_head h e (s.suffix i) = s.at_byte (h.word 46 refl)
asked_head h e (s.language i) = s.at_byte (h.word 44 refl)
asked_head h e (s.result i) = s.at_byte e

-- a percent sign begins no pattern
pub no_percent : NoHead (λ b. b == ascii.percent)
no_percent = record { escape = refl; star = refl; word = λ b w. other is_word b 37 w refl }

-- white space begins no pattern
pub no_white : NoHead is_white
no_white = record {
  escape = refl;
  star = refl;
  word = λ b w. rw (other is_word b 32 w refl, other is_word b 9 w refl, other is_word b 10 w refl) refl;
}

-- a `!` begins no pattern
pub no_sign : NoHead (λ b. b == ascii.exclamation_mark)
no_sign = record { escape = refl; star = refl; word = λ b w. other is_word b 33 w refl }

-- a colon begins no pattern
pub no_colon : NoHead (λ b. b == ascii.colon)
no_colon = record { escape = refl; star = refl; word = λ b w. other is_word b 58 w refl }

-- white space and then a byte that is no star don't begin with a star
pub unstarred_spaces : {w q : List ℕ} {b : ℕ} → AreSpaces w (b ∷ q) → (b == ascii.asterisk) ≡ false → s.Stops (λ x. x == ascii.asterisk) w
unstarred_spaces s.no_space e = s.at_byte e
unstarred_spaces (s.space {b} h i) e = s.at_byte (other is_white b 42 h refl)

-- white space up to the end of the text doesn't begin with a star
pub unstarred_end : {w : List ℕ} → AreSpaces w [] → s.Stops (λ x. x == ascii.asterisk) w
unstarred_end s.no_space = s.at_end
unstarred_end (s.space {b} h i) = s.at_byte (other is_white b 42 h refl)

-- where f allows neither a `!` nor the byte after it or none, the text with this sign begins with none that f allows
pub sign_head : {f : ℕ → Bool} {u v : List ℕ} {negated : Bool} → IsSign u negated v → s.Stops f v → f 33 ≡ false → s.Stops f u
sign_head (s.plain_sign h) w e = w
sign_head (s.not_sign i) w e = s.at_byte e

-- The names of functions: each front of one is a front, and none has a bracket. It serves the laws `spelled_is_read` and
-- `front_is_unrefused`. The number 40 in the statements is the byte (.

-- what holds only where a test does holds with that test
chosen : (z : Bool) {x : Bool} → (if z then x else false) ≡ true → (z ≡ true) × (x ≡ true)
chosen true h = (refl, h)
chosen false h = differs (sym h)

-- what doesn't hold doesn't where a test is asked first
refused : (z : Bool) {x : Bool} → x ≡ false → (if z then x else false) ≡ false
refused true h = h
refused false h = refl

-- a front of a function's whole name is a front of that name
pub is_same_front : (p more f : List ℕ) → is_same (p ++ more) f ≡ true → is_front p f ≡ true
is_same_front [] more f h = refl
is_same_front (b ∷ p) more [] h = differs (sym h)
is_same_front (b ∷ p) more (c ∷ q) h = let m = chosen (b == c) h in rw (m.0) (is_same_front p more q m.1)

-- a front of a front of a name is a front of that name
is_front_front : (p more f : List ℕ) → is_front (p ++ more) f ≡ true → is_front p f ≡ true
is_front_front [] more f h = refl
is_front_front (b ∷ p) more [] h = differs (sym h)
is_front_front (b ∷ p) more (c ∷ q) h = let m = chosen (b == c) h in rw (m.0) (is_front_front p more q m.1)

-- where f holds of one of the names, and implies g, then g holds of one of them
any_more : (f g : List ℕ → Bool) (xs : List (List ℕ)) → ((x : List ℕ) → f x ≡ true → g x ≡ true) → any_of f xs ≡ true → any_of g xs ≡ true
any_more f g [] k h = h
any_more f g (x ∷ xs) k h = by (f x) refl h (any_more f g xs k)
  where
    by : (z : Bool) → f x ≡ z → any_of f (x ∷ xs) ≡ true → (any_of f xs ≡ true → any_of g xs ≡ true) → any_of g (x ∷ xs) ≡ true
    by true e h r = rw (k x e) refl
    by false e h r = by_other (g x) refl (r (rw e at h))
      where
        by_other : (z : Bool) → g x ≡ z → any_of g xs ≡ true → any_of g (x ∷ xs) ≡ true
        by_other true e h = rw e refl
        by_other false e h = rw e h

-- what a function's name begins with is a front of a function's name
pub function_front : (p more : List ℕ) → is_function (p ++ more) ≡ true → is_function_front p ≡ true
function_front p more h = any_more (is_same (p ++ more)) (is_front p) functions (is_same_front p more) h

-- a front of a front of a function's name is one
pub front_front : (p more : List ℕ) → is_function_front (p ++ more) ≡ true → is_function_front p ≡ true
front_front p more h = any_more (is_front (p ++ more)) (is_front p) functions (is_front_front p more) h

-- a name with a ( at its end is a front of no name without a (
no_front : (name f : List ℕ) → is_of f 40 ≡ false → is_front (name ++ 40 ∷ []) f ≡ false
no_front [] [] h = refl
no_front (b ∷ p) [] h = refl
no_front [] (c ∷ q) h = rw ((not_of c q 40 h).0) refl
no_front (b ∷ p) (c ∷ q) h = refused (b == c) (no_front p q (not_of c q 40 h).1)

-- none of these names has a (, so a name ends before its parenthesis
abbrev Free : List (List ℕ) → Type 0
Free [] = Unit {0}
Free (f ∷ fs) = (y : is_of f 40 ≡ false) × Free fs

-- a name with a ( at its end is a front of none of these names
none_front : (name : List ℕ) (fs : List (List ℕ)) → Free fs → any_of (is_front (name ++ 40 ∷ [])) fs ≡ false
none_front name [] h = refl
none_front name (f ∷ fs) h = rw (no_front name f h.0) (none_front name fs h.1)

-- no front of a function's name ends in a (: one refl for each name of `functions`
pub bracket_ends : (name : List ℕ) → is_function_front (name ++ 40 ∷ []) ≡ false
bracket_ends name = none_front name functions (refl, (refl, (refl, (refl, (refl, (refl, (refl, tt)))))))
