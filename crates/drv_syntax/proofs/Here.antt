use Rattle.drv_words.specs.Bytes as ascii
use Rattle.drv_syntax.proofs.Leads.{front_front}
use Rattle.drv_syntax.specs.Bytes.{is_function_front, is_name_byte, is_option, is_white}
use Rattle.drv_syntax.specs.Contexts.{Kind, is_said}
use Rattle.drv_syntax.specs.Descent as d
use Rattle.drv_syntax.specs.Descent.{Run, Took, front_size, quoted, quoted_at, with_byte}
use Rattle.drv_syntax.specs.Directives.{said}
use Rattle.drv_syntax.specs.Rest.{Left, begins_with}
use Rattle.drv_syntax.specs.Spelling as s
use Rattle.drv_syntax.specs.Spelling.{AreSpaces, IsPattern, IsQuoted, IsRun, IsSuffix}
use Rattle.drv_syntax.specs.Tree.{Accumulate, NamedText, Pattern, TempName}
use Rattle.drv_syntax.specs.declared.directives.SayKind.{SayKind}
use Rattle.drv_syntax.specs.declared.token.TempKind.{TempKind}
use Rattle.std.proofs.Common.{◌≡◌, ◌≤◌, ◌∙◌, ◌+◌, ◌++◌, Bool, false, true, List, [], ◌∷◌, ap, append_assoc, append-nil, arith, drop, length}
use Rattle.std.proofs.Common.{length-append, refl, subst, suc, sym, take, ℕ}
use Rattle.std.proofs.Math.Seq.{drop-append_seam, take-append_seam}
use Rattle.std.proofs.lemmas.Bool.Decides.{nat_tests}
use Rattle.std.specs.List.{prefix_len}
use Rattle.std.specs.Prelude.{◌-◌, ◌==◌, Some, nat_le}

-- What the grammar says of the words of a text, and of directives without lists, Descent makes of it. It serves the laws
-- `spelled_is_read`, `front_is_unrefused` and `refusal_kinds`. The numbers in the statements are bytes: 40 is (, 41 ), 123 {, 125 }.
-- Names: `t`, `q`: what is left of the text, from step to step. `b`: a byte. `f`: a class of bytes. `size`: the length of the whole text.
-- `run`: bytes of one class that follow one another. `rest`: what follows in the text. `p`: a pattern. `is_function_front`: the bytes begin
-- the name of a function, or are the whole of it. `is_white`: a space, a tab or a newline. `quoted_at`: the longest run of bytes of the
-- class f and of escapes. `IsQuoted`: the longest run of bytes of the class f and of escapes. `IsRun`: the longest run of bytes of the
-- class f, and what is left after it.

-- a text doesn't begin with a byte that it stops at
pub begins_not : (x : ℕ) {t : List ℕ} → s.Stops (λ b. b == x) t → begins_with x t ≡ false
begins_not x s.at_end = refl
begins_not x (s.at_byte e) = e

-- a run takes bytes of the text alone
pub quoted_shorter : {f : ℕ → Bool} {t word q : List ℕ} → IsQuoted f t word q → length q ≤ length t
quoted_shorter s.quoted_end = omega arith
quoted_shorter (s.quoted_stop e g) = omega arith
quoted_shorter (s.quoted_escape i) = omega (arith, quoted_shorter i)
quoted_shorter (s.quoted_byte e g i) = omega (arith, quoted_shorter i)

-- a pattern takes bytes of the text alone
pub pattern_shorter : {t q : List ℕ} {p : Pattern} → IsPattern t p q → length q ≤ length t
pattern_shorter (s.unstarred i e) = quoted_shorter i
pattern_shorter (s.starred i) = omega (arith, quoted_shorter i)

-- white space takes bytes of the text alone
pub spaces_shorter : {t q : List ℕ} → AreSpaces t q → length q ≤ length t
spaces_shorter s.no_space = omega arith
spaces_shorter (s.space e i) = omega (arith, spaces_shorter i)

-- a run by the grammar is the one that Descent counts at the front of the text
pub run_is : {f : ℕ → Bool} {t run q : List ℕ} → IsRun f t run q
    → (prefix_len f t ≡ length run) × (take (length run) t ≡ run) × (drop (length run) t ≡ q) × (length t ≡ length run + length q)
run_is (s.run_ends s.at_end) = (refl, refl, refl, refl)
run_is (s.run_ends (s.at_byte e)) = rw e (refl, refl, refl, omega arith)
run_is {f} (s.run_goes {b} {text} {run} {rest} e i) =
    let m = run_is i in let n : 1 + prefix_len f text ≡ length (b ∷ run) = omega (arith, m.0) in
    (rw e n, ap (λ (t : List ℕ). b ∷ t) m.1, m.2, omega (arith, m.3))

-- a byte that begins no run gives a run of no bytes
pub none_quoted : (f : ℕ → Bool) {b : ℕ} (n : ℕ) (q : List ℕ) → (b == ascii.backslash) ≡ false → f b ≡ false
    → quoted_at f n (b ∷ q) ≡ d.run_ends n (b ∷ q)
none_quoted f n [] e g = rw (e, g) refl
none_quoted f n (c ∷ q) e g = rw (e, g) refl

-- a byte that f allows is one more byte of a run
pub byte_quoted : (f : ℕ → Bool) {b : ℕ} (n : ℕ) (t : List ℕ) → (b == ascii.backslash) ≡ false → f b ≡ true
    → quoted_at f n (b ∷ t) ≡ with_byte b (quoted_at f (n + 1) t)
byte_quoted f n [] e g = rw (e, g) refl
byte_quoted f n (c ∷ t) e g = rw (e, g) refl

-- a text of this size
module _ (size : ℕ) where
  -- what is left of the text where these bytes are left
  abbrev pub here : List ℕ → Left
  here t = record { at = size - length t; bytes = t }

  -- one byte on
  pub one : (t : List ℕ) → suc (length t) ≤ size → size - suc (length t) + 1 ≡ size - length t
  one t h = omega (arith, h)

  -- two bytes on
  pub two : (t : List ℕ) → suc (suc (length t)) ≤ size → size - suc (suc (length t)) + 2 ≡ size - length t
  two t h = omega (arith, h)

  -- the place of what is left after a run
  pub run_place : {f : ℕ → Bool} {t run q : List ℕ} → IsRun f t run q → length t ≤ size → size - length t + length run ≡ size - length q
  run_place i h = omega (arith, (run_is i).3, h)

  -- white space by the grammar, which no more follows, is what Descent skips
  pub spaces_on : {t q : List ℕ} → AreSpaces t q → s.Stops is_white q → length t ≤ size
      → (drop (prefix_len is_white t) t ≡ q) × (size - length t + prefix_len is_white t ≡ size - length q)
  spaces_on {t} i e h = let r = run i e in let m = run_is r.1 in rw (m.0) (m.2, run_place r.1 h)
    where
      -- white space is the longest run of it
      run : {t q : List ℕ} → AreSpaces t q → s.Stops is_white q → (word : List ℕ) × IsRun is_white t word q
      run s.no_space e = ([], s.run_ends e)
      run (s.space {b} g i) e = let m = run i e in (b ∷ m.0, s.run_goes g m.1)

  -- a run with escapes by the grammar is the one that Descent takes
  pub quoted_is : {f : ℕ → Bool} {t word q : List ℕ} → IsQuoted f t word q → length t ≤ size
      → quoted f (here t) ≡ record { word = Some word; rest = here q }
  quoted_is {t = t} i h = from (size - length t) i (omega (arith, h))
    where
      -- the same from any place n, by the turns of the run
      from : {f : ℕ → Bool} {t word q : List ℕ} (n : ℕ) → IsQuoted f t word q → n + length t ≡ size
          → quoted_at f n t ≡ record { word = Some word; rest = here q }
      from n s.quoted_end h = let e : n ≡ size - 0 = omega (arith, h) in ap (λ (place : ℕ). d.run_ends place []) e
      from {f} n (s.quoted_stop {b} {rest} e g) h =
          let i : n ≡ size - length (b ∷ rest) = omega (arith, h) in
          none_quoted f n rest e g ∙ ap (λ (place : ℕ). d.run_ends place (b ∷ rest)) i
      from n (s.quoted_escape {b} i) h = ap (λ (run : Run). with_byte b run) (from (n + 2) i (omega (arith, h)))
      from {f} n (s.quoted_byte {b} {text} e g i) h =
          byte_quoted f n text e g ∙ ap (λ (run : Run). with_byte b run) (from (n + 1) i (omega (arith, h)))

  -- a pattern by the grammar is read
  pub pattern_is : {t q : List ℕ} {p : Pattern} (at : ℕ) → IsPattern t p q → length t ≤ size → d.pattern_at at (here t) ≡ Took p (here q)
  pattern_is at (s.unstarred i e) h = rw (quoted_is i h, begins_not 42 e) refl
  pattern_is {q = q} at (s.starred i) h = rw (quoted_is i h, one q (omega (arith, quoted_shorter i, h))) refl

  -- directives without lists

  -- a suffix by the grammar is read
  pub suffix_is : {t suffix q : List ℕ} (kind : TempKind) → IsSuffix t suffix q → length t ≤ size
      → d.suffix kind (here t) ≡ Took (TempName kind suffix) (here q)
  suffix_is kind (s.suffix_run {b} {run = run} i) h =
      let m = run_is i in let n : (length (b ∷ run) == 0) ≡ false = grind (arith, nat_tests) in rw (m.0, n, m.1, m.2, run_place i h) refl
  suffix_is kind (s.suffix_object {rest}) h = rw (two rest h) refl
  suffix_is kind s.suffix_none h = refl
  suffix_is kind (s.suffix_other {b} {rest} e g) h = rw e (other rest)
    where
      -- a suffix that does not begin so is no object file's
      other : (rest : List ℕ) → d.suffix_object kind (here (b ∷ rest)) (b ∷ rest) ≡ Took (TempName kind []) (here (b ∷ rest))
      other [] = rw g refl
      other (c ∷ rest) = rw g refl
  suffix_is kind (s.suffix_directive {b} {rest} e) h = rw e refl

  -- %x{OPTION} by the grammar is read
  pub option_is : {t option q : List ℕ} {b : ℕ} (at : ℕ) → IsQuoted is_option t (b ∷ option) (125 ∷ q) → suc (length t) ≤ size
      → d.option at (here (123 ∷ t)) ≡ Took (Accumulate (b ∷ option)) (here q)
  option_is {t} {q = q} at i h = rw (one t h, quoted_is i (omega (arith, h)), one q (omega (arith, quoted_shorter i, h))) refl

  -- the text of %e and %n by the grammar is read
  pub saying_is : {t words mid q : List ℕ} (list : Kind) (kind : SayKind) → IsQuoted (is_said list) t words mid → s.EndsSaying mid q
      → length t ≤ size → d.saying list kind (here t) ≡ Took (said kind words) (here q)
  saying_is list kind i (s.by_newline {rest}) h = rw (quoted_is i h, one rest (omega (arith, quoted_shorter i, h))) refl
  saying_is list kind i (s.by_other e) h = rw (quoted_is i h, begins_not 10 e) refl

  -- %(NAME) by the grammar is read
  pub named_is : {t name q : List ℕ} {b : ℕ} (at : ℕ) → IsRun is_name_byte t (b ∷ name) (41 ∷ q) → length (b ∷ name) ≤ 255
      → length t ≤ size → d.named at (here t) ≡ Took (NamedText (b ∷ name)) (here q)
  named_is {name = name} {q} {b} at i l h =
      let m = run_is i in let e : nat_le (length (b ∷ name)) 255 ≡ true = grind (arith, nat_tests, l) in
      let n : (length (b ∷ name) == 0) ≡ false = grind (arith, nat_tests) in
      rw (m.0, e, m.1, m.2, run_place i h, n, one q (omega (arith, m.3, h))) refl

  -- functions

  -- the text goes on with no byte that a front of a function's name goes on with
  abbrev pub EndsName : List ℕ → List ℕ → Type 0
  EndsName name [] = Unit {0}
  EndsName name (b ∷ q) = is_function_front (name ++ b ∷ []) ≡ false

  -- the front of a function's name is read up to the byte that it doesn't go on with
  pub function_on : (name q : List ℕ) (at : ℕ) → is_function_front name ≡ true → EndsName name q → length (name ++ q) ≤ size
      → d.function at (here (name ++ q)) ≡ d.function_end at name (here q)
  function_on name q at is e h =
      let i : size - length (name ++ q) + length name ≡ size - length q = omega (arith, length-append name q, h) in
      rw (counts [] name q is e, take-append_seam name q, drop-append_seam name q, i) refl
    where
      -- Plan: by induction on the bytes that are left of the name, after those that are done.
      counts : (done name q : List ℕ) → is_function_front (done ++ name) ≡ true → EndsName (done ++ name) q
          → front_size done (name ++ q) ≡ length name
      counts done [] [] is e = refl
      counts done [] (b ∷ q) is e =
          let g : is_function_front (done ++ b ∷ []) ≡ false = ap (λ n. is_function_front (n ++ b ∷ [])) (sym (append-nil done)) ∙ e in
          rw (g) refl
      counts done (b ∷ name) q is e =
          let g : (done ++ b ∷ []) ++ name ≡ done ++ b ∷ name = append_assoc done (b ∷ []) name in
          let front : is_function_front ((done ++ b ∷ []) ++ name) ≡ true = ap is_function_front g ∙ is in
          let more : EndsName ((done ++ b ∷ []) ++ name) q = subst (λ n. EndsName n q) (sym g) e in
          let n : 1 + front_size (done ++ b ∷ []) (name ++ q) ≡ suc (length name) = omega
          (arith, counts (done ++ b ∷ []) name q front more) in rw (front_front (done ++ b ∷ []) name front) n
