use Rattle.drv_words.specs.Bytes as ascii
use Rattle.drv_syntax.proofs.Leads.{mark_word, differs, other, same}
use Rattle.drv_syntax.proofs.Meant.{refuses_byte, Meant, RefusesAt, unfit, left, meant_as, meant_byte, meant_ends, meant_if, meant_stops}
use Rattle.drv_syntax.proofs.Meant.{refuses_at, up_byte, up_more, up_place, meant_then, meant_took}
use Rattle.drv_syntax.proofs.MeantWords.{CallBad, CallIs, Reads, call_is, call_meant, in_list, no_function, PatternBad}
use Rattle.drv_syntax.proofs.MeantWords.{meant_word, name_bad, no_pattern, pattern_meant, runs_out}
use Rattle.drv_syntax.specs.Bytes.{is_mark, is_of, is_white, is_word}
use Rattle.drv_syntax.specs.Contexts.{ListContext, in_arguments, in_braces}
use Rattle.drv_syntax.specs.Descent as d
use Rattle.drv_syntax.specs.Descent.{Ends, Lists, Operand, Read, Took}
use Rattle.drv_syntax.specs.Fronts as cuts
use Rattle.drv_syntax.specs.Fronts.{CutsAsked}
use Rattle.drv_syntax.specs.Refusals as r
use Rattle.drv_syntax.specs.Refusals.{Due, Order, ReachesAsked, ends_pattern}
use Rattle.drv_syntax.specs.Refusals.{is_default, may_emit}
use Rattle.drv_syntax.specs.Rest.{by_byte, first_of}
use Rattle.drv_syntax.specs.Spelling as s
use Rattle.drv_syntax.specs.Spelling.{At, IsAsked, IsCall, IsPattern, IsQuoted}
use Rattle.drv_syntax.specs.Tree.{HasLanguage, HasSuffix, Items, Pattern, pattern}
use Rattle.drv_syntax.specs.declared.fault.SyntaxFault.TheVariants.{EmptyTest}
use Rattle.drv_syntax.specs.declared.fault.SyntaxFault.{SyntaxFault}
use Rattle.std.proofs.Common.{◌≡◌, ◌+◌, Bool, false, true, if◌then◌else◌, List, [], ◌∷◌, arith, refl, sym, ℕ}
use Rattle.std.specs.Prelude.{◌-◌, ◌==◌}

-- What a test asks: what Descent (the grammar as functions) makes of it is what the grammar says. A mark is the `.` or `,` of a test.
-- Names: at: the place of the directive; c: its context; t, q: what is left of the text from step to step; k: the place of the byte that
-- is refused.

-- right after a mark alone: white space, or the end of a pattern
pub data Bared : List ℕ → Type 0 where
  by_white : {b : ℕ} {rest : List ℕ} → is_white b ≡ true → Bared (b ∷ rest)
  by_end : {b : ℕ} {rest : List ℕ} → is_of ends_pattern b ≡ true → Bared (b ∷ rest)

-- what was taken for a test or a pattern, which it may still be
pub data IsOperand (size : ℕ) (g : ListContext) (emits : Bool) : List ℕ → Operand → List ℕ → Type 0 where
  by_switch : {t q : List ℕ} {p : Pattern} → s.Stops is_mark t → IsPattern t p q → IsOperand size g emits t (d.switch_operand p) q
  by_mark : {mark b : ℕ} {t word q : List ℕ} → is_mark mark ≡ true → IsQuoted is_word t (b ∷ word) q → s.Stops (λ x. x == ascii.asterisk) q
      → IsOperand size g emits (mark ∷ t) (d.marked_operand mark (b ∷ word)) q
  by_star : {mark : ℕ} {t word q : List ℕ} → emits ≡ true → is_mark mark ≡ true → IsQuoted is_word t word (ascii.asterisk ∷ q)
      → IsOperand size g emits (mark ∷ t) (d.starred_operand mark word) q
  by_bare : {mark : ℕ} {q : List ℕ} → emits ≡ true → is_mark mark ≡ true → IsPattern (mark ∷ q) (pattern (mark ∷ []) false) q → Bared q
      → IsOperand size g emits (mark ∷ q) (d.bare_operand mark) q
  by_result : {t name q : List ℕ} {items : Items} → IsCall size g t name items q
      → IsOperand size g emits (ascii.percent ∷ ascii.colon ∷ t) (d.result_operand name items) q

-- the byte that doesn't fit is in what is asked
pub data AskedBad (at size : ℕ) (g : ListContext) (order : Order) (negated : Bool) : List ℕ → ℕ → SyntaxFault → Type 0 where
  asked_bad : {t last : List ℕ} {due : Due} {k : ℕ} {fault : SyntaxFault} → ReachesAsked size g at order negated t due last
      → RefusesAt size k due last fault → AskedBad at size g order negated t k fault
  mark_bad : {mark b k : ℕ} {text : List ℕ} → At size k (b ∷ text) → may_emit order negated ≡ true → is_mark mark ≡ true
      → IsPattern (mark ∷ b ∷ text) (pattern (mark ∷ []) false) (b ∷ text)
      → is_white b ≡ false → is_of ends_pattern b ≡ false → AskedBad at size g order negated (mark ∷ b ∷ text) k (EmptyTest at)

-- bytes

-- a mark is no backslash
pub mark_plain : (mark : ℕ) → is_mark mark ≡ true → (mark == ascii.backslash) ≡ false
mark_plain mark e = other is_mark mark ascii.backslash e refl

-- a mark and a word after it ask for a suffix or a language
pub asked_marked : {size : ℕ} (mark b : ℕ) {c : ListContext} {t : List ℕ} (word : List ℕ) {q : List ℕ}
    → is_mark mark ≡ true → IsQuoted is_word t (b ∷ word) q → IsAsked size c (mark ∷ t) (d.marked mark (b ∷ word)) q
asked_marked {size} mark b {c} {t} word {q} e i = by (mark == ascii.period) (mark == ascii.comma) refl refl e
  where
    by : (suffix language : Bool) → (mark == ascii.period) ≡ suffix
        → (mark == ascii.comma) ≡ language → (if suffix then true else if language then true else false) ≡ true
        → IsAsked size c (mark ∷ t) (if suffix then HasSuffix (b ∷ word) else HasLanguage (b ∷ word)) q
    by true language h k f = rw (same mark ascii.period h) (s.suffix i)
    by false true h k f = rw (same mark ascii.comma k) (s.language i)
    by false false h k f = differs (sym f)

-- a mark is a pattern where neither a word, an escape nor a star follows it
mark_pattern : {mark b : ℕ} {q : List ℕ} → is_mark mark ≡ true → (b == ascii.backslash) ≡ false → is_word b ≡ false
    → (b == ascii.asterisk) ≡ false → IsPattern (mark ∷ b ∷ q) (pattern (mark ∷ []) false) (b ∷ q)
mark_pattern {mark} e f g h = s.unstarred (s.quoted_byte (mark_plain mark e) (mark_word mark e) (s.quoted_stop f g)) (s.at_byte h)

-- what may follow a mark alone is white space or the end of a pattern
bared : (b : ℕ) (rest : List ℕ) → d.ends_bare b ≡ true → Bared (b ∷ rest)
bared b rest e = by (b == ascii.closing_brace) (b == ascii.ampersand) refl refl
  where
    by : (x y : Bool) → (b == ascii.closing_brace) ≡ x → (b == ascii.ampersand) ≡ y → Bared (b ∷ rest)
    by true y f g = by_end (rw f refl)
    by false true f g = by_end (rw (f, g) refl)
    by false false f g = by_white (rw (f, g) at e)

-- what may not follow a mark alone is neither white space nor the end of a pattern
not_bared : (b : ℕ) → d.ends_bare b ≡ false → (is_white b ≡ false) × (is_of ends_pattern b ≡ false)
not_bared b e = by (b == ascii.closing_brace) (b == ascii.ampersand) refl refl
  where
    by : (x y : Bool) → (b == ascii.closing_brace) ≡ x → (b == ascii.ampersand) ≡ y → (is_white b ≡ false) × (is_of ends_pattern b ≡ false)
    by true y f g = differs (rw f at e)
    by false true f g = differs (rw (f, g) at e)
    by false false f g = (rw (f, g) at e, rw (f, g) refl)

-- the arguments of tests in braces are what the grammar says
module _ (size : ℕ) (deep : Lists) (c : ListContext) (meets : (c.levels - 1 == 0) ≡ false → Reads size (in_arguments (in_braces c)) deep)
    (at : ℕ) (order : Order) (negated : Bool) where
  -- what Descent makes of what a test asks is what the grammar says
  abbrev AskedMeant : List ℕ → Read Operand → Type 0
  AskedMeant text x = Meant size (λ o q. IsOperand size (in_braces c) (may_emit order negated) text o q) (CutsAsked size (in_braces c) text)
      (AskedBad at size (in_braces c) order negated text) x

  -- after a mark and the run after it, what Descent takes is what the grammar says
  mark_end_meant : (mark : ℕ) → is_mark mark ≡ true → (m : ℕ) {text : List ℕ} (word rest : List ℕ) → At size m rest
      → IsQuoted is_word text word rest → (emits : Bool) → may_emit order negated ≡ emits
      → AskedMeant (mark ∷ text) (if d.is_empty word then by_byte (first_of rest) (Ends at) (λ b. d.bare_end at emits mark (left m rest) b)
      else d.marked_end at emits mark word (left m rest))
  mark_end_meant mark is m [] [] place i emits h = meant_ends (cuts.cut_marked is (runs_out i))
  mark_end_meant mark is m [] (b ∷ rest) place (s.quoted_stop e g) true h =
      meant_byte b ascii.asterisk (λ f. meant_took (omega (arith, place)) (rw f (by_star h is (s.quoted_stop refl refl))))
      (λ f. meant_if (d.ends_bare b) (λ k. meant_took place (by_bare h is (mark_pattern is e g f) (bared b rest k)))
      (λ k. meant_stops (mark_bad place h is (mark_pattern is e g f) (not_bared b k).0 (not_bared b k).1)))
  mark_end_meant mark is m [] (b ∷ rest) place (s.quoted_stop e g) false h =
      meant_stops (asked_bad (r.word_due h is) (refuses_byte (r.no_word e g) place))
  mark_end_meant mark is m (x ∷ word) [] place i emits h = meant_took place (by_mark is i s.at_end)
  mark_end_meant mark is m (x ∷ word) (b ∷ rest) place i true h =
      meant_byte b ascii.asterisk (λ e. meant_took (omega (arith, place)) (by_star h is (rw e at i))) (λ e. meant_took place (by_mark is i
      (s.at_byte e)))
  mark_end_meant mark is m (x ∷ word) (b ∷ rest) place i false h =
      meant_byte b ascii.asterisk (λ e. meant_stops (asked_bad (r.test_ends {rest = ascii.asterisk ∷ rest} h
      (asked_marked mark x word is (rw e at i)) s.no_space) (refuses_byte (r.no_end refl refl) place)))
      (λ e. meant_took place (by_mark is i (s.at_byte e)))

  -- a byte that doesn't fit in the call of a test doesn't fit in the test
  call_asked : (n : ℕ) {t : List ℕ} {k : ℕ} {fault : SyntaxFault}
      → (c.levels - 1 == 0) ≡ false → At size n (ascii.percent ∷ ascii.colon ∷ t)
      → CallBad (in_braces c) n size t k fault → AskedBad at size (in_braces c) order negated (ascii.percent ∷ ascii.colon ∷ t) k fault
  call_asked n e place (no_function (name_bad i h)) =
      let f = up_more (ascii.percent ∷ ascii.colon ∷ []) h in
      asked_bad r.asked_due (refuses_at (r.test_no_function (up_place n place f) e i) f)
  call_asked n e place (in_list name is (unfit reaches refuses)) = asked_bad (r.in_function name e is reaches) refuses

  -- the call of a function that a test asks for is what the grammar says
  result_meant : (n : ℕ) (text : List ℕ) → At size n (ascii.percent ∷ text) → (c.levels - 1 == 0) ≡ false
      → AskedMeant (ascii.percent ∷ text) (d.result deep c at n (left (n + 1) text))
  result_meant n [] place e = meant_ends (cuts.cut_call e)
  result_meant n (b ∷ text) place e =
      meant_byte b ascii.colon (λ f. rw f (meant_as (call_meant d.result_operand (in_braces c) e deep size (meets e) at n (n + 1 + 1) text
      (omega (arith, place))) (λ operand q i. result i) (λ o. cuts.cut_result o) (λ j fault o. call_asked n e (omega (arith, place)) o)))
      (λ f. meant_stops (asked_bad r.asked_due (refuses_at (r.no_call (omega arith) e f)
      (up_more (ascii.percent ∷ []) (let p : At size (n + 1) (b ∷ text) = omega (arith, place) in up_byte p)))))
    where
      result : {t q : List ℕ} {operand : Operand} → CallIs d.result_operand size (in_braces c) t operand q
          → IsOperand size (in_braces c) (may_emit order negated) (ascii.percent ∷ ascii.colon ∷ t) operand q
      result (call_is i) = by_result i

  -- what a test asks, after its white space and `!`, is what the grammar says
  pub asked_meant : (n : ℕ) (text : List ℕ) → At size n text → s.Stops is_white text → s.Stops (is_default order negated) text
      → AskedMeant text (d.asked deep c at (may_emit order negated) (left n text))
  asked_meant n [] place w f = meant_ends (cuts.cut_switch s.at_end cuts.out_end)
  asked_meant n (b ∷ text) place (s.at_byte w) (s.at_byte f) =
      meant_if (is_mark b) (λ e. meant_word is_word (n + 1) text (omega (arith, place)) (λ end. Ends at) (λ word end.
      if d.is_empty word then by_byte (first_of end.bytes) (Ends at) (λ x. d.bare_end at (may_emit order negated) b end x)
      else d.marked_end at (may_emit order negated) b word end) (λ end o. meant_ends (cuts.cut_marked e o))
      (λ word rest there i. mark_end_meant b e rest.at word rest.bytes there i (may_emit order negated) refl))
      (λ e. meant_byte b ascii.percent (λ g. rw g (meant_if (c.levels - 1 == 0)
      (λ h. meant_stops (asked_bad r.asked_due (refuses_byte (r.test_within_all (omega arith) h) place)))
      (λ h. result_meant n text place h))) (λ g. meant_then (λ p rest. Took (d.switch_operand p) rest) (pattern_meant at n (b ∷ text) place)
      (λ p rest there i. meant_took there (by_switch (s.at_byte e) i)) (λ o. cuts.cut_switch (s.at_byte e) o) (λ j fault i. none text g i)))
    where
      -- a byte that begins no pattern doesn't fit where a test is due
      none : (t : List ℕ) {k : ℕ} {fault : SyntaxFault} → (b == ascii.percent) ≡ false → PatternBad size at (b ∷ t) k fault
          → AskedBad at size (in_braces c) order negated (b ∷ t) k fault
      none t g (no_pattern i h) = asked_bad r.asked_due (refuses_byte (r.no_test_there i w g f) h)
