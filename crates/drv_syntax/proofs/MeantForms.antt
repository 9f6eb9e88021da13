use Rattle.drv_words.specs.Bytes as ascii
use Rattle.drv_syntax.proofs.Here.{pattern_shorter, spaces_shorter}
use Rattle.drv_syntax.proofs.Leads.{mark_word, differs, same}
use Rattle.drv_syntax.proofs.Meant.{refuses_byte, Meant, RefusesAt, unfit, left, meant_byte, meant_ends, meant_stops}
use Rattle.drv_syntax.proofs.Meant.{Turned, meant_then, meant_took, Unfit, choose, unfit_in}
use Rattle.drv_syntax.proofs.Meant.{repeat_meant, Leads}
use Rattle.drv_syntax.proofs.MeantAsked.{AskedBad, Bared, IsOperand, asked_bad, asked_marked, asked_meant, by_bare, by_end, by_mark}
use Rattle.drv_syntax.proofs.MeantAsked.{by_result, by_star, by_switch, by_white, mark_bad, mark_plain}
use Rattle.drv_syntax.proofs.MeantWords.{Reads, PatternBad, meant_white}
use Rattle.drv_syntax.proofs.MeantWords.{no_pattern, pattern_meant, run_size, run_stops, runs, spaces}
use Rattle.drv_syntax.proofs.Shorter.{asked_shorter, sign_shorter}
use Rattle.drv_syntax.specs.Bytes.{is_mark, is_of, is_white}
use Rattle.drv_syntax.specs.Contexts.{ListContext, in_arguments, in_braces}
use Rattle.drv_syntax.specs.Descent as d
use Rattle.drv_syntax.specs.Descent.{Lists, Operand, Read, Took, Tried, After, Alternative, Asks, Bars, Emits, Fails, Form}
use Rattle.drv_syntax.specs.Descent.{Joins, Patterns, Turn, then_read}
use Rattle.drv_syntax.specs.Fronts as cuts
use Rattle.drv_syntax.specs.Fronts.{CutsPatterns, CutsTests}
use Rattle.drv_syntax.specs.Refusals as r
use Rattle.drv_syntax.specs.Refusals.{AtBar, AtFront, AtNext, Due, Order, ReachesAsked, ReachesEmits, ReachesTests, Refuses, ends_pattern}
use Rattle.drv_syntax.specs.Refusals.{is_default, may_emit, AnEnd, PastMark, ReachesPatterns, ends_either, ends_test}
use Rattle.drv_syntax.specs.Rest.{past_white}
use Rattle.drv_syntax.specs.Spelling as s
use Rattle.drv_syntax.specs.Spelling.{AreSpaces, At, IsAsked, IsPattern, IsSign, span, ArePatterns, AreTests}
use Rattle.drv_syntax.specs.Tree.{Asked, HasResult, HasSwitch, Pattern, pattern, Span, Tests, no_test, test}
use Rattle.drv_syntax.specs.declared.fault.SyntaxFault.TheVariants.{EmptyTest, BadDirective}
use Rattle.drv_syntax.specs.declared.fault.SyntaxFault.{SyntaxFault}
use Rattle.std.proofs.Common.{◌≡◌, ◌+◌, ◌⊎◌, Bool, false, true, if◌then◌else◌, List, [], ◌∷◌, arith, drop, inl, inr, refl, subst, sym, ℕ}
use Rattle.std.proofs.Common.{◌≤◌, ◌∙◌, None, Option, Some, length, suc}
use Rattle.std.specs.List.{prefix_len}
use Rattle.std.specs.Prelude.{◌-◌, ◌==◌}

-- A whole test with the byte after it, and what braces or an alternative begin with: what Descent (the grammar as functions) makes of them
-- is what the grammar says. `Tried` is a test that may still be a pattern, with the byte after it. Names: at: the place of the directive; c:
-- its context; t, u, v, q: what is left of the text from step to step. `unspaced`, `asking`, `behind`: the text without the white space
-- before it, from what a test asks on, and after that. `from`, `to`: the places of a test. `k`, `misfit`: the place of the byte that is
-- refused. `TestBad` and `emit_bad`: the test, or the pattern, is refused there with that fault.

-- a whole test

-- a whole test by the grammar: white space, a sign, what it asks, white space, and the byte after it
pub data IsTried (size : ℕ) (g : ListContext) (order : Order) : List ℕ → Tried → List ℕ → Type 0 where
  is_tried : {n m b : ℕ} {t u v w q : List ℕ} {negated : Bool} {o : Operand} → AreSpaces t u → At size n u → IsSign u negated v
      → IsOperand size g (may_emit order negated) v o w → At size m w → AreSpaces w (b ∷ q) → is_white b ≡ false
      → IsTried size g order t (record { place = span n m; negated = negated; operand = o; byte = b }) (b ∷ q)

-- the text ends in tests, or in patterns where the braces may hold these
pub data TestCuts (size : ℕ) (g : ListContext) (order : Order) : List ℕ → Type 0 where
  cut_test : {t : List ℕ} → CutsTests size g t → TestCuts size g order t
  cut_pattern : {t : List ℕ} → order ≡ AtFront → CutsPatterns t → TestCuts size g order t

-- the text ends in a byte that doesn't fit in tests, or in patterns where the braces may hold these
pub data TestBad (at size : ℕ) (g : ListContext) (order : Order) : List ℕ → ℕ → SyntaxFault → Type 0 where
  test_bad : {t last : List ℕ} {due : Due} {k : ℕ} {fault : SyntaxFault} → ReachesTests size g at order t due last
      → RefusesAt size k due last fault → TestBad at size g order t k fault
  emit_bad : {t last : List ℕ} {due : Due} {k : ℕ} {fault : SyntaxFault} → order ≡ AtFront → ReachesEmits at t due last
      → RefusesAt size k due last fault → TestBad at size g order t k fault

-- braces may still hold patterns only at their front and without a `!`
pub emits_at : (order : Order) (negated : Bool) → may_emit order negated ≡ true → (order ≡ AtFront) × (negated ≡ false)
emits_at AtFront false e = (refl, refl)
emits_at AtFront true e = differs (sym e)
emits_at AtNext negated e = differs (sym e)
emits_at AtBar negated e = differs (sym e)

-- a sign that is no `!` takes no byte
pub unsigned : {u v : List ℕ} {negated : Bool} → IsSign u negated v → negated ≡ false → u ≡ v
unsigned (s.plain_sign h) e = refl
unsigned (s.not_sign sp) e = differs e

-- what Descent took for a test or a pattern is a test by the grammar, or a pattern where the braces may still hold these
operand_is : {size : ℕ} {c : ListContext} {emits : Bool} {t q : List ℕ} {operand : Operand} → IsOperand size c emits t operand q
    → ((asked : Asked) × IsAsked size c t asked q) ⊎ ((emits ≡ true) × ((p : Pattern) × IsPattern t p q))
operand_is (by_switch {p = p} h i) = inl (HasSwitch p, s.switch h i)
operand_is (by_mark {mark} {b} {word = word} e i h) = inl (d.marked mark (b ∷ word), asked_marked mark b word e i)
operand_is (by_star {mark} {word = word} e is i) =
    inr (e, (pattern (mark ∷ word) true, s.starred (s.quoted_byte (mark_plain mark is) (mark_word mark is) i)))
operand_is (by_bare {mark} e is i h) = inr (e, (pattern (mark ∷ []) false, i))
operand_is (by_result {name = name} {items = items} i) = inl (HasResult name items, s.result i)

-- a text that ends in white space after a test ends in a test or a pattern
test_cuts : {size : ℕ} {c : ListContext} {order : Order} {t unspaced asking behind : List ℕ} {negated : Bool} {operand : Operand}
    → AreSpaces t unspaced → IsSign unspaced negated asking
    → IsOperand size c (may_emit order negated) asking operand behind → AreSpaces behind [] → TestCuts size c order t
test_cuts {size} {c} {order} {t} {unspaced} {asking} {behind} {negated} sp sign o end = by (operand_is o)
  where
    by : ((asked : Asked) × IsAsked size c asking asked behind)
        ⊎ ((may_emit order negated ≡ true) × ((p : Pattern) × IsPattern asking p behind)) → TestCuts size c order t
    by (inl asked) = cut_test (cuts.after_asked sp sign asked.1 end)
    by (inr i) =
        let e = emits_at order negated i.0 in
        cut_pattern e.0 (cuts.after_pattern sp (subst (λ (x : List ℕ). IsPattern x i.1.0 behind) (sym (unsigned sign e.1)) i.1.1) end)

-- a byte that doesn't fit in what a test asks doesn't fit in the test
asked_test : {at size : ℕ} {c : ListContext}
    {order : Order} {t unspaced asking : List ℕ} {negated : Bool} {misfit : ℕ} {fault : SyntaxFault} → AreSpaces t unspaced
    → IsSign unspaced negated asking → AskedBad at size c order negated asking misfit fault → TestBad at size c order t misfit fault
asked_test sp sign (asked_bad reaches refuses) = test_bad (r.in_test sp sign reaches) refuses
asked_test {order = order} {t} {negated = negated} sp sign (mark_bad place e is p w h) =
    let f = emits_at order negated e in
    emit_bad f.0 (r.after_mark (subst (λ (x : List ℕ). AreSpaces t x) (unsigned sign f.1) sp) is p) (refuses_byte (r.mark_alone w h) place)

-- after a `!` a colon is never that of a default
no_default : (order : Order) (text : List ℕ) → s.Stops (is_default order true) text
no_default order [] = s.at_end
no_default AtFront (b ∷ text) = s.at_byte refl
no_default AtNext (b ∷ text) = s.at_byte refl
no_default AtBar (b ∷ text) = s.at_byte refl

-- the arguments of tests in braces are what the grammar says
module _ (size : ℕ) (deep : Lists) (c : ListContext) (meets : (c.levels - 1 == 0) ≡ false → Reads size (in_arguments (in_braces c)) deep)
    (at : ℕ) (order : Order) where
  -- what Descent makes of a whole test, with the byte after it, is what the grammar says
  abbrev pub TestMeant : List ℕ → Read Tried → Type 0
  TestMeant text x = Meant size (λ tr q. IsTried size (in_braces c) order text tr q) (TestCuts size (in_braces c) order text)
      (TestBad at size (in_braces c) order text) x

  -- a test after its sign, with the byte after it, is what the grammar says
  from_meant : (n m : ℕ) (negated : Bool) {t unspaced : List ℕ} (asking : List ℕ)
      → AreSpaces t unspaced → At size n unspaced → IsSign unspaced negated asking → At size m asking → s.Stops is_white asking
      → s.Stops (is_default order negated) asking → TestMeant t (d.asked_from deep c at order n negated (left m asking))
  from_meant n m negated {t} asking sp start sign place w f =
      meant_then (λ operand end. d.ended at (span n end.at) negated operand (past_white end))
      (asked_meant size deep c meets at order negated m asking place w f) (λ o end there i.
      meant_white (λ mid. d.ended at (span n end.at) negated o mid) end.at end.bytes there
      (λ k u here z x. by o end.at end.bytes there i k u here z x)) (λ o. cut_test (cuts.in_asked sp sign o))
      (λ j fault o. asked_test sp sign o)
    where
      by : (operand : Operand) (end : ℕ) (behind : List ℕ) → At size end behind
          → IsOperand size (in_braces c) (may_emit order negated) asking operand behind → (j : ℕ) (rest : List ℕ) → At size j rest
          → AreSpaces behind rest → s.Stops is_white rest → TestMeant t (d.ended at (span n end) negated operand (left j rest))
      by o end behind there i j [] here z x = meant_ends (test_cuts sp sign i z)
      by o end behind there i j (b ∷ rest) here z (s.at_byte x) = meant_took here (is_tried sp start sign i there z x)

  -- a test with a `!` or without, after its white space, is what the grammar says
  signed_meant : (n : ℕ) {t : List ℕ} (u : List ℕ) → AreSpaces t u → At size n u → s.Stops is_white u → s.Stops (is_default order false) u
      → TestMeant t (d.signed deep c at order (left n u))
  signed_meant n [] sp place w f = from_meant n n false [] sp place (s.plain_sign s.at_end) place w f
  signed_meant n (b ∷ u) sp place w f =
      meant_byte b ascii.exclamation_mark (λ e. meant_white (λ mid. d.asked_from deep c at order n true mid) (n + 1) u
      (omega (arith, place)) (λ m v there z x. from_meant n m true v (rw e at sp) place (s.not_sign z) there x (no_default order v)))
      (λ e. from_meant n n false (b ∷ u) sp place (s.plain_sign (s.at_byte e)) place w f)

  -- a whole test with the byte after it is what the grammar says, unless it is the colon of a default
  pub one_test_meant : (n : ℕ) (text : List ℕ) → At size n text → s.Stops (is_default order false) (past_white (left n text)).bytes
      → TestMeant text (d.one_test deep c at order (left n text))
  one_test_meant n text place f =
      let i = runs is_white text in signed_meant (n + prefix_len is_white text) (drop (prefix_len is_white text) text) (spaces i.0)
      (omega (arith, place, run_size i.0, i.1)) (run_stops i.0) f

-- What braces or an alternative begin with, patterns or tests: what Descent makes of them is what the grammar says.

-- patterns

-- patterns up to the brace that closes them, which is left
pub data ToBrace (size : ℕ) (t : List ℕ) (ps : List (Span × Pattern)) : List ℕ → Type 0 where
  to_brace : {rest : List ℕ} → ArePatterns size t ps rest → ToBrace size t ps (ascii.closing_brace ∷ rest)

-- patterns after an ampersand, in braces whose % has the place `at`, lead to a byte that doesn't fit where something is due
abbrev pub PatternsBad : ℕ → ℕ → List ℕ → ℕ → SyntaxFault → Type 0
PatternsBad at size t = Unfit size (λ due last. ReachesPatterns at t due last)

-- the braces of a directive whose % has the place `at`
module _ (at size : ℕ) where
  -- what one turn of the patterns after an ampersand makes of a text is what the grammar says
  abbrev pub OneMeant : List ℕ → Read (Turn (List (Span × Pattern))) → Type 0
  OneMeant text x = Meant size (Turned (ToBrace size) CutsPatterns (PatternsBad at size) text) (CutsPatterns text)
      (PatternsBad at size text) x

  -- after a pattern and white space, a brace ends the patterns, an ampersand leads to more, and no other byte fits, as the grammar says
  turn_meant : {t unspaced behind : List ℕ} {p : Pattern} (from to k : ℕ) (rest : List ℕ)
      → AreSpaces t unspaced → At size from unspaced → IsPattern unspaced p behind → At size to behind
      → At size k rest → AreSpaces behind rest → s.Stops is_white rest → OneMeant t (d.pattern_turn at (span from to, p) (left k rest))
  turn_meant from to k [] sp a i b place z x = meant_ends (cuts.after_pattern sp i z)
  turn_meant {t} {unspaced} {behind} {p} from to k (y ∷ rest) sp a i b place z (s.at_byte x) =
      meant_byte y ascii.closing_brace (λ e. meant_took place (rw e (to_brace (s.last_pattern sp a i b (rw e at z)))))
      (λ e. meant_byte y ascii.ampersand (λ f. meant_took (omega (arith, place)) (goes (rw f at z)))
      (λ f. meant_stops (unfit (r.pattern_ends sp i z) (refuses_byte (r.no_end x (rw (e, f) refl)) place))))
    where
      -- Plan: by the byte that comes next; after an ampersand what is meant of the rest is meant of all (`goes`, `next`).
      goes : AreSpaces behind (ascii.ampersand ∷ rest)
          → Leads (ToBrace size) CutsPatterns (PatternsBad at size) t (λ ps. (span from to, p) ∷ ps) rest
      goes z = record {
        is = λ ps q o. next z o;
        cut = λ o. cuts.after_and sp i z o;
        bad = λ j fault o. unfit_in o (λ due last j. r.after_and sp i z j);
        shorter = omega (arith, spaces_shorter sp, pattern_shorter i, spaces_shorter z);
      }
        where
          -- patterns after this one and an ampersand, with this one before them
          next : AreSpaces behind (ascii.ampersand ∷ rest)
              → {ps : List (Span × Pattern)} {q : List ℕ} → ToBrace size rest ps q → ToBrace size t ((span from to, p) ∷ ps) q
          next z (to_brace o) = to_brace (s.next_pattern sp a i b z o)

  -- one turn of the patterns after an ampersand is what the grammar says
  pub one_meant : (n : ℕ) (text : List ℕ) → At size n text → OneMeant text (d.pattern_from at (past_white (left n text)))
  one_meant n text place = meant_white (λ mid. then_read (d.pattern_at at mid)
      (λ p end. d.pattern_turn at (span mid.at end.at, p) (past_white end))) n text place
      (λ m u there sp w. meant_then (λ p end. d.pattern_turn at (span m end.at, p) (past_white end)) (pattern_meant at m u there)
      (λ p end here i. meant_white (λ mid. d.pattern_turn at (span m end.at, p) mid) end.at end.bytes here
      (λ k v last z x. turn_meant m end.at k v sp there i here last z x)) (λ o. cuts.in_pattern sp o) (λ j fault o. bad sp o w))
    where
      bad : {t u : List ℕ} {k : ℕ} {fault : SyntaxFault} → AreSpaces t u → PatternBad size at u k fault → s.Stops is_white u
          → PatternsBad at size t k fault
      bad sp (no_pattern i h) (s.at_byte x) = unfit (r.pattern_due sp) (refuses_byte (r.no_pattern i x) h)

  -- the patterns after an ampersand, up to the brace that closes them, are what the grammar says
  pub patterns_meant : (n : ℕ) (text : List ℕ) → At size n text
      → Meant size (ToBrace size text) (CutsPatterns text) (PatternsBad at size text) (d.patterns at (left n text))
  patterns_meant n text place = repeat_meant (λ mid. d.pattern_from at (past_white mid)) one_meant n text place

-- what the byte after a test decides

-- a test that is a pattern, with white space around it
pub data Emitted (size : ℕ) : List ℕ → Span → Pattern → List ℕ → Type 0 where
  emitted : {n m : ℕ} {t u v q : List ℕ} {p : Pattern} → AreSpaces t u → At size n u → IsPattern u p v → At size m v → AreSpaces v q
      → Emitted size t (span n m) p q

-- a test that asks, with white space around it and a `!` or none
pub data Questioned (size : ℕ) (g : ListContext) : List ℕ → Span → Bool → Asked → List ℕ → Type 0 where
  questioned : {n m : ℕ} {t u v w q : List ℕ} {negated : Bool} {a : Asked} → AreSpaces t u → At size n u → IsSign u negated v
      → IsAsked size g v a w → At size m w → AreSpaces w q → Questioned size g t (span n m) negated a q

-- what the byte after a test decides is what the grammar says: patterns end or go on, tests end or go on, or the byte doesn't fit
pub data Decided (at size : ℕ) (g : ListContext) (order : Order) (t : List ℕ) : After → List ℕ → Type 0 where
  is_emits : {place : Span} {p : Pattern} {q : List ℕ} → order ≡ AtFront → Emitted size t place p (ascii.closing_brace ∷ q)
      → Decided at size g order t (Emits (place, p)) (ascii.closing_brace ∷ q)
  is_joins : {place : Span} {p : Pattern} {q : List ℕ} → order ≡ AtFront → Emitted size t place p (ascii.ampersand ∷ q)
      → Decided at size g order t (Joins (place, p)) (ascii.ampersand ∷ q)
  is_asks : {place : Span} {negated : Bool} {a : Asked} {q : List ℕ} → Questioned size g t place negated a (ascii.colon ∷ q)
      → Decided at size g order t (Asks place negated a) (ascii.colon ∷ q)
  is_bars : {place : Span} {negated : Bool} {a : Asked} {q : List ℕ} → Questioned size g t place negated a (ascii.bar ∷ q)
      → Decided at size g order t (Bars place negated a) (ascii.bar ∷ q)
  is_fails : {fault : SyntaxFault} {b : ℕ} {q : List ℕ} → ((k : ℕ) → At size k (b ∷ q) → TestBad at size g order t k fault)
      → Decided at size g order t (Fails fault) (b ∷ q)

-- after a test that can be no pattern, a colon or a bar is due
asked_ends : {at size : ℕ} {c : ListContext} {order : Order} {negated : Bool} {t q rest : List ℕ} {operand : Operand}
    → may_emit order negated ≡ false → IsOperand size c (may_emit order negated) t operand q
    → AreSpaces q rest → ReachesAsked size c at order negated t (AnEnd at ends_test) rest
asked_ends f (by_switch h i) z = r.test_ends f (s.switch h i) z
asked_ends f (by_mark {mark} {b} {word = word} e i h) z = r.test_ends f (asked_marked mark b word e i) z
asked_ends f (by_star e is i) z = differs (sym e ∙ f)
asked_ends f (by_bare e is i h) z = differs (sym e ∙ f)
asked_ends f (by_result i) z = r.call_ends (s.result i) z

-- what may be a pattern is one by the grammar; what may be none is a call, after which a colon or a bar is due
abbrev AsPattern : ℕ → ℕ → ListContext → Order → Bool → List ℕ → Option Pattern → List ℕ → Type 0
AsPattern at size g order negated t (Some p) q = IsPattern t p q
AsPattern at size g order negated t None q = (rest : List ℕ) → AreSpaces q rest
    → ReachesAsked size g at order negated t (AnEnd at ends_test) rest

-- what Descent took for a pattern, or for none, is what the grammar says
pattern_of : {size : ℕ} {c : ListContext} (at : ℕ) (order : Order) (negated : Bool) {t q : List ℕ} {operand : Operand}
    → IsOperand size c (may_emit order negated) t operand q → AsPattern at size c order negated t operand.as_pattern q
pattern_of at order negated (by_switch h i) = i
pattern_of at order negated (by_mark {mark} is i h) = s.unstarred (s.quoted_byte (mark_plain mark is) (mark_word mark is) i) h
pattern_of at order negated (by_star {mark} f is i) = s.starred (s.quoted_byte (mark_plain mark is) (mark_word mark is) i)
pattern_of at order negated (by_bare f is i h) = i
pattern_of at order negated (by_result i) = λ rest z. r.call_ends (s.result i) z

-- after a starred pattern that begins with a mark, and white space, no byte but } or & fits
star_bad : {at size byte misfit mark : ℕ} {c : ListContext} {order : Order} {negated : Bool} {t unspaced marked q word rest : List ℕ}
    → At size misfit (byte ∷ rest) → AreSpaces t unspaced → IsSign unspaced negated (mark ∷ marked)
    → may_emit order negated ≡ true → is_mark mark ≡ true → IsPattern (mark ∷ marked) (pattern word true) q → AreSpaces q (byte ∷ rest)
    → is_white byte ≡ false → is_of ends_pattern byte ≡ false → TestBad at size c order t misfit (BadDirective at)
star_bad {order = order} {negated} {t} place sp sign e is p z w h =
    let f = emits_at order negated e in
    emit_bad f.0 (r.starred_ends (subst (λ (y : List ℕ). AreSpaces t y) (unsigned sign f.1) sp) is p z) (refuses_byte (r.no_end w h) place)

-- after a mark alone and white space, the byte that is refused there doesn't fit
bare_bad : {at size byte misfit mark : ℕ} {c : ListContext} {order : Order} {negated : Bool} {t unspaced q rest : List ℕ}
    {fault : SyntaxFault} → At size misfit (byte ∷ rest) → AreSpaces t unspaced → IsSign unspaced negated (mark ∷ q)
    → may_emit order negated ≡ true → is_mark mark ≡ true → Bared q → AreSpaces q (byte ∷ rest) → is_white byte ≡ false
    → is_of ends_pattern byte ≡ false → Refuses (misfit + 1) (PastMark at) (byte ∷ []) fault → TestBad at size c order t misfit fault
bare_bad place sp sign e is (by_white h) s.no_space w g refuses = differs (sym h ∙ w)
bare_bad place sp sign e is (by_end h) s.no_space w g refuses = differs (sym h ∙ g)
bare_bad {order = order} {negated} {t} place sp sign e is h (s.space y z) w g refuses =
    let f = emits_at order negated e in
    emit_bad f.0 (r.past_mark (subst (λ (y : List ℕ). AreSpaces t y) (unsigned sign f.1) sp) is y z) (refuses_byte refuses place)

-- what asks is a test by the grammar; what doesn't makes the byte after it not fit
abbrev AsTest : ℕ → ℕ → ListContext → Order → Bool → List ℕ → Bool → Option Asked → List ℕ → Type 0
AsTest at size g order negated v bare (Some a) q = IsAsked size g v a q
AsTest at size g order negated v bare None q = (t u rest : List ℕ) (x k : ℕ) → At size k (x ∷ rest) → AreSpaces t u → IsSign u negated v
    → AreSpaces q (x ∷ rest) → is_white x ≡ false → is_of ends_test x ≡ true → is_of ends_pattern x ≡ false
    → TestBad at size g order t k (if bare then EmptyTest at else BadDirective at)

-- what Descent took for a test, or for none, is what the grammar says
test_of : {size : ℕ} {g : ListContext} (at : ℕ) (order : Order) (negated : Bool) {v q : List ℕ} {o : Operand}
    → IsOperand size g (may_emit order negated) v o q → AsTest at size g order negated v o.bare o.as_test q
test_of at order negated (by_switch h i) = s.switch h i
test_of at order negated (by_mark {mark} {b} {word = word} is i h) = asked_marked mark b word is i
test_of at order negated (by_star {mark} h is i) = λ t u rest x j place sp sign z w f g.
    star_bad place sp sign h is (s.starred (s.quoted_byte (mark_plain mark is) (mark_word mark is) i)) z w g
test_of at order negated (by_bare h is i k) = λ t u rest x j place sp sign z w f g.
    bare_bad place sp sign h is k z w g (r.mark_is_no_test f)
test_of at order negated (by_result i) = s.result i

-- after a first test that may be a pattern, and white space, no byte fits but : | } and &
first_bad : {at size byte misfit : ℕ} {c : ListContext} {t unspaced asking q rest : List ℕ} {operand : Operand}
    → At size misfit (byte ∷ rest) → AreSpaces t unspaced → IsSign unspaced false asking
    → IsOperand size c true asking operand q → AreSpaces q (byte ∷ rest) → is_white byte ≡ false → is_of ends_test byte ≡ false
    → is_of ends_pattern byte ≡ false → is_of ends_either byte ≡ false → TestBad at size c AtFront t misfit (BadDirective at)
first_bad place sp sign (by_switch h i) z w e f g = test_bad (r.in_test sp sign (r.switch_ends h i z)) (refuses_byte (r.no_end w g) place)
first_bad place sp sign (by_mark is i h) z w e f g = test_bad (r.in_test sp sign (r.marked_ends is i h z)) (refuses_byte
    (r.no_end w g) place)
first_bad place sp sign (by_star {mark} h is i) z w e f g =
    star_bad place sp sign h is (s.starred (s.quoted_byte (mark_plain mark is) (mark_word mark is) i)) z w f
first_bad place sp sign (by_bare h is i k) z w e f g = bare_bad place sp sign h is k z w f (r.no_end_past_mark w g)
first_bad place sp sign (by_result i) z w e f g = test_bad (r.in_test sp sign (r.call_ends (s.result i) z)) (refuses_byte
    (r.no_end w e) place)

-- after a test at any place, and white space, no byte fits but : | } and &
order_bad : {at size byte misfit : ℕ} {c : ListContext} (order : Order) (negated : Bool) {t unspaced asking q rest : List ℕ}
    {operand : Operand} → At size misfit (byte ∷ rest) → AreSpaces t unspaced → IsSign unspaced negated asking
    → IsOperand size c (may_emit order negated) asking operand q → AreSpaces q (byte ∷ rest) → is_white byte ≡ false → is_of ends_test byte
    ≡ false → is_of ends_pattern byte ≡ false → is_of ends_either byte ≡ false → TestBad at size c order t misfit (BadDirective at)
order_bad AtFront false place sp sign o z w e f g = first_bad place sp sign o z w e f g
order_bad AtFront true place sp sign o z w e f g = test_bad (r.in_test sp sign (asked_ends refl o z)) (refuses_byte (r.no_end w e) place)
order_bad AtNext negated place sp sign o z w e f g = test_bad (r.in_test sp sign (asked_ends refl o z)) (refuses_byte (r.no_end w e) place)
order_bad AtBar negated place sp sign o z w e f g = test_bad (r.in_test sp sign (asked_ends refl o z)) (refuses_byte (r.no_end w e) place)

-- what the byte after a test decides is what the grammar says
decided_is : {at size : ℕ} {c : ListContext} {order : Order} {t q : List ℕ} {tr : Tried}
    → IsTried size c order t tr q → Decided at size c order t (d.decided at order tr) q
decided_is {at} {size} {c} {order} {t}
    (is_tried {n = from} {m = to} {b} {u = unspaced} {v = asking} {w = behind} {q = q} {negated} {o} sp start sign i end z white) =
    choose (λ a. Decided at size c order t a (b ∷ q)) (b == ascii.closing_brace) _ _ (λ e. pattern_case Emits
    (rw (same b ascii.closing_brace e) refl) (λ p f j. rw (same b ascii.closing_brace e) (is_emits f
    (rw (same b ascii.closing_brace e) at j)))) (λ f. choose (λ a. Decided at size c order t a (b ∷ q)) (b == ascii.ampersand) _ _
    (λ e. pattern_case Joins (rw (same b ascii.ampersand e) refl) (λ p f j. rw (same b ascii.ampersand e) (is_joins f
    (rw (same b ascii.ampersand e) at j)))) (λ h. choose (λ a. Decided at size c order t a (b ∷ q)) (b == ascii.colon) _ _
    (λ e. test_case (Asks (span from to) negated) (rw (same b ascii.colon e) refl) (rw (same b ascii.colon e) refl)
    (λ a j. rw (same b ascii.colon e) (is_asks (rw (same b ascii.colon e) at j))))
    (λ k. choose (λ a. Decided at size c order t a (b ∷ q)) (b == ascii.bar) _ _ (λ e. test_case (Bars (span from to) negated) (rw
    (same b ascii.bar e) refl) (rw (same b ascii.bar e) refl) (λ a j. rw (same b ascii.bar e) (is_bars (rw (same b ascii.bar e) at j))))
    (λ l. is_fails (λ j here. order_bad order negated here sp sign i z white (rw (k, l) refl) (rw (f, h) refl) (rw (k, l, f, h) refl))))))
  where
    -- the byte ends a pattern: the test is one, or is refused
    pattern_case : (goes : Span × Pattern → After) → is_of ends_test b ≡ false → ((p : Pattern)
        → order ≡ AtFront → Emitted size t (span from to) p (b ∷ q) → Decided at size c order t (goes (span from to, p)) (b ∷ q))
        → Decided at size c order t (d.as_pattern at (span from to) (may_emit order negated) o.as_pattern goes) (b ∷ q)
    pattern_case goes h f = by (may_emit order negated) refl o.as_pattern (pattern_of at order negated i)
      where
        by : (emits : Bool) → may_emit order negated ≡ emits → (p : Option Pattern) → AsPattern at size c order negated asking p behind
            → Decided at size c order t (d.as_pattern at (span from to) emits p goes) (b ∷ q)
        by true e (Some p) j =
            let a = emits_at order negated e in
            f p a.0 (emitted sp start (subst (λ (text : List ℕ). IsPattern text p behind) (sym (unsigned sign a.1)) j) end z)
        by true e None j = is_fails (λ k here. test_bad (r.in_test sp sign (j (b ∷ q) z)) (refuses_byte (r.no_end white h) here))
        by false e p j = is_fails (λ k here. test_bad (r.in_test sp sign (asked_ends e i z)) (refuses_byte (r.no_end white h) here))

    -- the byte ends a test: it asks something, or is refused
    test_case : (goes : Asked → After) → is_of ends_test b ≡ true → is_of ends_pattern b ≡ false
        → ((asked : Asked) → Questioned size c t (span from to) negated asked (b ∷ q) → Decided at size c order t (goes asked) (b ∷ q))
        → Decided at size c order t (d.as_test at o.bare o.as_test goes) (b ∷ q)
    test_case goes h k f = by o.as_test (test_of at order negated i)
      where
        by : (asked : Option Asked)
            → AsTest at size c order negated asking o.bare asked behind → Decided at size c order t (d.as_test at o.bare asked goes) (b ∷ q)
        by (Some asked) j = f asked (questioned sp start sign j end z)
        by None j = is_fails (λ i here. j t unspaced q b i here sp sign z white h k)

-- tests after a bar

-- patterns, or the tests of an alternative
pub data IsForm (size : ℕ) (g : ListContext) (order : Order) (t : List ℕ) : Form → List ℕ → Type 0 where
  form_patterns : {rest : List ℕ} {ps : List (Span × Pattern)} → order ≡ AtFront → ArePatterns size t ps rest
      → IsForm size g order t (Patterns ps) (ascii.closing_brace ∷ rest)
  form_tests : {mid : List ℕ} {asks : Tests} → AreTests size g t asks (ascii.colon ∷ mid)
      → IsForm size g order t (Alternative asks) (ascii.colon ∷ mid)

-- a test after a bar is not at the front of the braces, so this case can't arise
not_front : {A : Type 0} → AtBar ≡ AtFront → A
not_front e = absurd cc

-- a test and a bar lead to the tests after it
module _ {size : ℕ} {g : ListContext} {t u : List ℕ} {place : Span} {negated : Bool} {a : Asked} where
  -- a test, a bar and the tests after it are tests
  bar_is : {order : Order} {asks : Tests} {q : List ℕ} → Questioned size g t place negated a (ascii.bar ∷ u)
      → IsForm size g AtBar u (Alternative asks) q → IsForm size g order t (Alternative (test place negated a asks)) q
  bar_is (questioned sp b sign i c z) (form_tests o) = form_tests (s.next_test sp b sign i c z o)

  -- where the text ends in the tests after a bar, it ends in tests
  bar_cut : {order : Order} → Questioned size g t place negated a (ascii.bar ∷ u) → TestCuts size g AtBar u → TestCuts size g order t
  bar_cut (questioned sp b sign i c z) (cut_test o) = cut_test (cuts.after_bar sp sign i z o)
  bar_cut i (cut_pattern e o) = not_front e

  -- a byte that doesn't fit in the tests after a bar doesn't fit in the tests
  bar_bad : {at k : ℕ} {order : Order} {fault : SyntaxFault} → Questioned size g t place negated a (ascii.bar ∷ u)
      → TestBad at size g AtBar u k fault → TestBad at size g order t k fault
  bar_bad (questioned sp b sign i c z) (test_bad o h) = test_bad (r.after_bar sp sign i z o) h
  bar_bad i (emit_bad e o h) = not_front e

  -- a test and a bar take bytes of the text
  bar_shorter : Questioned size g t place negated a (ascii.bar ∷ u) → suc (length u) ≤ length t
  bar_shorter (questioned sp b sign i c z) = omega (arith, spaces_shorter sp, sign_shorter sign, asked_shorter i, spaces_shorter z)

-- a test before its colon is the tests of an alternative by itself
one_asked : {size : ℕ} {g : ListContext} {t q : List ℕ} {place : Span} {negated : Bool} {a : Asked}
    → Questioned size g t place negated a (ascii.colon ∷ q) → AreTests size g t (test place negated a no_test) (ascii.colon ∷ q)
one_asked (questioned sp b sign i c z) = s.last_test sp b sign i c z

-- where a first test would begin, and after a bar, a colon is never that of a default
bar_stops : (text : List ℕ) → s.Stops (is_default AtBar false) text
bar_stops [] = s.at_end
bar_stops (b ∷ text) = s.at_byte refl

-- the arguments of tests in braces are what the grammar says
module _ (size : ℕ) (deep : Lists) (c : ListContext) (meets : (c.levels - 1 == 0) ≡ false → Reads size (in_arguments (in_braces c)) deep)
    (at : ℕ) where
  -- the text is tests after a bar, up to their colon, which is left
  abbrev pub ToColon : List ℕ → Tests → List ℕ → Type 0
  ToColon t asks q = IsForm size (in_braces c) AtBar t (Alternative asks) q

  -- what one turn of the tests after a bar makes of a text is what the grammar says
  abbrev pub MoreMeant : List ℕ → Read (Turn Tests) → Type 0
  MoreMeant text x = Meant size (Turned ToColon (TestCuts size (in_braces c) AtBar) (TestBad at size (in_braces c) AtBar) text)
      (TestCuts size (in_braces c) AtBar text) (TestBad at size (in_braces c) AtBar text) x

  -- after a test that follows a bar, what its byte decides is what the grammar says
  more_turn : {t : List ℕ} {a : After} {q : List ℕ} (m : ℕ) → At size m q → Decided at size (in_braces c) AtBar t a q
      → MoreMeant t (d.test_turn at a (left m q))
  more_turn m place (is_emits e i) = not_front e
  more_turn m place (is_joins e i) = not_front e
  more_turn m place (is_asks i) = meant_took place (form_tests (one_asked i))
  more_turn m place (is_bars i) = meant_took (omega (arith, place)) (record {
    is = λ asks q o. bar_is i o;
    cut = λ o. bar_cut i o;
    bad = λ j fault o. bar_bad i o;
    shorter = bar_shorter i;
  })
  more_turn m place (is_fails f) = meant_stops (f m place)

  -- one test after a bar is what the grammar says
  pub bar_meant : (n : ℕ) (text : List ℕ) → At size n text
      → MoreMeant text (then_read (d.one_test deep c at AtBar (left n text)) (λ t end. d.test_turn at (d.decided at AtBar t) end))
  bar_meant n text place = meant_then (λ t end. d.test_turn at (d.decided at AtBar t) end)
      (one_test_meant size deep c meets at AtBar n text place (bar_stops _))
      (λ t end there i. more_turn end.at there (decided_is i)) (λ o. o) (λ j fault o. o)

  -- the tests after a bar, up to their colon, are what the grammar says
  more_tests_meant : (n : ℕ) (text : List ℕ) → At size n text → Meant size (ToColon text)
      (TestCuts size (in_braces c) AtBar text) (TestBad at size (in_braces c) AtBar text) (d.more_tests deep c at (left n text))
  more_tests_meant n text place = repeat_meant
      (λ mid. then_read (d.one_test deep c at AtBar mid) (λ t end. d.test_turn at (d.decided at AtBar t) end)) bar_meant n text place

  -- what Descent makes of patterns, or of the tests of an alternative, is what the grammar says
  abbrev pub FormMeant : Order → List ℕ → Read Form → Type 0
  FormMeant order text x = Meant size (λ form q. IsForm size (in_braces c) order text form q) (TestCuts size (in_braces c) order text)
      (TestBad at size (in_braces c) order text) x

  -- after the first test, what its byte decides is what the grammar says
  form_by_meant : {order : Order} {t : List ℕ} {follow : After} {q : List ℕ} (m : ℕ)
      → At size m q → Decided at size (in_braces c) order t follow q → FormMeant order t (d.form_by deep c at follow (left m q))
  form_by_meant m place (is_emits e (emitted sp a i b z)) = meant_took place (form_patterns e (s.last_pattern sp a i b z))
  form_by_meant {order} {t} m place (is_joins {place = span} {p} {q} e (emitted sp a i b z)) =
      meant_then (λ ps rest. Took (Patterns ((span, p) ∷ ps)) rest) (patterns_meant at size (m + 1) q (omega (arith, place)))
      (λ ps rest there o. meant_took there (joined o)) (λ o. cut_pattern e (cuts.after_and sp i z o)) (λ j fault o. bad o)
    where
      joined : {ps : List (Span × Pattern)} {rest : List ℕ}
          → ToBrace size q ps rest → IsForm size (in_braces c) order t (Patterns ((span, p) ∷ ps)) rest
      joined (to_brace o) = form_patterns e (s.next_pattern sp a i b z o)

      bad : {misfit : ℕ} {fault : SyntaxFault} → PatternsBad at size q misfit fault → TestBad at size (in_braces c) order t misfit fault
      bad (unfit reaches refuses) = emit_bad e (r.after_first sp i z reaches) refuses
  form_by_meant m place (is_asks i) = meant_took place (form_tests (one_asked i))
  form_by_meant m place (is_bars {place = span} {negated} {a} {q} i) =
      meant_then (λ ts rest. Took (Alternative (test span negated a ts)) rest) (more_tests_meant (m + 1) q (omega (arith, place)))
      (λ ts rest there o. meant_took there (bar_is i o)) (λ o. bar_cut i o) (λ j fault o. bar_bad i o)
  form_by_meant m place (is_fails f) = meant_stops (f m place)

  -- patterns, or the tests of an alternative, are what the grammar says, unless the colon of a default is there
  pub form_meant : (order : Order) (n : ℕ) (text : List ℕ) → At size n text
      → s.Stops (is_default order false) (past_white (left n text)).bytes → FormMeant order text (d.form deep c at order (left n text))
  form_meant order n text place f = meant_then (λ t end. d.form_by deep c at (d.decided at order t) end)
      (one_test_meant size deep c meets at order n text place f) (λ t end there i. form_by_meant end.at there (decided_is i)) (λ o. o)
      (λ j fault o. o)
