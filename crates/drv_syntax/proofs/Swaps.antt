use Rattle.drv_words.specs.Bytes as ascii
use Rattle.drv_syntax.proofs.Here.{quoted_shorter}
use Rattle.drv_syntax.proofs.Leads.{other}
use Rattle.drv_syntax.specs.Bytes.{is_blank, is_plain}
use Rattle.drv_syntax.specs.Contexts.{Kind, ListContext}
use Rattle.drv_syntax.specs.Refusals as r
use Rattle.drv_syntax.specs.Refusals.{AnItem, Due, Order, Reaches, ReachesAsked, ReachesBrace, ReachesChoices, ReachesEmits, ReachesIn}
use Rattle.drv_syntax.specs.Refusals.{ReachesLater, ReachesPatterns, ReachesTests, Refuses}
use Rattle.drv_syntax.specs.Spelling as s
use Rattle.drv_syntax.specs.Spelling.{AreChoices, AreItems, AreLater, ArePatterns, AreSpaces, AreTests, At, IsAsked, IsBrace, IsCall}
use Rattle.drv_syntax.specs.Spelling.{IsDirective, IsItem, IsPattern, IsQuoted, IsRun, IsSign, IsSuffix}
use Rattle.drv_syntax.specs.Tree.{Asked, Brace, Choices, Item, Items, Pattern, Span, Tests, pattern}
use Rattle.drv_syntax.specs.declared.directives.Directive.{Directive}
use Rattle.drv_syntax.specs.declared.fault.SyntaxFault.{SyntaxFault}
use Rattle.std.proofs.Common.{◌≡◌, ◌+◌, ◌++◌, Bool, false, true, List, [], ◌∷◌, ap, arith, length, refl, subst, sym, ℕ}
use Rattle.std.specs.Prelude.{◌-◌, ◌==◌}

-- A part of a text is the same part where that text goes on in another way, if a byte is left after the part: with that byte its end is
-- settled. It serves the laws `refusal_kinds` and `refused_kinds`, and `SpecTree::extended`.
-- Names: `t`, `u`, `v`, `q`, `w`: what is left of the text, from step to step. `c`: where the list is, and what is around it. `b`: a byte.
-- `due`: what is due where the text is open. `size`: the length of the whole text. `f`: a class of bytes, or a directive. `any`, `loose`,
-- `grow`: from what is before the swapped ends, a weaker or a longer form of it. `i`, `l`, `o`: an alternative's tests, its items, and what
-- follows; `k`, `m`, `j`: the same of the other text. `order`: the place of a test in its braces. `IsItem`: one item of a list with this
-- context, by its first byte. Numbers are bytes: 37 is %, 58 :, 92 a backslash.

-- a text that ends in x, and one that ends in y
module _ (x y : List ℕ) where
  -- the second text is the first with y in place of the x at its end
  pub data Swaps : List ℕ → List ℕ → Type 0 where
    swaps_end : Swaps x y
    swaps_more : {b : ℕ} {t u : List ℕ} → Swaps t u → Swaps (b ∷ t) (b ∷ u)

  -- so it is, and there is a byte before
  pub data Filled : List ℕ → List ℕ → Type 0 where
    filled : {b : ℕ} {t u : List ℕ} → Swaps t u → Filled (b ∷ t) (b ∷ u)

  -- so it is, and there is a byte before that is no %, or there are two: a % alone doesn't end a suffix, for an O may follow
  pub data Settled : List ℕ → List ℕ → Type 0 where
    settled_by : {b : ℕ} {t u : List ℕ} → (b == ascii.percent) ≡ false → Swaps t u → Settled (b ∷ t) (b ∷ u)
    settled_two : {b c : ℕ} {t u : List ℕ} → Swaps t u → Settled (b ∷ c ∷ t) (b ∷ c ∷ u)

  -- what must be before where this is due
  abbrev pub Ready : Due → List ℕ → List ℕ → Type 0
  Ready (AnItem c) t u = Settled t u
  Ready due t u = Filled t u

  -- a part of the first text is a part of the second
  pub record Moved (S : List ℕ → List ℕ → Type 0) (t : List ℕ) (Is : List ℕ → Type 0) : Type 0 where
    pub text : List ℕ
    pub swaps : S t text
    pub is : Is text

  -- a part of a text that is given
  moved : {S : List ℕ → List ℕ → Type 0} {t : List ℕ} {Is : List ℕ → Type 0} (u : List ℕ) → S t u → Is u → Moved S t Is
  moved u c i = record { text = u; swaps = c; is = i }

  -- with a byte before, it is swapped
  pub any : {t u : List ℕ} → Filled t u → Swaps t u
  any (filled c) = swaps_more c

  -- what is settled has a byte before
  pub loose : {t u : List ℕ} → Settled t u → Filled t u
  loose (settled_by e c) = filled c
  loose (settled_two c) = filled (swaps_more c)

  -- more bytes before change nothing
  grow : {t u : List ℕ} (p : List ℕ) → Filled t u → Filled (p ++ t) (p ++ u)
  grow [] c = c
  grow (b ∷ p) c = filled (any (grow p c))

  -- one more byte before what is settled
  one_more : {b : ℕ} {t u : List ℕ} → Settled t u → Settled (b ∷ t) (b ∷ u)
  one_more (settled_by e c) = settled_two c
  one_more (settled_two c) = settled_two (swaps_more c)

  -- both texts are as much longer than their ends
  pub swaps_size : {t u : List ℕ} → Swaps t u → length t + length y ≡ length u + length x
  swaps_size swaps_end = omega arith
  swaps_size (swaps_more c) = omega (arith, swaps_size c)

  -- where the second text goes on with nothing, it is a front of the first
  pub swaps_front : {t u : List ℕ} → y ≡ [] → Swaps t u → t ≡ u ++ x
  swaps_front e swaps_end = ap (λ (v : List ℕ). v ++ x) (sym e)
  swaps_front e (swaps_more {b} c) = ap (λ (v : List ℕ). b ∷ v) (swaps_front e c)

  -- where the first text goes on with nothing, it is a front of the second
  pub swaps_back : {t u : List ℕ} → x ≡ [] → Swaps t u → u ≡ t ++ y
  swaps_back e swaps_end = ap (λ (v : List ℕ). v ++ y) (sym e)
  swaps_back e (swaps_more {b} c) = ap (λ (v : List ℕ). b ∷ v) (swaps_back e c)

  -- a text that begins with no byte that f allows still doesn't
  stops : {f : ℕ → Bool} {t u : List ℕ} → s.Stops f t → Filled t u → s.Stops f u
  stops s.at_end c = elim c [ ]
  stops (s.at_byte e) (filled c) = s.at_byte e

  -- the longest run is the same
  pub run_moved : {f : ℕ → Bool} {t run u v : List ℕ} → IsRun f t run u → Filled u v → Moved Filled t (λ w. IsRun f w run v)
  run_moved (s.run_ends e) c = moved _ c (s.run_ends (stops e c))
  run_moved (s.run_goes e i) c = let m = run_moved i c in moved _ (filled (any m.swaps)) (s.run_goes e m.is)

  -- the longest run with escapes is the same
  pub quoted_moved : {f : ℕ → Bool} {t word u v : List ℕ} → IsQuoted f t word u → Filled u v → Moved Filled t (λ w. IsQuoted f w word v)
  quoted_moved s.quoted_end c = elim c [ ]
  quoted_moved (s.quoted_stop e g) (filled c) = moved _ (filled c) (s.quoted_stop e g)
  quoted_moved (s.quoted_escape {b} i) c = let m = quoted_moved i c in moved _ (grow (92 ∷ b ∷ []) m.swaps) (s.quoted_escape m.is)
  quoted_moved (s.quoted_byte e g i) c = let m = quoted_moved i c in moved _ (filled (any m.swaps)) (s.quoted_byte e g m.is)

  -- a pattern is the same
  pattern_moved : {t u v : List ℕ} {p : Pattern} → IsPattern t p u → Filled u v → Moved Filled t (λ w. IsPattern w p v)
  pattern_moved (s.unstarred i e) c = let m = quoted_moved i c in moved _ m.swaps (s.unstarred m.is (stops e c))
  pattern_moved (s.starred i) c = let m = quoted_moved i (filled (any c)) in moved _ m.swaps (s.starred m.is)

  -- white space is the same
  spaces_moved : {t u v : List ℕ} → AreSpaces t u → Filled u v → Moved Filled t (λ w. AreSpaces w v)
  spaces_moved s.no_space c = moved _ c s.no_space
  spaces_moved (s.space e i) c = let m = spaces_moved i c in moved _ (filled (any m.swaps)) (s.space e m.is)

  -- a suffix is the same
  suffix_moved : {t suffix u v : List ℕ} → IsSuffix t suffix u → Settled u v → Moved Filled t (λ w. IsSuffix w suffix v)
  suffix_moved (s.suffix_run i) c = let m = run_moved i (loose c) in moved _ m.swaps (s.suffix_run m.is)
  suffix_moved s.suffix_object c = moved _ (grow (37 ∷ 79 ∷ []) (loose c)) s.suffix_object
  suffix_moved s.suffix_none c = elim c [ ]
  suffix_moved (s.suffix_other e g) (settled_by h c) = moved _ (filled c) (s.suffix_other e g)
  suffix_moved (s.suffix_other e g) (settled_two c) = moved _ (filled (swaps_more c)) (s.suffix_other e g)
  suffix_moved (s.suffix_directive e) (settled_by h c) = absurd cc
  suffix_moved (s.suffix_directive e) (settled_two c) = moved _ (filled (swaps_more c)) (s.suffix_directive e)

  -- what ends %e or %n is the same
  saying_moved : {t u v : List ℕ} → s.EndsSaying t u → Filled u v → Moved Filled t (λ w. s.EndsSaying w v)
  saying_moved s.by_newline c = moved _ (filled (any c)) s.by_newline
  saying_moved (s.by_other e) c = moved _ c (s.by_other (stops e c))

  -- what ends a list is the same
  list_moved : {kind : Kind} {t u : List ℕ} → s.EndsList kind t → Filled t u → s.EndsList kind u
  list_moved s.text_ends c = elim c [ ]
  list_moved (s.list_ends e) (filled c) = s.list_ends e

  -- a `!` or none is the same
  sign_moved : {t u v : List ℕ} {negated : Bool} → IsSign t negated u → Filled u v → Moved Filled t (λ w. IsSign w negated v)
  sign_moved (s.plain_sign e) c = moved _ c (s.plain_sign (stops e c))
  sign_moved (s.not_sign i) c = let m = spaces_moved i c in moved _ (filled (any m.swaps)) (s.not_sign m.is)

  -- patterns lead to the same place
  and_moved : {n : ℕ} {due : Due} {t u v : List ℕ} → ReachesPatterns n t due u → Ready due u v
      → Moved Filled t (λ w. ReachesPatterns n w due v)
  and_moved (r.pattern_due sp) c = let m = spaces_moved sp c in moved _ m.swaps (r.pattern_due m.is)
  and_moved (r.pattern_ends sp i z) c =
      let m = spaces_moved z c in let k = pattern_moved i m.swaps in let j = spaces_moved sp k.swaps in
      moved _ j.swaps (r.pattern_ends j.is k.is m.is)
  and_moved (r.after_and sp i z o) c =
      let n = and_moved o c in let m = spaces_moved z (filled (any n.swaps)) in let k = pattern_moved i m.swaps in
      let j = spaces_moved sp k.swaps in moved _ j.swaps (r.after_and j.is k.is m.is n.is)

  -- a mark alone is the same pattern
  alone : {mark first : ℕ} {t u v : List ℕ} → IsPattern (mark ∷ t) (pattern (first ∷ []) false) u → t ≡ u → Filled t v
      → IsPattern (mark ∷ v) (pattern (first ∷ []) false) v
  alone (s.unstarred (s.quoted_byte f g s.quoted_end) z) e c = elim c [ ]
  alone (s.unstarred (s.quoted_byte f g (s.quoted_stop h k)) (s.at_byte z)) e (filled c) =
      s.unstarred (s.quoted_byte f g (s.quoted_stop h k)) (s.at_byte z)
  alone (s.unstarred (s.quoted_escape i) z) e c = absurd (omega (arith, quoted_shorter i, ap length e))

  -- braces that are patterns, or may be, lead to the same place
  emits_moved : {n : ℕ} {due : Due} {t u v : List ℕ} → ReachesEmits n t due u → Ready due u v → Moved Filled t (λ w. ReachesEmits n w due v)
  emits_moved {n} {t = t} {v = v} (r.starred_ends {mark} {u = head} {word = word} sp e i z) c =
      let m = spaces_moved z c in let k = pattern_moved i m.swaps in by k.swaps k.is m.is
    where
      by : {other behind : List ℕ} → Filled (mark ∷ head) other → IsPattern other (pattern word true) behind
          → AreSpaces behind v → Moved Filled t (λ other. ReachesEmits n other (r.AnEnd n r.ends_pattern) v)
      by (filled d) i z = let j = spaces_moved sp (filled d) in moved _ j.swaps (r.starred_ends j.is e i z)
  emits_moved (r.after_mark sp e i) c = let j = spaces_moved sp (filled (any c)) in moved _ j.swaps (r.after_mark j.is e (alone i refl c))
  emits_moved (r.past_mark {mark} {b} sp e w z) c =
      let m = spaces_moved z c in let j = spaces_moved sp (grow (mark ∷ b ∷ []) m.swaps) in moved _ j.swaps (r.past_mark j.is e w m.is)
  emits_moved (r.after_first sp i z o) c =
      let n = and_moved o c in let m = spaces_moved z (filled (any n.swaps)) in let k = pattern_moved i m.swaps in
      let j = spaces_moved sp k.swaps in moved _ j.swaps (r.after_first j.is k.is m.is n.is)

  -- a text with a byte before its end has one
  pub filled_size : {t u : List ℕ} → Filled t u → length t - 1 + 1 ≡ length t
  filled_size (filled c) = omega arith

  -- what is the same up to its end ends so
  ending : (p : List ℕ) → Swaps (p ++ x) (p ++ y)
  ending [] = swaps_end
  ending (b ∷ p) = swaps_more (ending p)

  -- a byte that doesn't fit is before, and a % has a byte after it there
  pub refuses_ready : {n : ℕ} {due : Due} {last : List ℕ} {fault : SyntaxFault} → Refuses n due last fault
      → Ready due (last ++ x) (last ++ y)
  refuses_ready (r.star_outside p a e f) = settled_two swaps_end
  refuses_ready (r.mixed_star p a e f) = settled_two swaps_end
  refuses_ready (r.item_within_all p a e f) = settled_two swaps_end
  refuses_ready (r.test_within_all p e) = filled swaps_end
  refuses_ready (r.item_no_function {last = last} p a e f i) = settled_two (ending last)
  refuses_ready (r.test_no_function {last = last} p e i) = filled (swaps_more (ending last))
  refuses_ready (r.hides_nothing p a e i) = settled_two (swaps_more swaps_end)
  refuses_ready (r.no_test_there i w e f) = filled swaps_end
  refuses_ready (r.no_word e f) = filled swaps_end
  refuses_ready (r.no_pattern i w) = filled swaps_end
  refuses_ready (r.mark_alone w e) = filled swaps_end
  refuses_ready (r.mark_is_no_test e) = filled swaps_end
  refuses_ready r.default_goes_on = filled swaps_end
  refuses_ready (r.not_allowed p a) = settled_two swaps_end
  refuses_ready (r.no_directive p a e) = settled_two swaps_end
  refuses_ready (r.breaks_off {last = last} p a i) = settled_two (ending last)
  refuses_ready (r.no_call p e f) = filled (swaps_more swaps_end)
  refuses_ready (r.no_end w e) = filled swaps_end
  refuses_ready (r.no_end_past_mark w e) = filled swaps_end

  -- texts of these sizes
  module _ {size whole : ℕ} (sizes : size + length y ≡ whole + length x) where
    -- a rest of a text begins at the same place
    place : (n : ℕ) {t u : List ℕ} → At size n t → Filled t u → At whole n u
    place n a c = omega (arith, a, sizes, swaps_size (any c))

    -- patterns up to their brace are the same
    patterns_moved : {t u v : List ℕ} {ps : List (Span × Pattern)} → ArePatterns size t ps u → Swaps u v
        → Moved Filled t (λ w. ArePatterns whole w ps v)
    patterns_moved (s.last_pattern sp a i b z) c =
        let m = spaces_moved z (filled c) in let k = pattern_moved i m.swaps in let j = spaces_moved sp k.swaps in
        moved _ j.swaps (s.last_pattern j.is (place _ a k.swaps) k.is (place _ b m.swaps) m.is)
    patterns_moved (s.next_pattern sp a i b z o) c =
        let n = patterns_moved o c in let m = spaces_moved z (filled (any n.swaps)) in let k = pattern_moved i m.swaps in
        let j = spaces_moved sp k.swaps in moved _ j.swaps (s.next_pattern j.is (place _ a k.swaps) k.is (place _ b m.swaps) m.is n.is)

    mutual
      -- a list is the same
      pub items_moved : {c : ListContext} {t u v : List ℕ} {items : Items} → AreItems size c t items u → Settled u v
          → Moved Settled t (λ w. AreItems whole c w items v)
      items_moved (s.no_item e) c = moved _ c (s.no_item (list_moved e (loose c)))
      items_moved (s.next_item a i b l) c =
          let m = items_moved l c in let k = item_moved i m.swaps in
          moved _ k.swaps (s.next_item (place _ a (loose k.swaps)) k.is (place _ b (loose m.swaps)) m.is)

      -- an item is the same
      pub item_moved : {c : ListContext} {t u v : List ℕ} {item : Item} → IsItem size c t item u → Settled u v
          → Moved Settled t (λ w. IsItem whole c w item v)
      item_moved (s.plain e g) c = moved _ (one_more c) (s.plain e g)
      item_moved s.escape c = moved _ (one_more (one_more c)) s.escape
      item_moved (s.blank e) c = moved _ (one_more c) (s.blank e)
      item_moved s.newline c = moved _ (one_more c) s.newline
      item_moved s.pipe c = moved _ (one_more c) s.pipe
      item_moved (s.directive e i) c = let m = directive_moved i c in moved _ (settled_two (any m.swaps)) (s.directive e m.is)

      -- a directive is the same
      directive_moved : {c : ListContext} {directive : Directive} {t u v : List ℕ} {item : Item}
          → IsDirective size c directive t item u → Settled u v → Moved Filled t (λ w. IsDirective whole c directive w item v)
      directive_moved s.whole c = moved _ (loose c) s.whole
      directive_moved s.named c = moved _ (loose c) s.named
      directive_moved (s.temp_name i) c = let m = suffix_moved i c in moved _ m.swaps (s.temp_name m.is)
      directive_moved (s.accumulate i) c =
          let m = quoted_moved i (filled (any (loose c))) in moved _ (filled (any m.swaps)) (s.accumulate m.is)
      directive_moved (s.saying i e) c =
          let k = saying_moved e (loose c) in let m = quoted_moved i k.swaps in moved _ m.swaps (s.saying m.is k.is)
      directive_moved (s.named_text i l) c = let m = run_moved i (filled (any (loose c))) in moved _ m.swaps (s.named_text m.is l)
      directive_moved (s.hide i) c = let m = pattern_moved i (loose c) in moved _ m.swaps (s.hide m.is)
      directive_moved (s.star e) c = moved _ (loose c) (s.star e)
      directive_moved (s.function i) c = let m = call_moved i (any (loose c)) in moved _ m.swaps (s.function m.is)
      directive_moved (s.braces i) c = let m = brace_moved i (any (loose c)) in moved _ m.swaps (s.braces m.is)
      directive_moved (s.marked_braces i) c = let m = brace_moved i (any (loose c)) in moved _ (filled (any m.swaps)) (s.marked_braces m.is)

      -- a function's call up to its parenthesis is the same
      pub call_moved : {c : ListContext} {t name u v : List ℕ} {items : Items} → IsCall size c t name items u → Swaps u v
          → Moved Filled t (λ w. IsCall whole c w name items v)
      call_moved (s.call {name = name} e is l) c =
          let m = items_moved l (settled_by refl c) in moved _ (grow name (filled (any (loose m.swaps)))) (s.call e is m.is)

      -- the inside of braces up to their brace is the same
      pub brace_moved : {c : ListContext} {t u v : List ℕ} {brace : Brace} → IsBrace size c t brace u → Swaps u v
          → Moved Filled t (λ w. IsBrace whole c w brace v)
      brace_moved (s.emits e o) c = let m = patterns_moved o c in moved _ m.swaps (s.emits e m.is)
      brace_moved (s.chooses e o) c = let m = choices_moved o c in moved _ m.swaps (s.chooses e m.is)

      -- alternatives up to the closing brace are the same
      choices_moved : {c : ListContext} {t u v : List ℕ} {choices : Choices} → AreChoices size c t choices u → Swaps u v
          → Moved Filled t (λ w. AreChoices whole c w choices v)
      choices_moved (s.last_choice colon i a l) c =
          let m = items_moved l (settled_by refl c) in let n : Filled (58 ∷ _) (58 ∷ _) = filled (any (loose m.swaps)) in
          let k = tests_moved i n in moved _ k.swaps (s.last_choice colon k.is (place _ a n) m.is)
      choices_moved (s.next_choice colon i a l o) c =
          let j = later_moved o c in let m = items_moved l (settled_by refl (any j.swaps)) in
          let n : Filled (58 ∷ _) (58 ∷ _) = filled (any (loose m.swaps)) in let k = tests_moved i n in
          moved _ k.swaps (s.next_choice colon k.is (place _ a n) m.is j.is)

      -- alternatives after the first, up to the closing brace, are the same
      later_moved : {c : ListContext} {t u v : List ℕ} {choices : Choices} → AreLater size c t choices u → Swaps u v
          → Moved Filled t (λ w. AreLater whole c w choices v)
      later_moved (s.with_tests o) c = let m = choices_moved o c in moved _ m.swaps (s.with_tests m.is)
      later_moved (s.default colon sp a l) c =
          let m = items_moved l (settled_by refl c) in let n : Filled (58 ∷ _) (58 ∷ _) = filled (any (loose m.swaps)) in
          let k = spaces_moved sp n in moved _ k.swaps (s.default colon k.is (place _ a n) m.is)

      -- the tests of an alternative are the same
      tests_moved : {c : ListContext} {t u v : List ℕ} {tests : Tests} → AreTests size c t tests u → Filled u v
          → Moved Filled t (λ w. AreTests whole c w tests v)
      tests_moved (s.last_test sp a sign i b z) (filled c) =
          let m = spaces_moved z (filled c) in let k = asked_moved i m.swaps in let g = sign_moved sign k.swaps in
          let j = spaces_moved sp g.swaps in moved _ j.swaps (s.last_test j.is (place _ a g.swaps) g.is k.is (place _ b m.swaps) m.is)
      tests_moved (s.next_test sp a sign i b z o) c =
          let n = tests_moved o c in let m = spaces_moved z (filled (any n.swaps)) in let k = asked_moved i m.swaps in
          let g = sign_moved sign k.swaps in let j = spaces_moved sp g.swaps in
          moved _ j.swaps (s.next_test j.is (place _ a g.swaps) g.is k.is (place _ b m.swaps) m.is n.is)

      -- what a test asks is the same
      asked_moved : {c : ListContext} {t u v : List ℕ} {asked : Asked} → IsAsked size c t asked u → Filled u v
          → Moved Filled t (λ w. IsAsked whole c w asked v)
      asked_moved (s.switch e i) c = let m = pattern_moved i c in moved _ m.swaps (s.switch (stops e m.swaps) m.is)
      asked_moved (s.suffix i) c = let m = quoted_moved i c in moved _ (filled (any m.swaps)) (s.suffix m.is)
      asked_moved (s.language i) c = let m = quoted_moved i c in moved _ (filled (any m.swaps)) (s.language m.is)
      asked_moved (s.result i) c = let m = call_moved i (any c) in moved _ (grow (37 ∷ 58 ∷ []) m.swaps) (s.result m.is)

    mutual
      -- a list leads to the same place
      pub reaches_moved : {c : ListContext} {due : Due} {t u v : List ℕ} → Reaches size c t due u → Ready due u v
          → Moved Settled t (λ w. Reaches whole c w due v)
      reaches_moved r.item_due c = moved _ c r.item_due
      reaches_moved (r.after_item i o) c =
          let m = reaches_moved o c in let k = item_moved i m.swaps in moved _ k.swaps (r.after_item k.is m.is)
      reaches_moved (r.in_directive {b = b} p e o) c =
          let m = in_moved o c in moved _ (settled_two (any m.swaps)) (r.in_directive (place _ p (grow (37 ∷ b ∷ []) m.swaps)) e m.is)

      -- a directive leads to the same place
      in_moved : {c : ListContext} {at : ℕ} {directive : Directive} {due : Due} {t u v : List ℕ}
          → ReachesIn size c at directive t due u → Ready due u v → Moved Filled t (λ w. ReachesIn whole c at directive w due v)
      in_moved (r.in_call name e is o) c =
          let m = reaches_moved o c in moved _ (grow name (filled (any (loose m.swaps)))) (r.in_call name e is m.is)
      in_moved (r.in_place e o) c = let m = inside_moved o c in moved _ m.swaps (r.in_place e m.is)
      in_moved (r.in_marked e o) c = let m = inside_moved o c in moved _ (filled (any m.swaps)) (r.in_marked e m.is)

      -- the inside of braces leads to the same place
      inside_moved : {c : ListContext} {at : ℕ} {due : Due} {t u v : List ℕ}
          → ReachesBrace size c at t due u → Ready due u v → Moved Filled t (λ w. ReachesBrace whole c at w due v)
      inside_moved (r.in_emits o) c = let m = emits_moved o c in moved _ m.swaps (r.in_emits m.is)
      inside_moved (r.in_choices o) c = let m = first_moved o c in moved _ m.swaps (r.in_choices m.is)

      -- alternatives lead to the same place
      first_moved : {c : ListContext} {at : ℕ} {order : Order} {due : Due} {t u v : List ℕ}
          → ReachesChoices size c at order t due u → Ready due u v → Moved Filled t (λ w. ReachesChoices whole c at order w due v)
      first_moved (r.to_tests o) c = let m = asks_moved o c in moved _ m.swaps (r.to_tests m.is)
      first_moved (r.to_x i o) c =
          let m = reaches_moved o c in let k = tests_moved i (filled (any (loose m.swaps))) in moved _ k.swaps (r.to_x k.is m.is)
      first_moved (r.after_x i l o) c =
          let j = next_moved o c in let m = items_moved l (settled_by refl (any j.swaps)) in
          let k = tests_moved i (filled (any (loose m.swaps))) in moved _ k.swaps (r.after_x k.is m.is j.is)

      -- alternatives after the first lead to the same place
      next_moved : {c : ListContext} {at : ℕ} {due : Due} {t u v : List ℕ}
          → ReachesLater size c at t due u → Ready due u v → Moved Filled t (λ w. ReachesLater whole c at w due v)
      next_moved (r.to_next o) c = let m = first_moved o c in moved _ m.swaps (r.to_next m.is)
      next_moved (r.to_default sp o) c =
          let m = reaches_moved o c in let k = spaces_moved sp (filled (any (loose m.swaps))) in moved _ k.swaps (r.to_default k.is m.is)
      next_moved (r.after_default sp l) (filled c) =
          let m = items_moved l (settled_by refl c) in let k = spaces_moved sp (filled (any (loose m.swaps))) in
          moved _ k.swaps (r.after_default k.is m.is)

      -- tests lead to the same place
      asks_moved : {c : ListContext} {at : ℕ} {order : Order} {due : Due} {t u v : List ℕ}
          → ReachesTests size c at order t due u → Ready due u v → Moved Filled t (λ w. ReachesTests whole c at order w due v)
      asks_moved (r.in_test sp sign o) c =
          let m = due_moved o c in let g = sign_moved sign m.swaps in let j = spaces_moved sp g.swaps in
          moved _ j.swaps (r.in_test j.is g.is m.is)
      asks_moved (r.after_bar sp sign i z o) c =
          let n = asks_moved o c in let m = spaces_moved z (filled (any n.swaps)) in let k = asked_moved i m.swaps in
          let g = sign_moved sign k.swaps in let j = spaces_moved sp g.swaps in moved _ j.swaps (r.after_bar j.is g.is k.is m.is n.is)

      -- what a test asks leads to the same place
      due_moved : {c : ListContext} {at : ℕ} {order : Order} {negated : Bool} {due : Due} {t u v : List ℕ}
          → ReachesAsked size c at order negated t due u
          → Ready due u v → Moved Filled t (λ w. ReachesAsked whole c at order negated w due v)
      due_moved r.asked_due c = moved _ c r.asked_due
      due_moved (r.word_due e m) c = moved _ (filled (any c)) (r.word_due e m)
      due_moved (r.in_function name e is o) c =
          let m = reaches_moved o c in moved _ (grow (37 ∷ 58 ∷ name) (filled (any (loose m.swaps)))) (r.in_function name e is m.is)
      due_moved (r.test_ends e i z) c =
          let m = spaces_moved z c in let k = asked_moved i m.swaps in moved _ k.swaps (r.test_ends e k.is m.is)
      due_moved (r.call_ends i z) c = let m = spaces_moved z c in let k = asked_moved i m.swaps in moved _ k.swaps (r.call_ends k.is m.is)
      due_moved (r.switch_ends e i z) c =
          let m = spaces_moved z c in let k = pattern_moved i m.swaps in moved _ k.swaps (r.switch_ends (stops e k.swaps) k.is m.is)
      due_moved (r.marked_ends e i h z) c =
          let m = spaces_moved z c in let k = quoted_moved i m.swaps in
          moved _ (filled (any k.swaps)) (r.marked_ends e k.is (stops h m.swaps) m.is)

-- a text with more bytes q after it
module _ (q : List ℕ) where
  -- what is the same part in a longer text is a part of that
  pub longer : {t : List ℕ} {Is : List ℕ → Type 0} → Moved [] q (Filled [] q) t Is → Is (t ++ q)
  longer {Is = Is} m = subst Is (swaps_back [] q refl (any [] q m.swaps)) m.is

  -- nothing at the end of a text, and then q
  back : (t : List ℕ) → Swaps [] q t (t ++ q)
  back [] = swaps_end
  back (b ∷ t) = swaps_more (back t)

  -- what an item begins is settled
  begins : {size : ℕ} {c : ListContext} {t u : List ℕ} {item : Item} → IsItem size c t item u → Settled [] q t (t ++ q)
  begins (s.plain {b = b} {rest = t} e g) = settled_by (other is_plain b 37 e refl) (back t)
  begins (s.escape {rest = t}) = settled_two (back t)
  begins (s.blank {b = b} {rest = t} e) = settled_by (other is_blank b 37 e refl) (back t)
  begins (s.newline {rest = t}) = settled_by refl (back t)
  begins (s.pipe {rest = t}) = settled_by refl (back t)
  begins (s.directive {text = t} e i) = settled_two (back t)

  -- an item before another is the same item in a longer text
  pub item_longer : {size : ℕ} {c : ListContext} {t u v : List ℕ} {item next : Item} → IsItem size c t item u → IsItem size c u next v
      → IsItem (size + length q) c (t ++ q) item (u ++ q)
  item_longer {size} {c} {u = u} {item = item} i j =
      let m = item_moved [] q {whole = size + length q} (omega arith) i (begins j) in
      subst (λ (front : List ℕ). IsItem (size + length q) c front item (u ++ q)) (swaps_back [] q refl (any [] q (loose [] q m.swaps))) m.is
