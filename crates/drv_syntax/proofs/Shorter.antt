use Rattle.drv_syntax.proofs.Here.{pattern_shorter, quoted_shorter, run_is, spaces_shorter}
use Rattle.drv_syntax.specs.Contexts.{ListContext}
use Rattle.drv_syntax.specs.Descent.{Ends, More, Read, Took, Turn, after_turn, mapped, then_read, turns}
use Rattle.drv_syntax.specs.Rest.{Left}
use Rattle.drv_syntax.specs.Spelling as s
use Rattle.drv_syntax.specs.Spelling.{AreChoices, AreItems, AreLater, ArePatterns, AreTests, IsAsked, IsBrace, IsCall, IsDirective, IsItem}
use Rattle.drv_syntax.specs.Spelling.{IsSign, IsSuffix}
use Rattle.drv_syntax.specs.Tree.{Asked, Brace, Choices, Item, Items, Pattern, Span, Tests}
use Rattle.drv_syntax.specs.declared.directives.Directive.{Directive}
use Rattle.std.proofs.Common.{◌≡◌, ◌≤◌, Bool, List, [], ◌∷◌, ap, arith, length, length-append, suc, ℕ}

-- Each part takes bytes of the text alone, and an item and a test one byte at least. So loops of Descent end. It serves the laws
-- `spelled_is_read`, `front_is_unrefused` and `refusal_kinds`.
-- Names: `t`, `q`: what is left of the text, from step to step. `size`: the length of the whole text. `c`: where the list is, and what is
-- around it. `rest`: what is left of the text, and its place. `r`: what was read. `X`: any type. `a`: what a test asks. `end`: what is left
-- after a part. `f`: a directive. `spaces_shorter`: white space takes bytes of the text alone. `pattern_shorter`: a pattern takes bytes of
-- the text alone. `quoted_shorter`: a run takes bytes of the text alone. `mapped`: what was read, as this function of it.

-- a suffix takes bytes of the text alone
suffix_shorter : {t suffix q : List ℕ} → IsSuffix t suffix q → length q ≤ length t
suffix_shorter (s.suffix_run i) = omega (arith, (run_is i).3)
suffix_shorter s.suffix_object = omega arith
suffix_shorter s.suffix_none = omega arith
suffix_shorter (s.suffix_other e g) = omega arith
suffix_shorter (s.suffix_directive e) = omega arith

-- a sign takes bytes of the text alone
pub sign_shorter : {t q : List ℕ} {negated : Bool} → IsSign t negated q → length q ≤ length t
sign_shorter (s.plain_sign e) = omega arith
sign_shorter (s.not_sign i) = omega (arith, spaces_shorter i)

-- patterns take a byte at least
pub patterns_shorter : {size : ℕ} {t q : List ℕ} {ps : List (Span × Pattern)} → ArePatterns size t ps q → suc (length q) ≤ length t
patterns_shorter (s.last_pattern sp a i b z) = omega (arith, spaces_shorter sp, pattern_shorter i, spaces_shorter z)
patterns_shorter (s.next_pattern sp a i b z o) = omega (arith, spaces_shorter sp, pattern_shorter i, spaces_shorter z, patterns_shorter o)

-- the text of %e or %n takes bytes of the text alone
saying_shorter : {t q : List ℕ} → s.EndsSaying t q → length q ≤ length t
saying_shorter s.by_newline = omega arith
saying_shorter (s.by_other e) = omega arith

mutual
  -- items take bytes of the text alone
  pub items_shorter : {size : ℕ} {c : ListContext} {t q : List ℕ} {items : Items} → AreItems size c t items q → length q ≤ length t
  items_shorter (s.no_item e) = omega arith
  items_shorter (s.next_item a i b l) = omega (arith, item_shorter i, items_shorter l)

  -- an item takes a byte at least
  pub item_shorter : {size : ℕ} {c : ListContext} {t q : List ℕ} {item : Item} → IsItem size c t item q → suc (length q) ≤ length t
  item_shorter (s.plain e g) = omega arith
  item_shorter s.escape = omega arith
  item_shorter (s.blank e) = omega arith
  item_shorter s.newline = omega arith
  item_shorter s.pipe = omega arith
  item_shorter (s.directive e i) = omega (arith, directive_shorter i)

  -- a directive takes bytes of the text alone
  pub directive_shorter : {size : ℕ} {c : ListContext} {f : Directive} {t q : List ℕ} {item : Item} → IsDirective size c f t item q
      → length q ≤ length t
  directive_shorter s.whole = omega arith
  directive_shorter s.named = omega arith
  directive_shorter (s.temp_name i) = suffix_shorter i
  directive_shorter (s.accumulate i) = omega (arith, quoted_shorter i)
  directive_shorter (s.saying i e) = omega (arith, quoted_shorter i, saying_shorter e)
  directive_shorter (s.named_text i l) = omega (arith, (run_is i).3)
  directive_shorter (s.hide i) = pattern_shorter i
  directive_shorter (s.star e) = omega arith
  directive_shorter (s.function i) = omega (arith, call_shorter i)
  directive_shorter (s.braces i) = brace_shorter i
  directive_shorter (s.marked_braces i) = omega (arith, brace_shorter i)

  -- a call takes a byte at least
  pub call_shorter : {size : ℕ} {c : ListContext} {t name q : List ℕ} {items : Items} → IsCall size c t name items q
      → suc (length q) ≤ length t
  call_shorter (s.call {text = text} {name = name} e is l) = omega (arith, items_shorter l, length-append name (40 ∷ text))

  -- the inside of braces takes bytes of the text alone
  brace_shorter : {size : ℕ} {c : ListContext} {t q : List ℕ} {brace : Brace} → IsBrace size c t brace q → length q ≤ length t
  brace_shorter (s.emits e o) = omega (arith, patterns_shorter o)
  brace_shorter (s.chooses e o) = choices_shorter o

  -- alternatives take bytes of the text alone
  choices_shorter : {size : ℕ} {c : ListContext} {t q : List ℕ} {choices : Choices} → AreChoices size c t choices q → length q ≤ length t
  choices_shorter (s.last_choice colon i a l) = omega (arith, tests_shorter i, items_shorter l)
  choices_shorter (s.next_choice colon i a l o) = omega (arith, tests_shorter i, items_shorter l, later_shorter o)

  -- alternatives after the first take bytes of the text alone
  later_shorter : {size : ℕ} {c : ListContext} {t q : List ℕ} {choices : Choices} → AreLater size c t choices q → length q ≤ length t
  later_shorter (s.with_tests o) = choices_shorter o
  later_shorter (s.default colon sp a l) = omega (arith, spaces_shorter sp, items_shorter l)

  -- tests take bytes of the text alone
  pub tests_shorter : {size : ℕ} {c : ListContext} {t q : List ℕ} {tests : Tests} → AreTests size c t tests q → length q ≤ length t
  tests_shorter (s.last_test sp a sign i b z) = omega (arith, spaces_shorter sp, sign_shorter sign, asked_shorter i, spaces_shorter z)
  tests_shorter (s.next_test sp a sign i b z o) =
      omega (arith, spaces_shorter sp, sign_shorter sign, asked_shorter i, spaces_shorter z, tests_shorter o)

  -- what a test asks takes bytes of the text alone
  pub asked_shorter : {size : ℕ} {c : ListContext} {t q : List ℕ} {a : Asked} → IsAsked size c t a q → length q ≤ length t
  asked_shorter (s.switch e i) = pattern_shorter i
  asked_shorter (s.suffix i) = omega (arith, quoted_shorter i)
  asked_shorter (s.language i) = omega (arith, quoted_shorter i)
  asked_shorter (s.result i) = omega (arith, call_shorter i)

-- a loop from this rest on gives r, with any number of turns that is enough
pub record Loops {X : Type 0} (step : Left → Read (Turn X)) (rest : Left) (r : Read X) : Type 0 where
  pub gives : (many : List ℕ) → length rest.bytes ≤ length many → turns step many rest ≡ r

-- a loop whose turn gives r, whatever would follow that turn, gives r
pub loop_ends : {X : Type 0} {step : Left → Read (Turn X)} {rest : Left} {r : Read X}
    → ((goes : Left → Read X) → then_read (step rest) (after_turn goes) ≡ r) → Loops step rest r
loop_ends {step = step} {rest} {r} e = record { gives = by }
  where
    by : (many : List ℕ) → length rest.bytes ≤ length many → turns step many rest ≡ r
    by [] h = e (λ end. Ends end.at)
    by (b ∷ many) h = e (turns step many)

-- a loop with such a turn gives what the loop from there on gives, after the part of that turn
pub loop_goes : {X : Type 0} {step : Left → Read (Turn X)} {rest end : Left} {f : X → X} {r : Read X} → step rest ≡ Took (More f) end
    → suc (length end.bytes) ≤ length rest.bytes → Loops step end r → Loops step rest (mapped f r)
loop_goes {step = step} {rest} {end} {f} {r} e k l = record { gives = by }
  where
    by : (many : List ℕ) → length rest.bytes ≤ length many → turns step many rest ≡ mapped f r
    by [] h = absurd (omega (arith, h, k))
    by (b ∷ many) h = rw e (ap (λ r. mapped f r) (l.gives many (omega (arith, h, k))))
