use Rattle.drv_syntax.proofs.Depth.{all_levels}
use Rattle.drv_syntax.proofs.Leads.{differs, same}
use Rattle.drv_syntax.proofs.Meant.{Meant, Turned, left, meant_ends, meant_stops, meant_took}
use Rattle.drv_syntax.proofs.MeantForms.{IsForm, bar_meant, form_meant, form_patterns, form_tests, one_meant}
use Rattle.drv_syntax.proofs.MeantWhole.{items_read, percent_read, turn_meant, turn_read}
use Rattle.drv_syntax.proofs.MeantWords.{CallIs, Reads, call_is, call_meant}
use Rattle.drv_syntax.proofs.Shorter.{items_shorter, patterns_shorter, tests_shorter}
use Rattle.drv_syntax.specs.Code.Lists.{around, is_white_item}
use Rattle.drv_syntax.specs.Contexts.{ListContext, in_arguments, in_braces, in_x}
use Rattle.drv_syntax.specs.Descent as d
use Rattle.drv_syntax.specs.Descent.{Ends, Last, More, Read, Stops, Took, Turn, after_turn, mapped, repeat, then_read, turns}
use Rattle.drv_syntax.specs.Directives.{braced, said}
use Rattle.drv_syntax.specs.Refusals.{AtBar, AtNext, Order, is_default}
use Rattle.drv_syntax.specs.Rest.{Left, after, begins_with, by_byte, first_of, past_white}
use Rattle.drv_syntax.specs.Spelling as s
use Rattle.drv_syntax.specs.Spelling.{AreTests, IsDirective, IsItem}
use Rattle.drv_syntax.specs.Tree.{Choices, Item, Items, Tests, no_test, test}
use Rattle.drv_syntax.specs.declared.directives.BraceKind.TheVariants.{InPlace, IntoArgumentsFile, IntoFailureFile}
use Rattle.drv_syntax.specs.declared.directives.BraceKind.{BraceKind}
use Rattle.drv_syntax.specs.declared.directives.Directive.{Directive}
use Rattle.drv_syntax.specs.declared.directives.SayKind.TheVariants.{AsError, AsNotice}
use Rattle.drv_syntax.specs.declared.directives.SayKind.{SayKind}
use Rattle.drv_syntax.specs.declared.fault.SyntaxFault.TheVariants.{BadDirective}
use Rattle.drv_syntax.specs.declared.fault.SyntaxFault.{SyntaxFault}
use Rattle.drv_words.specs.Bytes as ascii
use Rattle.std.proofs.Common.{Bool, List, [], ap, arith, drop, false, if◌then◌else◌, length, refl, suc, sym, true, zero, ℕ, ◌+◌, ◌∙◌, ◌∷◌}
use Rattle.std.proofs.Common.{◌≡◌, ◌≤◌}
use Rattle.std.proofs.lemmas.Bool.Decides.{nat_tests}
use Rattle.std.specs.Prelude.{None, Option, Some, ◌-◌, ◌==◌}

-- What the code needs to know of what Descent makes of a part: how many bytes are left, that a directive is no white space, and that an
-- alternative has a test. It follows from what the grammar says of the part (`Meant`). It serves the loops of the reader, which take a byte
-- at least in each turn but the last, and `items`, which leaves out the white space at the end of an X.
-- Names: `c`, `g`: where the list is, and what is around it. `rest`: what is left of the text, and its place. `at`: the place of the
-- directive's `%`. `end`: what is left after a part. `size`: the length of the whole text. `t`, `q`: what is left of the text, from step to
-- step. `X`: any type. `r`, `part`: what was read. `level`: how many levels of lists may open. `around`: what reads the lists in a list of
-- so many levels. `then_read`: goes on with what was read and with what is left. `in_braces`: the context in the braces of a list, before
-- the colon of an alternative. `after_turn`: goes on after a turn, unless it was the last. `after`: what is left so many bytes on. `Reads`:
-- what these read as lists with this context is what the grammar says. `past_white`: what is left without the white space that comes next.
-- `is_white_item`: the item is white space, of which an X has none at its end. `repeat`: one turn after another, up to the last.

-- what was read and what is left have the property P, if a part was read
abbrev pub Has : {X : Type 0} → (X → Left → Type 0) → Read X → Type 0
Has P (Took x rest) = P x rest
Has P (Ends at) = Unit {0}
Has P (Stops n fault) = Unit {0}

-- the size of a text of which this is left
abbrev pub size : Left → ℕ
size rest = rest.at + length rest.bytes

-- after a turn but the last fewer than n bytes are left
abbrev pub Takes : {X : Type 0} → ℕ → Turn X → Left → Type 0
Takes n (Last x) end = Unit {0}
Takes n (More f) end = suc (length end.bytes) ≤ n

-- what the grammar says of a part holds of it
meant_has : {X : Type 0} {size : ℕ} {Is : X → List ℕ → Type 0} {Cuts : Type 0} {Bad : ℕ → SyntaxFault → Type 0} {r : Read X}
    (P : X → Left → Type 0) → Meant size Is Cuts Bad r → ((x : X) (rest : Left) → Is x rest.bytes → P x rest) → Has P r
meant_has P (meant_took {x} {rest} place i) f = f x rest i
meant_has P (meant_ends i) f = tt
meant_has P (meant_stops i) f = tt

-- a step whose turns are what the grammar says takes a byte, unless its turn is the last
turn_takes : {X : Type 0} {Is : List ℕ → X → List ℕ → Type 0} {Cuts : List ℕ → Type 0} {Bad : List ℕ → ℕ → SyntaxFault → Type 0}
    (step : Left → Read (Turn X)) (rest : Left) → ((n : ℕ) (text : List ℕ) → s.At (size rest) n text
    → Meant (size rest) (Turned Is Cuts Bad text) (Cuts text) (Bad text) (step (left n text)))
    → Has (Takes (length rest.bytes)) (step rest)
turn_takes {X} {Is} {Cuts} {Bad} step rest one = meant_has (Takes (length rest.bytes)) (one rest.at rest.bytes refl) by
  where
    by : (x : Turn X) (end : Left) → Turned Is Cuts Bad rest.bytes x end.bytes → Takes (length rest.bytes) x end
    by (Last x) end j = tt
    by (More f) end j = j.shorter

-- lists

-- the lists in a list, which have a level less, are what the grammar says
near : (n : ℕ) (c : ListContext) → (c.levels == 0) ≡ false → (g : ListContext) → g.levels ≡ c.levels - 1 → Reads n g (around c.levels).0
near n c h g e = by c.levels h e
  where
    by : (level : ℕ) → (level == 0) ≡ false → g.levels ≡ level - 1 → Reads n g (around level).0
    by zero h e = absurd cc
    by (suc level) h e = (all_levels (λ lists c. Reads n c lists) (items_read n) level).0 g (omega (arith, e))

-- the lists in the braces of a list, which have two levels less, are what the grammar says
far : (n : ℕ) (c : ListContext) → (c.levels - 1 == 0) ≡ false → (g : ListContext) → g.levels ≡ c.levels - 1 - 1
    → Reads n g (around c.levels).1
far n c h g e = by c.levels h e
  where
    by : (level : ℕ) → (level - 1 == 0) ≡ false → g.levels ≡ level - 1 - 1 → Reads n g (around level).1
    by zero h e = absurd cc
    by (suc level) h e = (all_levels (λ lists c. Reads n c lists) (items_read n) level).1 g (grind (arith, nat_tests, e, h))

-- after a list in a list no more bytes are left
pub list_less : (c : ListContext) → (c.levels == 0) ≡ false → (g : ListContext) → g.levels ≡ c.levels - 1 → (rest : Left)
    → Has (λ x end. length end.bytes ≤ length rest.bytes) ((around c.levels).0 g rest)
list_less c h g e rest = meant_has (λ x end. length end.bytes ≤ length rest.bytes)
    (near (size rest) c h g e rest.at rest.bytes refl) (λ x end i. items_shorter i.0)

-- turns of loops

-- a pattern after an ampersand takes a byte, unless it is the last
pub patterns_take : (at : ℕ) (rest : Left) → Has (Takes (length rest.bytes)) (d.pattern_from at (past_white rest))
patterns_take at rest = turn_takes (λ mid. d.pattern_from at (past_white mid)) rest (one_meant at (size rest))

-- the lists in a list with the context c; the % of the directive has the place `at`
module _ (c : ListContext) where
  -- a test after a bar, and what the byte after it leads to
  abbrev pub bar_step : ℕ → Left → Read (Turn Tests)
  bar_step at rest = then_read (d.one_test (around c.levels).1 c at AtBar rest) (λ t end. d.test_turn at (d.decided at AtBar t) end)

  -- a test after a bar takes a byte, unless it is the last
  pub tests_take : (at : ℕ) (rest : Left) → Has (Takes (length rest.bytes)) (bar_step at rest)
  tests_take at rest = turn_takes (bar_step at) rest (bar_meant (size rest) (around c.levels).1 c
      (λ h. far (size rest) c h (in_arguments (in_braces c)) refl) at)

  -- an alternative after the first
  abbrev pub later_step : ℕ → Left → Read (Turn Choices)
  later_step at rest = if begins_with ascii.colon (past_white rest).bytes then d.default (around c.levels).0 c at (past_white rest)
      else then_read (d.form (around c.levels).1 c at AtNext rest) (λ f end. d.later_by (around c.levels).0 c at f end)

  -- an alternative after the first takes a byte, unless it is the last
  pub later_take : (c.levels == 0) ≡ false → (at : ℕ) (rest : Left) → Has (Takes (length rest.bytes)) (later_step at rest)
  later_take h at rest = turn_takes (later_step at) rest (turn_meant (size rest) (around c.levels).0 (around c.levels).1 c
      (λ asks. near (size rest) c h (in_x (in_braces c) asks) refl)
      (λ h. far (size rest) c h (in_arguments (in_braces c)) refl) at)

  -- an item takes a byte, unless the list ends
  pub items_take : (rest : Left) → Has (Takes (length rest.bytes)) (d.item_turn (around c.levels).0 (around c.levels).1 c rest)
  items_take rest = turn_takes (d.item_turn (around c.levels).0 (around c.levels).1 c) rest
      (turn_read (size rest) (around c.levels).0 (around c.levels).1 c
      (near (size rest) c) (far (size rest) c))

-- what braces begin with

-- an alternative has a test
abbrev pub Tested : d.Form → Type 0
Tested (d.Patterns ps) = Unit {0}
Tested (d.Alternative no_test) = ⊥
Tested (d.Alternative (test s negated a ts)) = Unit {0}

-- after what braces begin with, a byte is left, and an alternative has a test
pub form_has : (c : ListContext) (at : ℕ) (order : Order) (rest : Left) → s.Stops (is_default order false) (past_white rest).bytes
    → Has (λ f end. Tested f × suc (length (drop 1 end.bytes)) ≤ length rest.bytes) (d.form (around c.levels).1 c at order rest)
form_has c at order rest h = meant_has (λ f end. Tested f × suc (length (drop 1 end.bytes)) ≤ length rest.bytes)
    (form_meant (size rest) (around c.levels).1 c
    (λ h. far (size rest) c h (in_arguments (in_braces c)) refl) at order rest.at rest.bytes refl h)
    (λ f end i. by i)
  where
    -- an alternative by the grammar has a test
    tested : {size : ℕ} {inside : ListContext} {t q : List ℕ} {ts : Tests} → AreTests size inside t ts q → Tested (d.Alternative ts)
    tested (s.last_test sp a sign i b z) = tt
    tested (s.next_test sp a sign i b z o) = tt

    by : {size : ℕ} {inside : ListContext} {t q : List ℕ} {f : d.Form}
        → IsForm size inside order t f q → Tested f × suc (length (drop 1 q)) ≤ length t
    by (form_patterns e o) = (tt, patterns_shorter o)
    by (form_tests o) = (tested o, tests_shorter o)

-- a test of what a function gives is always that of a call
pub result_has : (c : ListContext) → (c.levels - 1 == 0) ≡ false → (at n : ℕ) (rest : Left) → Has (λ operand end. (name : List ℕ)
    × ((items : Items) × (operand ≡ d.result_operand name items))) (d.result (around c.levels).1 c at n rest)
result_has c h at n rest = by (first_of rest.bytes)
  where
    -- what was read is the result of a call
    IsMade : d.Operand → Left → Type 0
    IsMade operand end = (name : List ℕ) × ((items : Items) × (operand ≡ d.result_operand name items))

    -- a call makes the operand of a function's result
    call : {size : ℕ} {t q : List ℕ} {operand : d.Operand}
        → CallIs d.result_operand size (in_braces c) t operand q → IsMade operand (left 0 q)
    call (call_is {name = name} {items = items} i) = (name, (items, refl))

    -- by whether a colon follows
    colon : (t : Bool) → Has IsMade (if t then d.call_as d.result_operand (around c.levels).1 (in_braces c) at n (after 1 rest)
        else Stops rest.at (BadDirective n))
    colon true = meant_has IsMade (call_meant d.result_operand (in_braces c) h (around c.levels).1 (size (after 1 rest))
        (far (size (after 1 rest)) c h (in_arguments (in_braces c)) refl) at n (after 1 rest).at (after 1 rest).bytes refl) (λ o end i.
        call i)
    colon false = tt

    by : (byte : Option ℕ) → Has IsMade (by_byte byte (Ends at) (λ b. if b == ascii.colon
        then d.call_as d.result_operand (around c.levels).1 (in_braces c) at n (after 1 rest) else Stops rest.at (BadDirective n)))
    by None = tt
    by (Some b) = colon (b == ascii.colon)

-- directives

-- a directive is no white space
directive_dark : {size : ℕ} {c : ListContext} {directive : Directive} {t q : List ℕ} {one : Item}
    → IsDirective size c directive t one q → is_white_item one ≡ false
directive_dark s.whole = refl
directive_dark s.named = refl
directive_dark (s.temp_name i) = refl
directive_dark (s.accumulate i) = refl
directive_dark (s.saying {kind = kind} {words = words} i e) = by kind
  where
    by : (k : SayKind) → is_white_item (said k words) ≡ false
    by AsError = refl
    by AsNotice = refl
directive_dark (s.named_text i l) = refl
directive_dark (s.hide i) = refl
directive_dark (s.star e) = refl
directive_dark (s.function i) = refl
directive_dark (s.braces i) = refl
directive_dark (s.marked_braces {kind = kind} {brace = brace} i) = by kind
  where
    by : (k : BraceKind) → is_white_item (braced k brace) ≡ false
    by InPlace = refl
    by IntoFailureFile = refl
    by IntoArgumentsFile = refl

-- an item that begins with a percent sign is no white space
item_dark : {size : ℕ} {c : ListContext} {t q : List ℕ} {one : Item} → IsItem size c t one q → begins_with ascii.percent t ≡ true
    → is_white_item one ≡ false
item_dark (s.plain e g) h = refl
item_dark s.escape h = refl
item_dark (s.blank {b = b} e) h = differs (sym (rw (same b ascii.percent h) at e))
item_dark s.newline h = differs (sym h)
item_dark s.pipe h = differs (sym h)
item_dark (s.directive e i) h = directive_dark i

-- a directive after its percent sign, as Descent makes it, is no white space
pub percent_dark : (c : ListContext) (rest : Left)
    → Has (λ one end. is_white_item one ≡ false) (d.directive (around c.levels).0 (around c.levels).1 c rest.at (after 1 rest))
percent_dark c rest = meant_has (λ one end. is_white_item one ≡ false)
    (percent_read n (around c.levels).0 (around c.levels).1 c (near n c) (far n c) rest.at (drop 1 rest.bytes) (omega arith))
    (λ one end i. item_dark i refl)
  where
    n : ℕ
    n = rest.at + suc (length (drop 1 rest.bytes))

-- loops of Descent, by their turns

-- two parts in a row and a third are the first and the other two in a row
pub then_then : {X Y Z : Type 0} (part : Read X) (goes : X → Left → Read Y) (goes_on : Y → Left → Read Z)
    → then_read (then_read part goes) goes_on ≡ then_read part (λ x end. then_read (goes x end) goes_on)
then_then (Took x end) goes goes_on = refl
then_then (Ends n) goes goes_on = refl
then_then (Stops n fault) goes goes_on = refl

-- a step that gives turns, where each but the last takes a byte at least
module _ {X : Type 0} (step : Left → Read (Turn X)) (takes : (rest : Left) → Has (Takes (length rest.bytes)) (step rest)) where
  -- a turn and what follows it, by what follows a turn that takes a byte
  same_turn : (goes more : Left → Read X) (n : ℕ) (r : Read (Turn X)) → Has (Takes n) r
      → ((end : Left) → suc (length end.bytes) ≤ n → goes end ≡ more end) → then_read r (after_turn goes) ≡ then_read r (after_turn more)
  same_turn goes more n (Took (Last x) end) h g = refl
  same_turn goes more n (Took (More f) end) h g = ap (λ r. mapped f r) (g end h)
  same_turn goes more n (Ends m) h g = refl
  same_turn goes more n (Stops m fault) h g = refl

  -- any number of turns that is enough for the bytes that are left gives the same
  turns_enough : (many bytes : List ℕ) (rest : Left) → length rest.bytes ≤ length many → length rest.bytes ≤ length bytes
      → turns step many rest ≡ turns step bytes rest
  turns_enough [] [] rest h k = refl
  turns_enough [] (b ∷ bytes) rest h k = same_turn (λ end. Ends end.at) (turns step bytes) (length rest.bytes) (step rest) (takes rest)
      (λ end j. absurd (omega (j, h, arith)))
  turns_enough (b ∷ many) [] rest h k = same_turn (turns step many) (λ end. Ends end.at) (length rest.bytes) (step rest) (takes rest)
      (λ end j. absurd (omega (j, k, arith)))
  turns_enough (b ∷ many) (c ∷ bytes) rest h k =
      same_turn (turns step many) (turns step bytes) (length rest.bytes) (step rest) (takes rest)
      (λ end j. turns_enough many bytes end (omega (j, h, arith)) (omega (j, k, arith)))

  -- a loop is one turn, and the loop after it unless that was the last
  pub repeated : (rest : Left) → repeat step rest ≡ then_read (step rest) (after_turn (repeat step))
  repeated rest = go rest.bytes refl
    where
      -- by the bytes that are left: with each of them a turn may come
      go : (bytes : List ℕ) → rest.bytes ≡ bytes → turns step bytes rest ≡ then_read (step rest) (after_turn (repeat step))
      go [] e = same_turn (λ end. Ends end.at) (repeat step) (length rest.bytes) (step rest) (takes rest)
          (λ end j. let p : length rest.bytes ≡ 0 = ap (λ bs. length bs) e in absurd (omega (j, p, arith)))
      go (b ∷ bytes) e = same_turn (turns step bytes) (repeat step) (length rest.bytes) (step rest) (takes rest)
          (λ end j. let p : length rest.bytes ≡ suc (length bytes) = ap (λ bs. length bs) e in
          turns_enough bytes end.bytes end (omega (j, p, arith)) (omega arith))

-- patterns after an ampersand are one, and those after it if another ampersand follows
pub patterns_by : (at : ℕ) (rest : Left) → d.patterns at rest ≡ then_read (d.pattern_from at (past_white rest)) (after_turn (d.patterns at))
patterns_by at rest = repeated (λ mid. d.pattern_from at (past_white mid)) (patterns_take at) rest

-- the lists in a list with the context c; the % of the directive has the place `at`
module _ (c : ListContext) where
  -- tests after a bar are one, and those after it if another bar follows
  pub tests_by : (at : ℕ) (rest : Left) → d.more_tests (around c.levels).1 c at rest
      ≡ then_read (d.one_test (around c.levels).1 c at AtBar rest) (λ t end.
      then_read (d.test_turn at (d.decided at AtBar t) end) (after_turn (d.more_tests (around c.levels).1 c at)))
  tests_by at rest = repeated (bar_step c at) (tests_take c at) rest
      ∙ then_then (d.one_test (around c.levels).1 c at AtBar rest) (λ t end. d.test_turn at (d.decided at AtBar t) end)
      (after_turn (d.more_tests (around c.levels).1 c at))

  -- alternatives after the first are one, and those after it if no brace follows
  pub later_by : (c.levels == 0) ≡ false → (at : ℕ) (rest : Left) → d.later (around c.levels).0 (around c.levels).1 c at rest
      ≡ then_read (later_step c at rest) (after_turn (d.later (around c.levels).0 (around c.levels).1 c at))
  later_by h at rest = repeated (later_step c at) (later_take c h at) rest

  -- items are one, and those after it, unless the list ends
  pub items_by : (rest : Left) → d.items (around c.levels).0 (around c.levels).1 c rest
      ≡ then_read (d.item_turn (around c.levels).0 (around c.levels).1 c rest)
      (after_turn (d.items (around c.levels).0 (around c.levels).1 c))
  items_by rest = repeated (d.item_turn (around c.levels).0 (around c.levels).1 c) (items_take c) rest
