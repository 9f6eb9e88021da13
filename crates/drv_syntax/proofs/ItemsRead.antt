use Rattle.drv_words.specs.Bytes as ascii
use Rattle.drv_syntax.proofs.Leads.{asked_head, no_colon, no_white, sign_head, other}
use Rattle.drv_syntax.proofs.Here.{begins_not, here, one, spaces_on, spaces_shorter, named_is, option_is, pattern_is, saying_is, suffix_is}
use Rattle.drv_syntax.proofs.Here.{two}
use Rattle.drv_syntax.proofs.Shorter.{Loops, items_shorter, loop_ends, loop_goes, patterns_shorter, tests_shorter, item_shorter}
use Rattle.drv_syntax.proofs.TestsRead.{emits_are, ListReads, tests_are, byte_of, call_is, call_level}
use Rattle.drv_syntax.specs.Bytes.{is_white, is_blank, is_plain}
use Rattle.drv_syntax.specs.Contexts.{ListContext, in_arguments, in_braces, in_x, Kind, InArguments, InX, Top, is_end}
use Rattle.drv_syntax.specs.Descent as d
use Rattle.drv_syntax.specs.Descent.{Lists, Read, Took, Turn, mapped, then_read, within, Last, More}
use Rattle.drv_syntax.specs.Directives.{directive_of, is_allowed}
use Rattle.drv_syntax.specs.Refusals.{AtFront, AtNext}
use Rattle.drv_syntax.specs.Rest.{Left, after, begins_with, past_white, by_byte, first_of}
use Rattle.drv_syntax.specs.Spelling as s
use Rattle.drv_syntax.specs.Spelling.{AreChoices, AreItems, AreLater, AreSpaces, AreTests, IsBrace, IsDirective, IsItem, span}
use Rattle.drv_syntax.specs.Tree.{Brace, Choices, Choose, Items, Tests, alternative, no_choice, no_test, Function, Item, more, none}
use Rattle.drv_syntax.specs.declared.directives.Directive.{Directive}
use Rattle.drv_syntax.specs.declared.fault.SyntaxFault.TheVariants.{EmptyTest}
use Rattle.std.proofs.Common.{◌≡◌, ◌≤◌, ◌∙◌, false, if◌then◌else◌, List, ◌∷◌, ap, arith, length, refl, suc, ℕ, Bool, true}
use Rattle.std.specs.Prelude.{◌-◌, ◌==◌}

-- What the grammar says of alternatives and braces, Descent makes of it. It serves the laws `spelled_is_read`, `front_is_unrefused` and
-- `refusal_kinds`. The numbers in the statements are bytes: 58 is :, 59 ;, 125 }.
-- Names: `t`, `u`, `q`: what is left of the text, from step to step. `size`: the length of the whole text. `b`: a byte. `mid`: what is left
-- of the text. `c`: where the list is, and what is around it. `deep`, `lists`: how lists inside are read. `at`: the place of the
-- directive's `%`. `f`: a class of bytes. `f`: a directive. `here`: what is left of the text where these bytes are left. `one`: one byte
-- on. `other`: a byte that f allows differs from one that f doesn't allow. `in_braces`: the context in the braces of a list, before the
-- colon of an alternative. `then_read`: goes on with what was read and with what is left. `Loops`: a loop from this rest on gives r, with
-- any number of turns that is enough. `ListReads`: lists with this context are read as the grammar says. `Kind`: where a list of items is.
-- `tests_shorter`: tests take bytes of the text alone. `is_plain`: a plain byte.

-- a text of this size, in braces whose directive's % has the place `at`, in a list with the context c
module _ (size : ℕ) (lists deep : Lists) (c : ListContext) (at : ℕ) where
  -- what Descent makes of the X of an alternative with these tests, after its colon
  abbrev pub x_from : Tests → List ℕ → Read (Items × ℕ)
  x_from tests mid = within at (lists (in_x (in_braces c) tests) (here size mid))

  -- one turn of the loop over alternatives after the first
  abbrev pub later_turn : Left → Read (Turn Choices)
  later_turn mid = if begins_with ascii.colon (past_white mid).bytes then d.default lists c at (past_white mid)
      else then_read (d.form deep c at AtNext mid) (λ f end. d.later_by lists c at f end)

  -- white space and what is no colon begin no default
  pub no_default : {t u : List ℕ} → AreSpaces t u → s.Stops is_white u → s.Stops (λ b. b == ascii.colon) u → length t ≤ size
      → later_turn (here size t) ≡ then_read (d.form deep c at AtNext (here size t)) (λ f end. d.later_by lists c at f end)
  no_default {t} sp w g h = let e : begins_with ascii.colon (past_white (here size t)).bytes
      ≡ false = ap (λ (u : List ℕ). begins_with ascii.colon u) (spaces_on size sp w h).0 ∙ begins_not 58 g in rw e refl

  -- after white space and a colon, Descent goes on with the X of the default
  pub default_on : {t mid : List ℕ} → AreSpaces t (58 ∷ mid) → length t ≤ size → later_turn (here size t)
      ≡ then_read (x_from no_test mid) (λ x end.
      if x.1 == ascii.closing_brace then Took (d.Last (alternative (size - suc (length mid)) no_test x.0 no_choice)) (after 1 end)
      else d.Stops end.at (EmptyTest at))
  default_on {mid = mid} sp h =
      let m = spaces_on size sp (s.at_byte refl) h in rw (m.0, m.1, one size mid (omega (arith, spaces_shorter sp, h))) refl

  -- arguments of tests are read
  module _ (deeper : (c.levels - 1 == 0) ≡ false → ListReads size deep (in_arguments (in_braces c))) where
    -- after the tests of an alternative after the first, Descent goes on with its X
    pub later_on : {t mid : List ℕ} {tests : Tests} → AreTests size (in_braces c) t tests (58 ∷ mid) → length t ≤ size
        → later_turn (here size t) ≡ then_read (x_from tests mid) (λ x end. d.choice_turn (size - suc (length mid)) tests x end)
    later_on {t} {mid} {tests} i h =
        rw (goes i, (tests_are size deep c at deeper i h).0 AtNext, one size mid (omega (arith, tests_shorter i, h))) refl
      where
        -- the tests don't begin with the colon of a default
        goes : {q : List ℕ} {tests : Tests} → AreTests size (in_braces c) t tests q
            → later_turn (here size t) ≡ then_read (d.form deep c at AtNext (here size t)) (λ f end. d.later_by lists c at f end)
        goes (s.last_test sp x sign i y z) =
            no_default sp (sign_head sign (asked_head no_white refl i) refl) (sign_head sign (asked_head no_colon refl i) refl) h
        goes (s.next_test sp x sign i y z o) =
            no_default sp (sign_head sign (asked_head no_white refl i) refl) (sign_head sign (asked_head no_colon refl i) refl) h

    -- after the tests of the first alternative, Descent goes on with its X
    pub first_on : {t mid : List ℕ} {tests : Tests} → AreTests size (in_braces c) t tests (58 ∷ mid) → length t ≤ size
        → d.choices lists deep c at (here size t) ≡ then_read (x_from tests mid) (λ x end. mapped Choose
        (then_read (d.choice_turn (size - suc (length mid)) tests x end) (d.after_turn (d.later lists deep c at))))
    first_on {mid = mid} i h = rw ((tests_are size deep c at deeper i h).0 AtFront, one size mid (omega (arith, tests_shorter i, h))) refl

    -- Xs are read
    module _ (xs : (tests : Tests) → ListReads size lists (in_x (in_braces c) tests)) where
      -- the X of an alternative by the grammar is read
      pub x_is : (tests : Tests) {mid q : List ℕ} {items : Items} {b : ℕ} → AreItems size (in_x (in_braces c) tests) mid items (b ∷ q)
          → length mid ≤ size → x_from tests mid ≡ Took (items, b) (here size (b ∷ q))
      x_is tests {mid} {q} {items} {b} i h = rw (xs tests mid (b ∷ q) items i h) refl

      -- alternatives give this: from the first one on, and after a semicolon
      abbrev pub GiveChoices : List ℕ → Read Choices → Type 0
      GiveChoices t r = (d.choices lists deep c at (here size t) ≡ mapped Choose r) × Loops later_turn (here size t) r

      -- after an alternative and a semicolon, Descent goes on with the alternatives after that
      pub next_on : {t mid next : List ℕ} {tests : Tests} {items : Items} {r : Read Choices}
          → AreTests size (in_braces c) t tests (58 ∷ mid) → AreItems size (in_x (in_braces c) tests) mid items (59 ∷ next)
          → length t ≤ size → Loops later_turn (here size next) r
          → GiveChoices t (mapped (λ others. alternative (size - suc (length mid)) tests items others) r)
      next_on {t} {mid} {next} i l h k =
          let f : length mid ≤ size = omega (arith, tests_shorter i, h) in
          let e : suc (length next) ≤ length t = omega (arith, tests_shorter i, items_shorter l) in
          let g : suc (length next) ≤ size = omega (arith, e, h) in let n : length next ≤ length next = omega arith in (
            rw (first_on i h, x_is _ l f, one size next g, k.gives next n) refl,
            loop_goes {end = here size next} (rw (later_on i h, x_is _ l f, one size next g) refl) e k,
          )

      mutual
        -- alternatives after the first by the grammar are read
        later_are : {t q : List ℕ} {choices : Choices} → AreLater size (in_braces c) t choices q → length t ≤ size
            → Loops later_turn (here size t) (Took choices (here size q))
        later_are (s.with_tests o) h = (choices_are o h).1
        later_are {q = q} (s.default colon {mid = mid} sp a l) h =
            let e : colon ≡ size - suc (length mid) = omega (arith, a) in let f : length mid ≤ size = omega (arith, spaces_shorter sp, h) in
            rw e (loop_ends (λ goes. rw (default_on sp h, x_is _ l f, one size q (omega (arith, items_shorter l, f))) refl))

        -- alternatives with tests by the grammar are read
        choices_are : {t q : List ℕ} {choices : Choices} → AreChoices size (in_braces c) t choices q → length t ≤ size
            → GiveChoices t (Took choices (here size q))
        choices_are {q = q} (s.last_choice colon {mid = mid} i a l) h =
            let e : colon ≡ size - suc (length mid) = omega (arith, a) in let f : length mid ≤ size = omega (arith, tests_shorter i, h) in
            let g : suc (length q) ≤ size = omega (arith, items_shorter l, f) in
            rw e (rw (first_on i h, x_is _ l f, one size q g) refl, loop_ends (λ goes. rw (later_on i h, x_is _ l f, one size q g) refl))
        choices_are (s.next_choice colon {mid = mid} {next = next} i a l o) h =
            let e : colon ≡ size - suc (length mid) = omega (arith, a) in
            rw e (next_on i l h (later_are o (omega (arith, tests_shorter i, items_shorter l, h))))

      -- the inside of braces by the grammar is read
      pub brace_is : {t q : List ℕ} {brace : Brace} → IsBrace size c t brace q → length t ≤ size
          → d.choices lists deep c at (here size t) ≡ Took brace (here size q)
      brace_is {q = q} (s.emits e o) h = rw ((emits_are size at deep c o h).0, one size q (omega (arith, patterns_shorter o, h))) refl
      brace_is (s.chooses e o) h = (choices_are o h).0

-- What the grammar says of directives, items and lists, Descent makes of it. It serves the laws `spelled_is_read`, `front_is_unrefused` and
-- `refusal_kinds`. The numbers in the statements are bytes: 37 is %, 92 a backslash.

-- a byte of a class that has no byte at which a list ends doesn't end one
pub ends_no_list : (f : ℕ → Bool) (kind : Kind) (b : ℕ) → f b ≡ true → f 59 ≡ false → f 125 ≡ false → f 41 ≡ false → is_end kind b ≡ false
ends_no_list f Top b e g h k = refl
ends_no_list f InX b e g h k = rw (other f b 59 e g, other f b 125 e h) refl
ends_no_list f InArguments b e g h k = other f b 41 e k

-- a byte at which a list ends is no backslash and no percent sign
ends_here : (kind : Kind) (b : ℕ) → is_end kind b ≡ true → d.ends_list kind b ≡ true
ends_here kind b e = rw (other (is_end kind) b 92 e (ends kind).0, other (is_end kind) b 37 e (ends kind).1) e
  where
    -- no list ends at a backslash or a percent sign
    ends : (kind : Kind) → (is_end kind 92 ≡ false) × (is_end kind 37 ≡ false)
    ends Top = (refl, refl)
    ends InX = (refl, refl)
    ends InArguments = (refl, refl)

-- a list that may end here, by what would be made of a byte that doesn't end it, is read as one without items
ended : (size : ℕ) {kind : Kind} {q : List ℕ} (goes : ℕ → Read (Turn (Items × ℕ))) → s.EndsList kind q → (next : Left → Read (Items × ℕ))
    → then_read (by_byte (first_of q) (d.list_end kind (here size q)) (λ b.
    if d.ends_list kind b then Took (Last (none, b)) (here size q) else goes b)) (d.after_turn next) ≡ Took (none, byte_of q) (here size q)
ended size goes s.text_ends next = refl
ended size goes (s.list_ends {kind = kind} {b = b} e) next = rw (ends_here kind b e) refl

-- braces by the grammar have a level left for what is in them
pub brace_level : {size : ℕ} {c : ListContext} {t q : List ℕ} {brace : Brace} → IsBrace size c t brace q → (c.levels == 0) ≡ false
brace_level (s.emits e o) = e
brace_level (s.chooses e o) = e

-- what is known of the lists in a list with this context: arguments, Xs, and arguments of tests are read
pub record Inner (size : ℕ) (lists deep : Lists) (c : ListContext) : Type 0 where
  pub arguments : (c.levels == 0) ≡ false → ListReads size lists (in_arguments c)
  pub xs : (c.levels == 0) ≡ false → (tests : Tests) → ListReads size lists (in_x (in_braces c) tests)
  pub deeper : (c.levels - 1 == 0) ≡ false → ListReads size deep (in_arguments (in_braces c))

-- a list with the context c in a text of this size
module _ (size : ℕ) (lists deep : Lists) (c : ListContext) where
  -- one turn of the loop over items
  abbrev pub turn : Left → Read (Turn (Items × ℕ))
  turn rest = d.item_turn lists deep c rest

  -- what Descent makes of an item that begins a list here, once it is read
  abbrev pub item_then : List ℕ → Read Item → Read (Turn (Items × ℕ))
  item_then t r = then_read r (λ item end. Took (More (λ list. (more (span (size - length t) end.at) item list.0, list.1))) end)

  -- after a percent sign and the byte of a directive, Descent goes on with that directive
  pub directive_on : (b : ℕ) (t : List ℕ) → is_allowed c.in_arguments b ≡ true → suc (suc (length t)) ≤ size
      → turn (here size (37 ∷ b ∷ t)) ≡ item_then (37 ∷ b ∷ t)
      (d.directive_by lists deep c (size - suc (suc (length t))) (size - suc (length t)) (directive_of b) (here size t))
  directive_on b t e h = rw (one size (b ∷ t) h, e, one size t (omega (arith, h))) refl

  -- lists inside are read
  module _ (known : Inner size lists deep c) where
    -- a directive by the grammar is read
    pub directive_is : {f : Directive} {t q : List ℕ} {item : Item} (at n : ℕ) → IsDirective size c f t item q → length t ≤ size
        → d.directive_by lists deep c at n f (here size t) ≡ Took item (here size q)
    directive_is at n s.whole h = refl
    directive_is at n s.named h = refl
    directive_is at n (s.temp_name {kind = kind} i) h = suffix_is size kind i h
    directive_is at n (s.accumulate i) h = option_is size at i h
    directive_is at n (s.saying {kind = kind} i e) h = saying_is size c.kind kind i e h
    directive_is at n (s.named_text i l) h = named_is size at i l h
    directive_is at n (s.hide i) h = rw (pattern_is size at i h) refl
    directive_is at n (s.star e) h = rw e refl
    directive_is at n (s.function i) h = rw (call_level i) (call_is size Function lists at at known.arguments i h)
    directive_is at n (s.braces i) h = let e = brace_level i in rw (e, brace_is size lists deep c at known.deeper (known.xs e) i h) refl
    directive_is at n (s.marked_braces {text = t} i) h =
        let e = brace_level i in rw (e, one size t h, brace_is size lists deep c at known.deeper (known.xs e) i (omega (arith, h))) refl

    -- an item by the grammar is read
    pub item_is : {t q : List ℕ} {item : Item} → IsItem size c t item q → length t ≤ size
        → turn (here size t) ≡ Took (More (λ list. (more (span (size - length t) (size - length q)) item list.0, list.1))) (here size q)
    item_is (s.plain {b = b} {rest = t} e g) h = rw (
      other is_plain b 92 e refl,
      other is_plain b 37 e refl,
      g,
      other is_plain b 32 e refl,
      other is_plain b 9 e refl,
      other is_plain b 10 e refl,
      other is_plain b 124 e refl,
      one size t h,
    ) refl
    item_is (s.escape {rest = t}) h = rw (two size t h) refl
    item_is (s.blank {b = b} {rest = t} e) h = rw (
      other is_blank b 92 e refl,
      other is_blank b 37 e refl,
      ends_no_list is_blank c.kind b e refl refl refl,
      e,
      one size t h,
    ) refl
    item_is (s.newline {rest = t}) h = rw (ends_no_list (λ b. b == 10) c.kind 10 refl refl refl refl, one size t h) refl
    item_is (s.pipe {rest = t}) h = rw (ends_no_list (λ b. b == 124) c.kind 124 refl refl refl refl, one size t h) refl
    item_is (s.directive {b = b} {text = t} e i) h =
        rw (directive_on b t e h, directive_is (size - suc (suc (length t))) (size - suc (length t)) i (omega (arith, h))) refl

    -- after an item, Descent goes on with the list after it
    pub item_on : {t mid : List ℕ} {item : Item} {r : Read (Items × ℕ)} → IsItem size c t item mid → length t ≤ size
        → Loops turn (here size mid) r → Loops turn (here size t)
        (d.mapped (λ list. (more (span (size - length t) (size - length mid)) item list.0, list.1)) r)
    item_on i h k = loop_goes (item_is i h) (item_shorter i) k

    -- the items of a list by the grammar are read
    pub items_are : {t q : List ℕ} {items : Items} → AreItems size c t items q → length t ≤ size
        → Loops turn (here size t) (Took (items, byte_of q) (here size q))
    items_are (s.no_item {rest = q} e) h = loop_ends (ended size (λ b. item_then q (d.item lists deep c b (here size q))) e)
    items_are (s.next_item {n = n} {m} {text = t} {mid = mid} a i b l) h =
        let e : n ≡ size - length t = omega (arith, a) in let f : m ≡ size - length mid = omega (arith, b) in
        rw (e, f) (item_on i h (items_are l (omega (arith, item_shorter i, h))))
