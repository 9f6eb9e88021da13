use Rattle.drv_words.specs.Bytes as ascii
use Rattle.drv_syntax.proofs.Leads.{asked_head, no_percent, no_white, pattern_head, sign_head, unstarred_spaces, no_sign, other}
use Rattle.drv_syntax.proofs.Leads.{bracket_ends, function_front}
use Rattle.drv_syntax.proofs.Here.{begins_not, function_on, here, one, pattern_is, quoted_is, spaces_on, spaces_shorter, pattern_shorter}
use Rattle.drv_syntax.proofs.Here.{quoted_shorter}
use Rattle.drv_syntax.proofs.Shorter.{Loops, asked_shorter, items_shorter, loop_ends, loop_goes, sign_shorter}
use Rattle.drv_syntax.specs.Bytes.{is_function, is_mark, is_white, is_word}
use Rattle.drv_syntax.specs.Contexts.{ListContext, in_arguments, in_braces}
use Rattle.drv_syntax.specs.Descent as d
use Rattle.drv_syntax.specs.Descent.{Alternative, Lists, Operand, Read, Took, Turn, mapped, then_read, within, Patterns}
use Rattle.drv_syntax.specs.Refusals.{AtBar, Order, may_emit, AtFront}
use Rattle.drv_syntax.specs.Rest.{Left, after, past_white}
use Rattle.drv_syntax.specs.Spelling as s
use Rattle.drv_syntax.specs.Spelling.{AreItems, AreSpaces, AreTests, IsAsked, IsCall, IsPattern, IsQuoted, IsSign, span, ArePatterns}
use Rattle.drv_syntax.specs.Tree.{Asked, HasLanguage, HasResult, HasSuffix, HasSwitch, Items, Pattern, Tests, no_test, test, Span, pattern}
use Rattle.std.proofs.Common.{refl, suc, ℕ, if◌then◌else◌, ◌≡◌, ◌≤◌, ◌∙◌, ◌+◌, ◌++◌, Bool, false, true, List, [], ◌∷◌, ap, append-nil}
use Rattle.std.proofs.Common.{arith, length, length-append}
use Rattle.std.specs.Prelude.{◌-◌, ◌==◌, Some}

-- What the grammar says of calls and tests, Descent makes of it. It serves the laws `spelled_is_read`, `front_is_unrefused` and
-- `refusal_kinds`. The numbers in the statements are bytes: 37 is %, 40 (, 41 ), 42 *, 44 a comma, 46 a period, 58 :, 124 |. What ends in
-- `_on` says with what Descent goes on, whatever follows there; what ends in `_is` or `_are` says what is read.
-- Names: `t`, `u`, `v`, `q`, `w`: what is left of the text, from step to step. `size`: the length of the whole text. `b`: a byte. `c`:
-- where the list is, and what is around it. `at`: the place of the directive's `%`. `deep`, `lists`: how lists inside are read. `z`: a
-- test's value, so that `by` can go by both cases. `emits`: whether the braces may still be patterns. `p`: a pattern. `here`: what is left
-- of the text where these bytes are left. `spaces_shorter`: white space takes bytes of the text alone. `is_mark`: what begins a test of a
-- suffix or of a language. `one`: one byte on. `is_white`: a space, a tab or a newline. `AreSpaces`: the text begins with white space, or
-- with none. `Loops`: a loop from this rest on gives r, with any number of turns that is enough. `IsQuoted`: the longest run of bytes of
-- the class f and of escapes. `mapped`: what was read, as this function of it. `in_braces`: the context in the braces of a list, before the
-- colon of an alternative. `unspaced`, `asking`, `behind`: the text without the white space before it, from what a test asks on, and after
-- that. `own`: the place of a function's own %. `part`: what was read.

-- the byte that a list ends at; 0 at the end of a text
abbrev pub byte_of : List ℕ → ℕ
byte_of [] = 0
byte_of (b ∷ t) = b

-- lists with this context are read as the grammar says
abbrev pub ListReads : ℕ → Lists → ListContext → Type 0
ListReads size lists c = (t q : List ℕ) (list : Items) → AreItems size c t list q → length t ≤ size
    → lists c (here size t) ≡ Took (list, byte_of q) (here size q)

-- what a test may be that asks this
abbrev pub asked_operand : Asked → Operand
asked_operand (HasSwitch p) = d.switch_operand p
asked_operand (HasSuffix word) = d.marked_operand 46 word
asked_operand (HasLanguage word) = d.marked_operand 44 word
asked_operand (HasResult name items) = d.result_operand name items

-- what a test may be that asks this is a test
pub asks : (a : Asked) → (asked_operand a).as_test ≡ Some a
asks (HasSwitch p) = refl
asks (HasSuffix word) = refl
asks (HasLanguage word) = refl
asks (HasResult name items) = refl

-- a call by the grammar has a level left for its arguments
pub call_level : {size : ℕ} {c : ListContext} {t name q : List ℕ} {items : Items} → IsCall size c t name items q → (c.levels == 0) ≡ false
call_level (s.call e is l) = e

-- what is read, as a function of it and then as another, is what is read as both at once
pub mapped_mapped : {X Y Z : Type 0} (change : X → Y) (further : Y → Z) (part : Read X)
    → mapped (λ x. further (change x)) part ≡ mapped further (mapped change part)
mapped_mapped change further (Took x rest) = refl
mapped_mapped change further (d.Ends n) = refl
mapped_mapped change further (d.Stops n fault) = refl

-- a text of this size
module _ (size : ℕ) where
  -- what Descent makes of a call, once its name is read
  abbrev pub called : {X : Type 0} → (List ℕ → Items → X) → Lists → ListContext → ℕ → List ℕ → List ℕ → Read X
  called make lists c at name t =
      within at (then_read (lists (in_arguments c) (here size t)) (λ list end. Took (make name list.0) (after 1 end)))

  -- after a function's name and its parenthesis, Descent goes on with its arguments
  pub call_on : {X : Type 0} (make : List ℕ → Items → X) (lists : Lists) (c : ListContext) (at own : ℕ) (name t : List ℕ) → is_function name
      ≡ true → length (name ++ 40 ∷ t) ≤ size → d.call_as make lists c at own (here size (name ++ 40 ∷ t)) ≡ called make lists c at name t
  call_on make lists c at own name t is h =
      let front : is_function (name ++ []) ≡ true = ap is_function (append-nil name) ∙ is in rw (
        function_on size name (40 ∷ t) own (function_front name [] front) (bracket_ends name) h,
        is,
        one size t (omega (arith, length-append name (40 ∷ t), h)),
      ) refl

  -- a call by the grammar is read
  pub call_is : {X : Type 0} (make : List ℕ → Items → X) (lists : Lists) {c : ListContext} (at own : ℕ) {t name q : List ℕ} {items : Items}
      → ((c.levels == 0) ≡ false → ListReads size lists (in_arguments c))
      → IsCall size c t name items q → length t ≤ size → d.call_as make lists c at own (here size t) ≡ Took (make name items) (here size q)
  call_is make lists {c} at own {q = q} reads (s.call {text = t} {name = name} {arguments = items} e is l) h =
      let f : length t ≤ size = omega (arith, length-append name (40 ∷ t), h) in
      rw (call_on make lists c at own name t is h, reads e t (41 ∷ q) items l f, one size q (omega (arith, items_shorter l, f))) refl

  -- the braces of a directive whose % has the place `at`, in a list with the context c
  module _ (deep : Lists) (c : ListContext) (at : ℕ) where
    -- what is no mark and no % is read as a pattern
    pub switch_on : (emits : Bool) (t : List ℕ) → s.Stops is_mark t → s.Stops (λ b. b == ascii.percent) t
        → d.asked deep c at emits (here size t) ≡ mapped d.switch_operand (d.pattern_at at (here size t))
    switch_on emits [] h g = refl
    switch_on emits (b ∷ t) (s.at_byte e) (s.at_byte f) = rw (e, f) refl

    -- after a mark, Descent goes on with the word of a test
    pub mark_on : (emits : Bool) (mark : ℕ) (t : List ℕ) → is_mark mark ≡ true → suc (length t) ≤ size
        → d.asked deep c at emits (here size (mark ∷ t)) ≡ d.mark_text at emits mark (here size t)
    mark_on emits mark t e h = rw (e, one size t h) refl

    -- after the % and the colon of a test, Descent goes on with a call
    pub result_on : (emits : Bool) (t : List ℕ) → (c.levels - 1 == 0) ≡ false → suc (suc (length t)) ≤ size
        → d.asked deep c at emits (here size (37 ∷ 58 ∷ t))
        ≡ d.call_as d.result_operand deep (in_braces c) at (size - suc (suc (length t))) (here size t)
    result_on emits t e h = let f : size - suc (suc (length t)) + 1 + 1 ≡ size - length t = omega (arith, h) in rw (e, f) refl

    -- a mark and a word without a star are read
    pub marked_is : {t word q : List ℕ} {x : ℕ} (emits : Bool) (mark : ℕ) → is_mark mark ≡ true → IsQuoted is_word t (x ∷ word) q
        → s.Stops (λ b. b == ascii.asterisk) q → suc (length t) ≤ size
        → d.asked deep c at emits (here size (mark ∷ t)) ≡ Took (d.marked_operand mark (x ∷ word)) (here size q)
    marked_is {t} emits mark e i g h = rw (mark_on emits mark t e h, quoted_is size i (omega (arith, h)), begins_not 42 g) refl

    -- a pattern that begins with no mark is read as a test of a switch
    pub switch_is : (emits : Bool) {t q : List ℕ} {p : Pattern} → s.Stops is_mark t → IsPattern t p q → length t ≤ size
        → d.asked deep c at emits (here size t) ≡ Took (d.switch_operand p) (here size q)
    switch_is emits {t} e i h = rw (switch_on emits t e (pattern_head no_percent i), pattern_is size at i h) refl

    -- a test of what a function gives is read
    pub result_is : ((c.levels - 1 == 0) ≡ false → ListReads size deep (in_arguments (in_braces c))) → (emits : Bool)
        {t name q : List ℕ} {items : Items} → IsCall size (in_braces c) t name items q → suc (suc (length t)) ≤ size
        → d.asked deep c at emits (here size (37 ∷ 58 ∷ t)) ≡ Took (d.result_operand name items) (here size q)
    result_is reads emits {t} i h =
        rw (result_on emits t (call_level i) h) (call_is d.result_operand deep at (size - suc (suc (length t))) reads i (omega (arith, h)))

    -- what a test asks by the grammar is read, if no star follows it
    pub asked_is : ((c.levels - 1 == 0) ≡ false → ListReads size deep (in_arguments (in_braces c))) → (emits : Bool)
        {t q : List ℕ} {a : Asked} → IsAsked size (in_braces c) t a q → s.Stops (λ b. b == ascii.asterisk) q → length t ≤ size
        → d.asked deep c at emits (here size t) ≡ Took (asked_operand a) (here size q)
    asked_is reads emits (s.switch e i) g h = switch_is emits e i h
    asked_is reads emits (s.suffix i) g h = marked_is emits 46 refl i g h
    asked_is reads emits (s.language i) g h = marked_is emits 44 refl i g h
    asked_is reads emits (s.result i) g h = result_is reads emits i h

    -- `order` is the place of the test in the braces
    module _ (order : Order) where
      -- after white space and a `!` or none, Descent goes on with what the test asks, and knows where the test began
      pub test_on : {t u v : List ℕ} {negated : Bool} → AreSpaces t u → IsSign u negated v → s.Stops is_white v → length t ≤ size
          → d.one_test deep c at order (here size t) ≡ d.asked_from deep c at order (size - length u) negated (here size v)
      test_on {u = u} sp sign w h =
          let m = spaces_on size sp (sign_head sign w refl) h in rw (m.0, m.1) (signed sign w (omega (arith, spaces_shorter sp, h)))
        where
          signed : {u v : List ℕ} {negated : Bool} → IsSign u negated v → s.Stops is_white v → length u ≤ size
              → d.signed deep c at order (here size u) ≡ d.asked_from deep c at order (size - length u) negated (here size v)
          signed (s.plain_sign e) w l = rw (begins_not 33 e) refl
          signed (s.not_sign {text} i) w l = let m = spaces_on size i w (omega (arith, l)) in rw (one size text l, m.0, m.1) refl

      -- once what it asks is read, a test is read with white space and the byte after it
      pub tried_is : {t unspaced asking behind q : List ℕ} {negated : Bool} {operand : Operand} {b : ℕ}
          → AreSpaces t unspaced → IsSign unspaced negated asking → s.Stops is_white asking
          → d.asked deep c at (may_emit order negated) (here size asking) ≡ Took operand (here size behind) → AreSpaces behind (b ∷ q)
          → is_white b ≡ false → length t ≤ size → length behind ≤ size → d.one_test deep c at order (here size t)
          ≡ Took (record { place = span (size - length unspaced) (size - length behind); negated = negated; operand = operand; byte = b })
          (here size (b ∷ q))
      tried_is sp sign w e z white h l = let m = spaces_on size z (s.at_byte white) l in rw (test_on sp sign w h, e, m.0, m.1) refl

    -- lists two levels deeper are read
    module _ (reads : (c.levels - 1 == 0) ≡ false → ListReads size deep (in_arguments (in_braces c))) where
      -- one turn of the loop over tests after a bar
      abbrev pub bar_turn : Left → Read (Turn Tests)
      bar_turn mid = then_read (d.one_test deep c at AtBar mid) (λ t end. d.test_turn at (d.decided at AtBar t) end)

      -- tests give this: at the front of an alternative, and after a bar
      abbrev pub GiveTests : List ℕ → Read Tests → Type 0
      GiveTests t r = ((order : Order) → d.form deep c at order (here size t) ≡ mapped Alternative r) × Loops bar_turn (here size t) r

      -- a test by the grammar
      module _ {t u v w : List ℕ} {negated : Bool} {a : Asked} (sp : AreSpaces t u) (sign : IsSign u negated v)
          (i : IsAsked size (in_braces c) v a w) (h : length t ≤ size) where
        -- it is read with the byte after it, if this is no white space and no star
        test_is : (order : Order) {q : List ℕ} {b : ℕ} → AreSpaces w (b ∷ q) → is_white b ≡ false → (b == ascii.asterisk) ≡ false
            → d.one_test deep c at order (here size t) ≡ Took (record {
              place = span (size - length u) (size - length w);
              negated = negated;
              operand = asked_operand a;
              byte = b;
            }) (here size (b ∷ q))
        test_is order z white star =
            let f : length v ≤ size = omega (arith, spaces_shorter sp, sign_shorter sign, h) in
            tried_is order sp sign (asked_head no_white refl i)
            (asked_is reads (may_emit order negated) i (unstarred_spaces z star) f) z white h (omega (arith, asked_shorter i, f))

        -- where a colon follows, it is the last one
        last_on : {q : List ℕ} → AreSpaces w (58 ∷ q)
            → GiveTests t (Took (test (span (size - length u) (size - length w)) negated a no_test) (here size (58 ∷ q)))
        last_on z = (
          λ order. rw (test_is order z refl refl, asks a) refl,
          loop_ends (λ goes. rw (test_is AtBar z refl refl, asks a) refl),
        )

        -- where a bar follows, Descent goes on with the tests after that
        pub bar_on : {x : List ℕ} {r : Read Tests} → AreSpaces w (124 ∷ x) → Loops bar_turn (here size x) r
            → GiveTests t (mapped (test (span (size - length u) (size - length w)) negated a) r)
        bar_on {x} {r} z k = let f : suc (length x) ≤ length t =
            omega (arith, spaces_shorter sp, sign_shorter sign, asked_shorter i, spaces_shorter z) in
            let g : suc (length x) ≤ size = omega (arith, f, h) in let l : length x ≤ length x = omega arith in (
              λ order. rw (test_is order z refl refl, asks a, one size x g, k.gives x l) (mapped_mapped _ _ r),
              loop_goes (rw (test_is AtBar z refl refl, asks a, one size x g) refl) f k,
            )

      -- the tests of an alternative by the grammar are read
      pub tests_are : {t q : List ℕ} {tests : Tests} → AreTests size (in_braces c) t tests q → length t ≤ size
          → GiveTests t (Took tests (here size q))
      tests_are (s.last_test {n} {m} {u = u} {w = w} sp x sign i y z) h =
          let e : n ≡ size - length u = omega (arith, x) in let f : m ≡ size - length w = omega (arith, y) in
          rw (e, f) (last_on sp sign i h z)
      tests_are (s.next_test {n} {m} {u = u} {w = w} {x = v} sp x sign i y z o) h =
          let e : n ≡ size - length u = omega (arith, x) in let f : m ≡ size - length w = omega (arith, y) in rw (e, f)
          (bar_on sp sign i h z (tests_are o (omega (arith, spaces_shorter sp, sign_shorter sign, asked_shorter i, spaces_shorter z, h))).1)

-- What the grammar says of patterns in braces, Descent makes of it. It serves the laws `spelled_is_read`, `front_is_unrefused` and
-- `refusal_kinds`. A mark is the `.` or `,` that begins a test or a pattern. The numbers in the statements are bytes: 38 is &, 42 *, 125 }.

-- the text begins with what may follow a pattern that is a mark alone
pub data Follows : List ℕ → Type 0 where
  follows : {b : ℕ} {q : List ℕ} → d.ends_bare b ≡ true → Follows (b ∷ q)

-- white space and a byte that may end a pattern begin with what may follow one
pub follow : {v w : List ℕ} {b : ℕ} → AreSpaces v (b ∷ w) → d.ends_bare b ≡ true → Follows v
follow s.no_space e = follows e
follow (s.space {b} h i) e = follows (rw (other is_white b 125 h refl, other is_white b 38 h refl, h) refl)

-- a text of this size, in braces whose directive's % has the place `at`
module _ (size at : ℕ) where
  -- one turn of the loop over patterns after an ampersand
  abbrev pub and_turn : Left → Read (Turn (List (Span × Pattern)))
  and_turn mid = d.pattern_from at (past_white mid)

  -- a pattern after an ampersand is read with white space around it, and Descent goes on by the byte after that
  pub pattern_on : {t unspaced behind rest : List ℕ} {p : Pattern} {b : ℕ}
      → AreSpaces t unspaced → IsPattern unspaced p behind → AreSpaces behind (b ∷ rest) → is_white b ≡ false → length t ≤ size
      → and_turn (here size t) ≡ d.pattern_turn at (span (size - length unspaced) (size - length behind), p) (here size (b ∷ rest))
  pattern_on {unspaced = unspaced} {behind} sp i z white h =
      let f : length unspaced ≤ size = omega (arith, spaces_shorter sp, h) in let m = spaces_on size sp (pattern_head no_white i) h in
      let x = spaces_on size z (s.at_byte white) (omega (arith, pattern_shorter i, f)) in
      rw (m.0, m.1, pattern_is size at i f, x.0, x.1) refl

  -- after a pattern and an ampersand, Descent goes on with the patterns after that
  pub and_on : {t unspaced behind rest : List ℕ} {p : Pattern} {part : Read (List (Span × Pattern))} → AreSpaces t unspaced
      → IsPattern unspaced p behind → AreSpaces behind (38 ∷ rest) → length t ≤ size → Loops and_turn (here size rest) part
      → Loops and_turn (here size t) (mapped (λ ps. (span (size - length unspaced) (size - length behind), p) ∷ ps) part)
  and_on {t} {rest = rest} sp i z h k =
      let f : suc (length rest) ≤ length t = omega (arith, spaces_shorter sp, pattern_shorter i, spaces_shorter z) in
      loop_goes (rw (pattern_on sp i z refl h, one size rest (omega (arith, f, h))) refl) f k

  -- in a list with the context c
  module _ (deep : Lists) (c : ListContext) where
    -- what Descent makes of a test at the front of braces
    abbrev pub front : List ℕ → Read Operand
    front t = d.asked deep c at true (here size t)

    -- Descent reads what may be a test as something that may be this pattern
    abbrev pub Operates : List ℕ → Pattern → List ℕ → Type 0
    Operates u p v = (o : Operand) × (o.as_pattern ≡ Some p) × (front u ≡ Took o (here size v))

    -- a mark alone, with what may follow it after it, is read as a pattern
    pub bare_is : (mark b : ℕ) (q : List ℕ) → is_mark mark ≡ true → IsQuoted is_word (b ∷ q) [] (b ∷ q) → (b == ascii.asterisk) ≡ false
        → d.ends_bare b ≡ true → length (mark ∷ b ∷ q) ≤ size → front (mark ∷ b ∷ q) ≡ Took (d.bare_operand mark) (here size (b ∷ q))
    bare_is mark b q e i star f h = rw (mark_on size deep c at true mark (b ∷ q) e h, quoted_is size i (omega (arith, h)), star, f) refl

    -- a mark and a word with a star are read as a starred pattern
    pub starred_is : (mark : ℕ) {t q : List ℕ} (word : List ℕ) → is_mark mark ≡ true → IsQuoted is_word t word (42 ∷ q)
        → suc (length t) ≤ size → front (mark ∷ t) ≡ Took (d.starred_operand mark word) (here size q)
    starred_is mark {t} {q} word e i h =
        let l : length t ≤ size = omega (arith, h) in
        rw (mark_on size deep c at true mark t e h, quoted_is size i l) (by word (omega (arith, quoted_shorter i, l)))
      where
        by : (word : List ℕ) → suc (length q) ≤ size
            → (if d.is_empty word then d.bare_end at true mark (here size (42 ∷ q)) 42 else d.marked_end at true mark word
            (here size (42 ∷ q))) ≡ Took (d.starred_operand mark word) (here size q)
        by [] k = rw (one size q k) refl
        by (x ∷ word) k = rw (one size q k) refl

    -- a pattern that begins with no mark is read at the front of braces
    switch : {u v : List ℕ} {p : Pattern} → IsPattern u p v → s.Stops is_mark u → length u ≤ size → Operates u p v
    switch {u} {p = p} i e h =
        (d.switch_operand p, refl, rw (switch_on size deep c at true u e (pattern_head no_percent i), pattern_is size at i h) refl)

    -- a starred pattern is read at the front of braces
    pub starred_operates : {u v word : List ℕ} → IsQuoted is_word u word (42 ∷ v) → length u ≤ size → Operates u (pattern word true) v
    starred_operates (s.quoted_stop e g) h = switch (s.starred (s.quoted_stop e g)) (s.at_byte refl) h
    starred_operates (s.quoted_escape i) h = switch (s.starred (s.quoted_escape i)) (s.at_byte refl) h
    starred_operates {v = v} (s.quoted_byte {b} {text = t} {run = word} e g i) h = by (is_mark b) refl
      where
        by : (z : Bool) → is_mark b ≡ z → Operates (b ∷ t) (pattern (b ∷ word) true) v
        by true m = (d.starred_operand b word, refl, starred_is b word m i h)
        by false m = switch (s.starred (s.quoted_byte e g i)) (s.at_byte m) h

    -- a pattern is read at the front of braces, if what may follow a mark alone does
    pub operates : {u v : List ℕ} {p : Pattern} → IsPattern u p v → Follows v → length u ≤ size → Operates u p v
    operates (s.starred i) f h = starred_operates i h
    operates (s.unstarred (s.quoted_escape i) e) f h = switch (s.unstarred (s.quoted_escape i) e) (s.at_byte refl) h
    operates {v = v} (s.unstarred (s.quoted_byte {b} {text = t} {run = word} y g i) e) f h = by (is_mark b) refl
      where
        -- Plan: by whether the first byte is a mark (`by`), and then by whether more follows it (`bare`, `marked`).
        bare : {t v : List ℕ} → Follows v → is_mark b ≡ true → IsQuoted is_word t [] v → s.Stops (λ x. x == ascii.asterisk) v
            → suc (length t) ≤ size → Operates (b ∷ t) (pattern (b ∷ []) false) v
        bare (follows {b = x} {q} k) m (s.quoted_stop n o) (s.at_byte e) l =
            (d.bare_operand b, refl, bare_is b x q m (s.quoted_stop n o) e k l)

        -- by the bytes after the mark: none, or a word
        marked : (run : List ℕ) → is_mark b ≡ true → IsQuoted is_word t run v → Operates (b ∷ t) (pattern (b ∷ run) false) v
        marked [] m i = bare f m i e h
        marked (x ∷ run) m i = (d.marked_operand b (x ∷ run), refl, marked_is size deep c at true b m i e h)

        by : (marks : Bool) → is_mark b ≡ marks → Operates (b ∷ t) (pattern (b ∷ word) false) v
        by true m = marked word m i
        by false m = switch (s.unstarred (s.quoted_byte y g i) e) (s.at_byte m) h

    -- Descent reads a test at the front of braces that may be this pattern, and the byte after it
    abbrev pub Emitting : List ℕ → List ℕ → List ℕ → Pattern → ℕ → List ℕ → Type 0
    Emitting t u v p b q = (o : Operand) × (o.as_pattern ≡ Some p) × (d.one_test deep c at AtFront (here size t) ≡ Took (record {
      place = span (size - length u) (size - length v);
      negated = false;
      operand = o;
      byte = b;
    }) (here size (b ∷ q)))

    -- what is read as a pattern is read as one with white space around it and the byte after it
    pub emitting : {t unspaced behind q : List ℕ} {p : Pattern} {b : ℕ} → AreSpaces t unspaced → IsPattern unspaced p behind
        → Operates unspaced p behind → AreSpaces behind (b ∷ q) → is_white b ≡ false → length t ≤ size → Emitting t unspaced behind p b q
    emitting {behind = behind} sp i m z white h =
        let g : length behind ≤ size = omega (arith, spaces_shorter sp, pattern_shorter i, h) in (
          m.0,
          m.1,
          tried_is size deep c at AtFront sp (s.plain_sign (pattern_head no_sign i)) (pattern_head no_white i) m.2 z white h g,
        )

    -- patterns give this: at the front of braces, and after an ampersand
    abbrev pub GiveEmits : List ℕ → Read (List (Span × Pattern)) → Type 0
    GiveEmits t r = (d.form deep c at AtFront (here size t) ≡ mapped Patterns r) × Loops and_turn (here size t) r

    -- after a pattern and an ampersand, Descent goes on with the patterns after that
    pub emits_on : {t unspaced behind rest : List ℕ} {p : Pattern} {part : Read (List (Span × Pattern))} → AreSpaces t unspaced
        → IsPattern unspaced p behind → AreSpaces behind (38 ∷ rest) → length t ≤ size → Loops and_turn (here size rest) part
        → GiveEmits t (mapped (λ ps. (span (size - length unspaced) (size - length behind), p) ∷ ps) part)
    emits_on {unspaced = unspaced} {rest = rest} {part = part} sp i z h k =
        let f : suc (length rest) ≤ size = omega (arith, spaces_shorter sp, pattern_shorter i, spaces_shorter z, h) in
        let m = emitting sp i (operates i (follow z refl) (omega (arith, spaces_shorter sp, h))) z refl h in (
          rw (m.2, m.1, one size rest f, k.gives rest (omega arith)) (mapped_mapped _ _ part),
          and_on sp i z h k,
        )

    -- patterns by the grammar are read
    pub emits_are : {t q : List ℕ} {ps : List (Span × Pattern)} → ArePatterns size t ps q → length t ≤ size
        → GiveEmits t (Took ps (here size (125 ∷ q)))
    emits_are (s.last_pattern {n} {m} {u = u} {v} sp x i y z) h =
        let e : n ≡ size - length u = omega (arith, x) in let f : m ≡ size - length v = omega (arith, y) in
        let o = emitting sp i (operates i (follow z refl) (omega (arith, spaces_shorter sp, h))) z refl h in
        rw (e, f) (rw (o.2, o.1) refl, loop_ends (λ goes. rw (pattern_on sp i z refl h) refl))
    emits_are (s.next_pattern {n} {m} {u = u} {v} {w} sp x i y z o) h =
        let e : n ≡ size - length u = omega (arith, x) in let f : m ≡ size - length v = omega (arith, y) in
        rw (e, f) (emits_on sp i z h (emits_are o (omega (arith, spaces_shorter sp, pattern_shorter i, spaces_shorter z, h))).1)
