use Rattle.drv_words.specs.Bytes as ascii
use Rattle.drv_syntax.proofs.Leads.{mark_word, asked_head, no_sign, no_white, pattern_head, no_colon, sign_head, differs, each, other, same}
use Rattle.drv_syntax.proofs.Leads.{bracket_ends}
use Rattle.drv_syntax.proofs.Here.{function_on, here, one, pattern_shorter, quoted_is, quoted_shorter, spaces_on, spaces_shorter, run_is}
use Rattle.drv_syntax.proofs.Here.{run_place}
use Rattle.drv_syntax.proofs.ItemsRead.{default_on, first_on, later_on, later_turn, next_on, no_default, x_from, x_is, Inner, directive_on}
use Rattle.drv_syntax.proofs.ItemsRead.{item_on, turn}
use Rattle.drv_syntax.proofs.Shorter.{Loops, asked_shorter, loop_ends, sign_shorter, item_shorter, items_shorter, tests_shorter}
use Rattle.drv_syntax.proofs.Swaps.{any, filled, run_moved, swaps_back, swaps_end}
use Rattle.drv_syntax.proofs.TestsRead.{and_on, and_turn, bare_is, emits_on, pattern_on, starred_is, ListReads, asked_is, asked_operand}
use Rattle.drv_syntax.proofs.TestsRead.{bar_on, bar_turn, call_on, mark_on, marked_is, result_on, result_is, switch_is, switch_on, test_on}
use Rattle.drv_syntax.proofs.TestsRead.{tried_is}
use Rattle.drv_syntax.specs.Bytes.{is_function, is_function_front, is_mark, is_of, is_white, is_word, is_name_byte, is_option}
use Rattle.drv_syntax.specs.Contexts.{ListContext, in_arguments, in_braces, in_x}
use Rattle.drv_syntax.specs.Descent as d
use Rattle.drv_syntax.specs.Descent.{Fails, Lists, Operand, Stops, Took, Tried, then_read}
use Rattle.drv_syntax.specs.Directives.{directive_of, is_allowed}
use Rattle.drv_syntax.specs.Refusals as r
use Rattle.drv_syntax.specs.Refusals.{AtBar, AtFront, Due, Empty, Order, Reaches, ReachesEmits, ReachesPatterns, ReachesTests, Refuses}
use Rattle.drv_syntax.specs.Refusals.{ReachesChoices, ReachesIn, ReachesLater, nests, ends_either, ends_pattern, ends_test, may_emit}
use Rattle.drv_syntax.specs.Refusals.{AnItem, AtNext, Breaks, ReachesAsked, ReachesBrace}
use Rattle.drv_syntax.specs.Rest.{after}
use Rattle.drv_syntax.specs.Spelling as s
use Rattle.drv_syntax.specs.Spelling.{AreSpaces, IsAsked, IsPattern, IsQuoted, IsSign, At, IsRun}
use Rattle.drv_syntax.specs.Tree.{Asked, HasResult, Items, Pattern, Span, pattern, Function, NamedText, Tests}
use Rattle.drv_syntax.specs.declared.directives.Directive.TheVariants.{Named, Nowhere, OfStar, Whole, WithBraces, WithCall}
use Rattle.drv_syntax.specs.declared.directives.Directive.TheVariants.{WithMarkedBraces, WithName, WithOption, WithPattern, WithSaying}
use Rattle.drv_syntax.specs.declared.directives.Directive.TheVariants.{WithSuffix}
use Rattle.drv_syntax.specs.declared.directives.Directive.{Directive}
use Rattle.drv_syntax.specs.declared.fault.SyntaxFault.TheVariants.{BadDirective, EmptyTest, UnknownFunction, TooNested}
use Rattle.drv_syntax.specs.declared.fault.SyntaxFault.{SyntaxFault}
use Rattle.std.proofs.Common.{inr, length, length-append, refl, subst, suc, sym, ℕ, ◌≡◌, ◌≤◌, ◌∙◌, ◌+◌, ◌++◌, ◌⊎◌, Bool, false, true}
use Rattle.std.proofs.Common.{if◌then◌else◌, List, [], ◌∷◌, ap, append_assoc, arith, inl}
use Rattle.std.proofs.lemmas.Bool.Decides.{nat_tests}
use Rattle.std.specs.List.{prefix_len}
use Rattle.std.specs.Prelude.{◌-◌, ◌==◌, None, nat_le}

-- Where a byte in braces doesn't fit, Descent stops at it: tests and patterns. It serves the law `refusal_kinds`. `Reaches.. t due last`
-- says that the text t leads to a place where `due` is due, and leaves `last` there. `Refuses` says that `last` ends in a byte that doesn't
-- fit there (specs/Refusals). k is the place of that byte, and q is what follows it. A mark is the `.` or `,` of a test.
-- Names: `t`, `u`, `v`, `q`, `w`: what is left of the text, from step to step. `b`: a byte. `at`: the place of the directive's `%`. `c`:
-- where the list is, and what is around it. `deep`, `lists`: how lists inside are read. `k`: a place in the text. `f`: a directive.
-- `order`: the place of a test in its braces. `mark`: the `.` or `,` of a test. `here`: what is left of the text where these bytes are
-- left. `spaces_shorter`: white space takes bytes of the text alone. `may_emit`: whether the braces may still be patterns at a test in this
-- place, with a ! or without. `is_of`: the byte is one of these. `is_white`: a space, a tab or a newline. `AreSpaces`: the text begins with
-- white space, or with none. `Loops`: a loop from this rest on gives r, with any number of turns that is enough. `in_braces`: the context
-- in the braces of a list, before the colon of an alternative. `differs`: true is not false, so a case in which they are equal can't arise.
-- `IsSign`: a test's ! and the white space after it, or none. `unspaced`, `asking`, `behind`: the text without the white space before it,
-- from what a test asks on, and after that. `own`: the place of a function's own %. The number 40 is the byte (.

-- a byte that f doesn't allow differs from one that f allows
pub unlike : (f : ℕ → Bool) (b x : ℕ) → f b ≡ false → f x ≡ true → (b == x) ≡ false
unlike f b x h g = by (b == x) refl
  where
    by : (z : Bool) → (b == x) ≡ z → (b == x) ≡ false
    by true e = differs (sym (ap f (same b x e) ∙ g) ∙ h)
    by false e = e

-- after a mark that is a pattern alone comes neither a byte of a word, nor a backslash, nor a star
after_mark_byte : {mark first b x : ℕ} {t u : List ℕ} → IsPattern (mark ∷ b ∷ t) (pattern (first ∷ []) false) (x ∷ u) → length t ≡ length u
    → Empty b
after_mark_byte (s.unstarred (s.quoted_byte e g (s.quoted_stop f h)) (s.at_byte i)) l = (f, h, i)
after_mark_byte (s.unstarred (s.quoted_escape i) e) l = absurd (omega (arith, quoted_shorter i, l))

-- what is known of the byte after a test in braces whose directive's % has the place `at`
module _ (at : ℕ) (order : Order) (place : Span) (negated : Bool) (o : Operand) (b : ℕ) where
  -- the test with this byte after it
  abbrev tried : Tried
  tried = record { place = place; negated = negated; operand = o; byte = b }

  -- a byte that ends neither a test nor a pattern doesn't fit
  none_fits : is_of ends_either b ≡ false → d.decided at order tried ≡ Fails (BadDirective at)
  none_fits h = rw (
    unlike (is_of ends_either) b ascii.closing_brace h refl,
    unlike (is_of ends_either) b ascii.ampersand h refl,
    unlike (is_of ends_either) b ascii.colon h refl,
    unlike (is_of ends_either) b ascii.bar h refl,
  ) refl

  -- after what can be no pattern, a byte that ends no test doesn't fit
  no_pattern_fits : is_of ends_test b ≡ false → (may_emit order negated ≡ false) ⊎ (o.as_pattern ≡ None)
      → d.decided at order tried ≡ Fails (BadDirective at)
  no_pattern_fits h p = rw (unlike (is_of ends_test) b ascii.colon h refl, unlike (is_of ends_test) b ascii.bar h refl)
      (by (b == ascii.closing_brace) (b == ascii.ampersand))
    where
      -- Plan: by what the byte ends (`by`); neither a pattern (`never`) nor a test fits (`either`).
      never : (goes : Span × Pattern → d.After) → (may_emit order negated ≡ false) ⊎ (o.as_pattern ≡ None)
          → d.as_pattern at place (may_emit order negated) o.as_pattern goes ≡ Fails (BadDirective at)
      never goes (inl e) = rw e refl
      never goes (inr e) = rw e (either (may_emit order negated))
        where
          either : (z : Bool) → d.as_pattern at place z None goes ≡ Fails (BadDirective at)
          either true = refl
          either false = refl

      by : (x y : Bool) → (if x then d.as_pattern at place (may_emit order negated) o.as_pattern d.Emits
          else if y then d.as_pattern at place (may_emit order negated) o.as_pattern d.Joins else Fails (BadDirective at))
          ≡ Fails (BadDirective at)
      by true y = never d.Emits p
      by false true = never d.Joins p
      by false false = refl

-- in a text of which the last byte, at the place k, doesn't fit, and more bytes follow
module _ (k : ℕ) (q : List ℕ) where
  -- the size of the whole text
  abbrev pub whole : ℕ
  whole = k + 1 + length q

  -- the place of the last byte
  pub last_at : whole - suc (length q) ≡ k
  last_at = omega arith

  -- where this is due, the byte at the place k doesn't fit, and q follows it
  pub data StopsAt (due : Due) : List ℕ → SyntaxFault → Type 0 where
    stops_at : {last : List ℕ} {fault : SyntaxFault} → Refuses (k + 1) due last fault → StopsAt due (last ++ q) fault

  -- where what a test asks is due and a byte doesn't fit, no white space is there
  pub due_white : {c : ListContext} {at : ℕ} {order : Order} {negated : Bool} {u : List ℕ} {fault : SyntaxFault}
      → StopsAt (r.ATest c at order negated) u fault → s.Stops is_white u
  due_white (stops_at (r.test_within_all p e)) = s.at_byte refl
  due_white (stops_at (r.test_no_function p e h)) = s.at_byte refl
  due_white (stops_at (r.no_test_there h w e f)) = s.at_byte w
  due_white (stops_at (r.no_call p e f)) = s.at_byte refl

  -- all lists with this context stop at the byte that doesn't fit
  abbrev pub ListStops : Lists → ListContext → Type 0
  ListStops lists c = (t u : List ℕ) (due : Due) (fault : SyntaxFault) → Reaches whole c t due u → StopsAt due u fault
      → length t ≤ whole → lists c (here whole t) ≡ Stops k fault

  -- a byte that begins no pattern is refused where one is due
  pub pattern_stops : (at b : ℕ) → Empty b → d.pattern_at at (here whole (b ∷ q)) ≡ Stops k (EmptyTest at)
  pattern_stops at b e = rw (quoted_is whole (s.quoted_stop {rest = q} e.0 e.1) (omega arith), e.2, last_at) refl

  -- after the front of a function's name, Descent goes on with the byte that doesn't fit
  function_at : (n : ℕ) (name : List ℕ) (b : ℕ) → is_function_front name ≡ true → is_function_front (name ++ b ∷ []) ≡ false
      → length (name ++ b ∷ []) ≤ k + 1 → d.function n (here whole ((name ++ b ∷ []) ++ q)) ≡ d.function_end n name (here whole (b ∷ q))
  function_at n name b is e h =
      let i = append_assoc name (b ∷ []) q in
      subst (λ (u : List ℕ). d.function n (here whole u) ≡ d.function_end n name (here whole (b ∷ q))) (sym i)
      (function_on whole name (b ∷ q) n is e (omega (arith, length-append name (b ∷ []), length-append name (b ∷ q), h)))

  -- after a name that is no function's, Descent stops at the byte that doesn't fit
  pub function_stops : {last : List ℕ} (n : ℕ) → r.IsNoFunction last → length last ≤ k + 1
      → d.function n (here whole (last ++ q)) ≡ Stops (whole - suc (length q)) (UnknownFunction n)
  function_stops n (r.not_a_front name b is e g) h = rw (function_at n name b is e h, g) refl
  function_stops n (r.not_a_name name is e) h = rw (function_at n name 40 is (bracket_ends name) h, e) refl

  -- in a call's arguments, Descent stops at the byte that doesn't fit
  pub call_stops : {X : Type 0} (make : List ℕ → Items → X)
      (lists : Lists) (c : ListContext) (at own : ℕ) (name : List ℕ) {t last : List ℕ} {due : Due} {fault : SyntaxFault}
      → ListStops lists (in_arguments c) → is_function name ≡ true → Reaches whole (in_arguments c) t due last → StopsAt due last fault
      → length (name ++ 40 ∷ t) ≤ whole → d.call_as make lists c at own (here whole (name ++ 40 ∷ t)) ≡ Stops k fault
  call_stops make lists c at own name {t} {last} {due} {fault} stops is o f h =
      rw (call_on whole make lists c at own name t is h, stops t last due fault o f (omega (arith, length-append name (40 ∷ t), h))) refl

  -- in patterns after an ampersand, Descent stops at the byte that doesn't fit
  pub patterns_stop : {at : ℕ} {due : Due} {t u : List ℕ} {fault : SyntaxFault} → ReachesPatterns at t due u → StopsAt due u fault
      → length t ≤ whole → Loops (and_turn whole at) (here whole t) (Stops k fault)
  patterns_stop {at} {t = t} (r.pattern_due sp) (stops_at (r.no_pattern {b = b} e w)) h =
      let m = spaces_on whole sp (s.at_byte w) h in loop_ends (λ goes. rw (m.0, m.1, pattern_stops at b e) refl)
  patterns_stop {at} {t = t} (r.pattern_ends sp i z) (stops_at (r.no_end {b = b} w e)) h = loop_ends (λ goes. rw (
    pattern_on whole at sp i z w h,
    unlike (is_of ends_pattern) b ascii.closing_brace e refl,
    unlike (is_of ends_pattern) b ascii.ampersand e refl,
    last_at,
  ) refl)
  patterns_stop {at} {t = t} (r.after_and {w = w} sp i z o) f h = and_on whole at sp i z h
      (patterns_stop o f (omega (arith, spaces_shorter sp, pattern_shorter i, spaces_shorter z, h)))

  -- the braces of a directive whose % has the place `at`, in a list with the context c, where the arguments of tests are read
  module _ (deep : Lists) (c : ListContext) (at : ℕ)
      (deeper : (c.levels - 1 == 0) ≡ false → ListReads whole deep (in_arguments (in_braces c))) where
    -- tests stop at the byte that doesn't fit: at the front of an alternative, and after a bar
    abbrev pub Stopped : Order → List ℕ → SyntaxFault → Type 0
    Stopped order t fault = (d.form deep c at order (here whole t) ≡ Stops k fault)
        × (order ≡ AtBar → Loops (bar_turn whole deep c at deeper) (here whole t) (Stops k fault))

    -- white space before a test in this place of the braces, and its sign
    module _ (order : Order) {t u v : List ℕ} {negated : Bool} (sp : AreSpaces t u) (sign : IsSign u negated v)
        (w : s.Stops is_white v) (h : length t ≤ whole) where
      -- where Descent stops in what a test asks, it stops there in the tests
      asking_stops : {fault : SyntaxFault} → d.asked deep c at (may_emit order negated) (here whole v) ≡ Stops k fault → Stopped order t
          fault
      asking_stops {fault} e = (
        rw one_stops refl,
        λ i. loop_ends (λ goes. subst (λ (o : Order). then_read (then_read (d.one_test deep c at o (here whole t))
            (λ t end. d.test_turn at (d.decided at o t) end)) (d.after_turn goes) ≡ Stops k fault) i (rw one_stops refl)),
      )
        where
          one_stops : d.one_test deep c at order (here whole t) ≡ Stops k fault
          one_stops = rw (test_on whole deep c at order sp sign w h, e) refl

      -- where a test is read and the byte after it doesn't fit, Descent stops at that byte
      tested_stops : {o : Operand} {x : List ℕ} {b : ℕ} {fault : SyntaxFault}
          → d.asked deep c at (may_emit order negated) (here whole v) ≡ Took o (here whole x) → AreSpaces x (b ∷ q) → is_white b ≡ false
          → ((place : Span) → d.decided at order (tried at order place negated o b) ≡ Fails fault) → length x ≤ whole → Stopped order t
          fault
      tested_stops {o} {x} {b} {fault} e z white f l = (
        rw (m, f place, last_at) refl,
        λ i. loop_ends (λ goes. subst (λ (o : Order). then_read (then_read (d.one_test deep c at o (here whole t))
            (λ t end. d.test_turn at (d.decided at o t) end)) (d.after_turn goes) ≡ Stops k fault) i (rw (m, f place, last_at) refl)),
      )
        where
          place : Span
          place = record { start = whole - length u; end = whole - length x }

          m : d.one_test deep c at order (here whole t) ≡ Took (tried at order place negated o b) (here whole (b ∷ q))
          m = tried_is whole deep c at order sp sign w e z white h l

    -- where braces begin with a mark, white space and a ! don't come next
    mark_sign : {mark : ℕ} {u : List ℕ} → is_mark mark ≡ true → IsSign (mark ∷ u) false (mark ∷ u)
    mark_sign {mark} m = s.plain_sign (s.at_byte (no_sign.word mark (mark_word mark m)))

    -- a mark is no white space
    mark_white : {mark : ℕ} {u : List ℕ} → is_mark mark ≡ true → s.Stops is_white (mark ∷ u)
    mark_white {mark} m = s.at_byte (no_white.word mark (mark_word mark m))

    -- after a mark, a byte that begins neither a word nor an end of a pattern is refused
    alone_stops : (mark b : ℕ) → Empty b → is_white b ≡ false → is_of ends_pattern b ≡ false
        → d.mark_text at true mark (here whole (b ∷ q)) ≡ Stops k (EmptyTest at)
    alone_stops mark b y w e =
        rw (
          quoted_is whole (s.quoted_stop {rest = q} y.0 y.1) (omega arith),
          y.2,
          unlike (is_of ends_pattern) b ascii.closing_brace e refl,
          unlike (is_of ends_pattern) b ascii.ampersand e refl,
          w,
          last_at,
        ) refl

    -- in braces that are patterns or may still be, Descent stops at the byte that doesn't fit
    pub emits_stop : {due : Due} {t u : List ℕ} {fault : SyntaxFault} → ReachesEmits at t due u → StopsAt due u fault
        → length t ≤ whole → d.form deep c at AtFront (here whole t) ≡ Stops k fault
    emits_stop (r.starred_ends sp m (s.starred (s.quoted_stop e g)) z) f h = differs (sym m)
    emits_stop (r.starred_ends sp m (s.starred (s.quoted_escape i)) z) f h = differs (sym m)
    emits_stop (r.starred_ends {mark = mark} {u = u} {v = v} sp m (s.starred (s.quoted_byte {run = word} e g i)) z)
        (stops_at (r.no_end {b = b} w x)) h = (tested_stops AtFront sp (mark_sign m) (mark_white m) h
        (starred_is whole at deep c mark word m i (omega (arith, spaces_shorter sp, h)))
        z w bad (omega (arith, spaces_shorter sp, quoted_shorter i, h))).0
      where
        -- after a starred word with a mark, a byte that ends no pattern doesn't fit
        bad : (place : Span) → d.decided at AtFront (tried at AtFront place false (d.starred_operand mark word) b) ≡ Fails (BadDirective at)
        bad place = rw (unlike (is_of ends_pattern) b ascii.closing_brace x refl, unlike (is_of ends_pattern) b ascii.ampersand x refl)
            (by (b == ascii.colon) (b == ascii.bar))
          where
            by : (colon bar : Bool)
                → (if colon then Fails (BadDirective at) else if bar then Fails (BadDirective at) else Fails (BadDirective at))
                ≡ Fails (BadDirective at)
            by true bar = refl
            by false true = refl
            by false false = refl
    emits_stop (r.after_mark {mark = mark} sp m i) (stops_at (r.mark_alone {b = b} w e)) h =
        (asking_stops AtFront sp (mark_sign m) (mark_white m) h
        (mark_on whole deep c at true mark (b ∷ q) m (omega (arith, spaces_shorter sp, h)) ∙ alone_stops mark b (after_mark_byte i refl) w
        e)).0
    emits_stop {t = t} {fault = fault} (r.past_mark {mark = mark} {b = b} {u = u} sp m white z) f h = by f z
      where
        -- the same for a byte after white space
        past : {fault : SyntaxFault} (byte : ℕ) → AreSpaces u (byte ∷ q) → is_white byte ≡ false
            → ((place : Span) → d.decided at AtFront (tried at AtFront place false (d.bare_operand mark) byte) ≡ Fails fault)
            → d.form deep c at AtFront (here whole t) ≡ Stops k fault
        past byte z w g =
            let n : is_word b ≡ false =
            each (λ byte. is_word byte ≡ false) (ascii.space ∷ ascii.tab ∷ ascii.newline ∷ []) b white (refl, (refl, (refl, tt))) in
            let e : d.ends_bare b ≡ true =
            rw (other is_white b ascii.closing_brace white refl, other is_white b ascii.ampersand white refl, white) refl in
            let l : length (mark ∷ b ∷ u) ≤ whole = omega (arith, spaces_shorter sp, h) in
            (tested_stops AtFront sp (mark_sign m) (mark_white m) h (bare_is whole at deep c mark b u m
            (s.quoted_stop (other is_white b ascii.backslash white refl) n) (other is_white b ascii.asterisk white refl) e l)
            (s.space white z) w g (omega (arith, l))).0

        by : {v : List ℕ} {fault : SyntaxFault} → StopsAt (r.PastMark at) v fault → AreSpaces u v
            → d.form deep c at AtFront (here whole t) ≡ Stops k fault
        by (stops_at (r.mark_is_no_test {b = x} e)) z =
            past x z (each (λ x. is_white x ≡ false) (ascii.colon ∷ ascii.bar ∷ []) x e (refl, (refl, tt)))
            (λ place. each (λ x. d.decided at AtFront (tried at AtFront place false (d.bare_operand mark) x) ≡ Fails (EmptyTest at))
            (ascii.colon ∷ ascii.bar ∷ []) x e (refl, (refl, tt)))
        by (stops_at (r.no_end_past_mark {b = x} w e)) z = past x z w (λ place. none_fits at AtFront place false (d.bare_operand mark) x e)
    emits_stop {t = t} (r.after_first {w = w} sp i z o) f h = (emits_on whole at deep c sp i z h
        (patterns_stop o f (omega (arith, spaces_shorter sp, pattern_shorter i, spaces_shorter z, h)))).0

    -- tests

    -- the arguments of tests stop at the byte that doesn't fit
    module _ (stops : (c.levels - 1 == 0) ≡ false → ListStops deep (in_arguments (in_braces c))) where
      -- where what a test asks is due, Descent stops at the byte that doesn't fit
      due_stops : {order : Order} {negated : Bool} {u : List ℕ} {fault : SyntaxFault}
          → StopsAt (r.ATest (in_braces c) at order negated) u fault → length u ≤ whole
          → d.asked deep c at (may_emit order negated) (here whole u) ≡ Stops k fault
      due_stops (stops_at (r.test_within_all {n = n} p e)) h = let j : k ≡ n = omega (arith, p) in rw (e, last_at, j) refl
      due_stops {order} {negated} (stops_at (r.test_no_function {n = n} {last = last} p e i)) h =
          let j : whole - suc (suc (length (last ++ q))) ≡ n = omega (arith, p, length-append last q) in rw (
            result_on whole deep c at (may_emit order negated) (last ++ q) e (omega (arith, length-append last q, h)),
            j,
            function_stops n i (omega (arith, h)),
            last_at,
          ) refl
      due_stops {order} {negated} (stops_at (r.no_test_there {b = b} y w e f)) h =
          rw (
            switch_on whole deep c at (may_emit order negated) (b ∷ q) (s.at_byte (unmarked (is_mark b) refl)) (s.at_byte e),
            pattern_stops at b y,
          ) refl
        where
          -- a byte of no word is no mark
          unmarked : (z : Bool) → is_mark b ≡ z → is_mark b ≡ false
          unmarked true m = differs (sym (mark_word b m) ∙ y.1)
          unmarked false m = m
      due_stops (stops_at (r.no_call {n = n} {b = b} p e f)) h =
          let j : whole - suc (suc (length q)) ≡ n = omega (arith, p) in rw (e, one whole (b ∷ q) (omega (arith, h)), f, last_at, j) refl

      -- after a mark, a byte that begins no word is refused where the braces can't be patterns
      word_stops : {emits : Bool} (mark b : ℕ) → emits ≡ false → (b == ascii.backslash) ≡ false → is_word b ≡ false
          → d.mark_text at emits mark (here whole (b ∷ q)) ≡ Stops k (EmptyTest at)
      word_stops mark b e f g = rw (quoted_is whole (s.quoted_stop {rest = q} f g) (omega arith), e, last_at) refl

      -- a star after a mark and its word is refused where the braces can't be patterns
      star_stops : {emits : Bool} {u word : List ℕ} {x : ℕ} (mark : ℕ) → emits ≡ false → is_mark mark ≡ true → IsQuoted is_word u (x ∷ word)
          (ascii.asterisk ∷ q) → suc (length u) ≤ whole → d.asked deep c at emits (here whole (mark ∷ u)) ≡ Stops k (BadDirective at)
      star_stops {emits} {u} mark e m i h =
          rw (mark_on whole deep c at emits mark u m h, quoted_is whole i (omega (arith, h)), e, last_at) refl

      -- white space and the byte after a test begin with no star, or that byte is a star without white space before it
      star_or : {w : List ℕ} {b : ℕ} → AreSpaces w (b ∷ q) → s.Stops (λ x. x == ascii.asterisk) w ⊎ (w ≡ ascii.asterisk ∷ q)
      star_or (s.space {b = x} h i) = inl (s.at_byte (other is_white x ascii.asterisk h refl))
      star_or {b = b} s.no_space = by (b == ascii.asterisk) refl
        where
          by : (x : Bool) → (b == ascii.asterisk) ≡ x → s.Stops (λ x. x == ascii.asterisk) (b ∷ q) ⊎ (b ∷ q ≡ ascii.asterisk ∷ q)
          by true e = inr (ap (λ (y : ℕ). y ∷ q) (same b ascii.asterisk e))
          by false e = inl (s.at_byte e)

      -- after a test by the grammar that can be no pattern, Descent stops at a byte that ends no test
      asked_ends : {order : Order} {t unspaced asking x : List ℕ} {negated : Bool} {asked : Asked} {b : ℕ}
          → AreSpaces t unspaced → IsSign unspaced negated asking
          → may_emit order negated ≡ false → IsAsked whole (in_braces c) asking asked x → AreSpaces x (b ∷ q)
          → is_white b ≡ false → is_of ends_test b ≡ false → length t ≤ whole → length asking ≤ whole → Stopped order t (BadDirective at)
      asked_ends {order} {t} {unspaced} {asking} {x} {negated} {asked} {b} sp sign e i z w y h l =
          by sign i (star_or z) (omega (arith, asked_shorter i, l)) l
        where
          -- Plan: by what the test asks.
          by : {asking : List ℕ} {asked : Asked} → IsSign unspaced negated asking → IsAsked whole (in_braces c) asking asked x
              → s.Stops (λ x. x == ascii.asterisk) x ⊎ (x ≡ ascii.asterisk ∷ q) → length x ≤ whole → length asking ≤ whole
              → Stopped order t (BadDirective at)
          by {asked = asked} sign i (inl f) n l = tested_stops order sp sign (asked_head no_white refl i) h
              (asked_is whole deep c at deeper (may_emit order negated) i f l) z w
              (λ place. no_pattern_fits at order place negated (asked_operand asked) b y (inl e)) n
          by sign (s.switch {p = p} g i) (inr f) n l = tested_stops order sp sign (pattern_head no_white i) h
              (switch_is whole deep c at (may_emit order negated) g i l) z w
              (λ place. no_pattern_fits at order place negated (d.switch_operand p) b y (inl e)) n
          by sign (s.suffix {b = m} {text = u} {word = word} i) (inr f) n l = asking_stops order sp sign (s.at_byte refl) h
              (star_stops ascii.period e refl (subst (λ (x : List ℕ). IsQuoted is_word u (m ∷ word) x) f i) l)
          by sign (s.language {b = m} {text = u} {word = word} i) (inr f) n l = asking_stops order sp sign (s.at_byte refl) h
              (star_stops ascii.comma e refl (subst (λ (x : List ℕ). IsQuoted is_word u (m ∷ word) x) f i) l)
          by sign (s.result {name = name} {arguments = items} i) (inr f) n l = tested_stops order sp sign (s.at_byte refl) h
              (result_is whole deep c at deeper (may_emit order negated) i l) z w
              (λ place. no_pattern_fits at order place negated (d.result_operand name items) b y (inl e)) n

      -- in tests, Descent stops at the byte that doesn't fit
      pub tests_stop : {order : Order} {t u : List ℕ} {due : Due} {fault : SyntaxFault}
          → ReachesTests whole (in_braces c) at order t due u → StopsAt due u fault → length t ≤ whole → Stopped order t fault
      tests_stop {order} (r.in_test {v = v} sp sign r.asked_due) f h = asking_stops order sp sign (due_white f) h
          (due_stops f (omega (arith, spaces_shorter sp, sign_shorter sign, h)))
      tests_stop {order} (r.in_test {negated = negated} sp sign (r.word_due {mark = mark} e m)) (stops_at (r.no_word {b = b} f g)) h =
          asking_stops order sp sign (mark_white m) h
          (mark_on whole deep c at (may_emit order negated) mark (b ∷ q) m (omega (arith, spaces_shorter sp, sign_shorter sign, h)) ∙
          word_stops mark b e f g)
      tests_stop {order} {due = due} (r.in_test {negated = negated} sp sign (r.in_function {text = text} name e is o)) f h =
          let l : suc (suc (length (name ++ 40 ∷ text))) ≤ whole = omega (arith, spaces_shorter sp, sign_shorter sign, h) in
          asking_stops order sp sign (s.at_byte refl) h (result_on whole deep c at (may_emit order negated) (name ++ 40 ∷ text) e l
          ∙ call_stops d.result_operand deep (in_braces c) at _ name (stops e) is o f (omega (arith, l)))
      tests_stop {order} (r.in_test {negated = negated} sp sign (r.test_ends {text = v} e i z)) (stops_at (r.no_end w x)) h =
          asked_ends sp sign e i z w x h (omega (arith, spaces_shorter sp, sign_shorter sign, h))
      tests_stop {order} {t} (r.in_test {u = u} {negated = negated} sp sign (r.call_ends {text = v} {mid = mid} i z))
          (stops_at (r.no_end {b = b} w x)) h =
          let l : length v ≤ whole = omega (arith, spaces_shorter sp, sign_shorter sign, h) in
          by sign i l (omega (arith, asked_shorter i, l))
        where
          by : {v : List ℕ} {name : List ℕ} {items : Items} → IsSign u negated v → IsAsked whole (in_braces c) v (HasResult name items) mid
              → length v ≤ whole → length mid ≤ whole → Stopped order t (BadDirective at)
          by {name = name} {items} sign (s.result i) l n = tested_stops order sp sign (s.at_byte refl) h
              (result_is whole deep c at deeper (may_emit order negated) i l) z w
              (λ place. no_pattern_fits at order place negated (d.result_operand name items) b x (inr refl)) n
      tests_stop (r.in_test sp sign (r.switch_ends {text = v} {mid = mid} {p = p} e i z)) (stops_at (r.no_end {b = b} w x)) h =
          let l : length v ≤ whole = omega (arith, spaces_shorter sp, sign_shorter sign, h) in
          tested_stops AtFront sp sign (pattern_head no_white i) h (switch_is whole deep c at true e i l) z w
          (λ place. none_fits at AtFront place false (d.switch_operand p) b x) (omega (arith, pattern_shorter i, l))
      tests_stop (r.in_test sp sign (r.marked_ends {mark = mark} {b = y} {text = v} {mid = mid} {word = word} m i e z))
          (stops_at (r.no_end {b = b} w x)) h =
          let l : suc (length v) ≤ whole = omega (arith, spaces_shorter sp, sign_shorter sign, h) in
          tested_stops AtFront sp sign (mark_white m) h (marked_is whole deep c at true mark m i e l) z w
          (λ place. none_fits at AtFront place false (d.marked_operand mark (y ∷ word)) b x) (omega (arith, quoted_shorter i, l))
      tests_stop {order} {t} (r.after_bar {x = x} sp sign i z o) f h = let m = bar_on whole deep c at deeper sp sign i h z
          ((tests_stop o f (omega (arith, spaces_shorter sp, sign_shorter sign, asked_shorter i, spaces_shorter z, h))).1 refl) in
          (m.0 order, λ y. m.1)

-- Where a byte doesn't fit, Descent stops at it: braces, directives and lists. It serves the law `refusal_kinds`. k is the place of that
-- byte, and q is what follows it (TestsStop).

-- a run is counted as a run of at least its bytes, whatever follows it
run_counted : {f : ℕ → Bool} {t run u : List ℕ} (q : List ℕ) → IsRun f t run u → length run ≤ prefix_len f (t ++ q)
run_counted q (s.run_ends h) = omega arith
run_counted q (s.run_goes e i) = rw e (omega (arith, run_counted q i))

-- a test of an alternative after the first that leads to a byte that doesn't fit begins with neither white space nor a colon
no_colon_first : (k : ℕ) (q : List ℕ) {at : ℕ} {c : ListContext} {t last : List ℕ} {due : Due} {fault : SyntaxFault}
    → ReachesTests (whole k q) c at AtNext t due last → StopsAt k q due last fault
    → (unspaced : List ℕ) × AreSpaces t unspaced × s.Stops is_white unspaced × s.Stops (λ b. b == ascii.colon) unspaced
no_colon_first k q {at} {c} (r.in_test {u = unspaced} sp sign o) f = let m = by sign o f in (unspaced, sp, m.0, m.1)
  where
    -- Plan: by the sign of the test (`by`); a test that is due begins with no colon (`due_colon`).
    due_colon : {last : List ℕ} {fault : SyntaxFault}
        → StopsAt k q (r.ATest c at AtNext false) last fault → s.Stops (λ b. b == ascii.colon) last
    due_colon (stops_at (r.test_within_all p e)) = s.at_byte refl
    due_colon (stops_at (r.test_no_function p e h)) = s.at_byte refl
    due_colon (stops_at (r.no_test_there h w e f)) = s.at_byte f
    due_colon (stops_at (r.no_call p e f)) = s.at_byte refl

    by : {unspaced asking last : List ℕ} {negated : Bool} {due : Due} {fault : SyntaxFault}
        → IsSign unspaced negated asking → ReachesAsked (whole k q) c at AtNext negated asking due last
        → StopsAt k q due last fault → s.Stops is_white unspaced × s.Stops (λ b. b == ascii.colon) unspaced
    by (s.not_sign i) o f = (s.at_byte refl, s.at_byte refl)
    by (s.plain_sign x) r.asked_due f = (due_white k q f, due_colon f)
    by (s.plain_sign x) (r.word_due {mark = mark} e m) f =
        (s.at_byte (no_white.word mark (mark_word mark m)), s.at_byte (no_colon.word mark (mark_word mark m)))
    by (s.plain_sign x) (r.in_function name e is o) f = (s.at_byte refl, s.at_byte refl)
    by (s.plain_sign x) (r.test_ends e i z) f = (asked_head no_white refl i, asked_head no_colon refl i)
    by (s.plain_sign x) (r.call_ends i z) f = (asked_head no_white refl i, asked_head no_colon refl i)
no_colon_first k q (r.after_bar {u = unspaced} sp sign i z o) f =
    (unspaced, sp, sign_head sign (asked_head no_white refl i) refl, sign_head sign (asked_head no_colon refl i) refl)

module _ (k : ℕ) (q : List ℕ) (lists deep : Lists) (c : ListContext) (known : Inner (whole k q) lists deep c)
    (arguments_stop : (c.levels == 0) ≡ false → ListStops k q lists (in_arguments c))
    (x_stops : (c.levels == 0) ≡ false → (tests : Tests) → ListStops k q lists (in_x (in_braces c) tests))
    (deeper_stops : (c.levels - 1 == 0) ≡ false → ListStops k q deep (in_arguments (in_braces c))) where
  -- the size of the whole text
  abbrev size : ℕ
  size = whole k q

  -- in braces whose directive's % has the place `at`, with a level left for what is in them
  module _ (at : ℕ) (level : (c.levels == 0) ≡ false) where
    -- in an X, Descent stops at the byte that doesn't fit
    x_stop : (tests : Tests) {mid u : List ℕ} {due : Due} {fault : SyntaxFault} → Reaches size (in_x (in_braces c) tests) mid due u
        → StopsAt k q due u fault → length mid ≤ size → x_from size lists deep c at tests mid ≡ Stops k fault
    x_stop tests {mid} {u} {due} {fault} o f h = rw (x_stops level tests mid u due fault o f h) refl

    -- where the end of the braces is due, a byte doesn't fit for this fault
    no_more : {u : List ℕ} {fault : SyntaxFault} → StopsAt k q (r.NoMore at) u fault → (fault ≡ EmptyTest at) × (length u ≡ suc (length q))
    no_more (stops_at r.default_goes_on) = (refl, refl)

    mutual
      -- in alternatives after the first, Descent stops at the byte that doesn't fit
      later_stop : {t u : List ℕ} {due : Due} {fault : SyntaxFault} → StopsAt k q due u fault → ReachesLater size (in_braces c) at t due u
          → length t ≤ size → Loops (later_turn size lists deep c at) (here size t) (Stops k fault)
      later_stop f (r.after_default {rest = rest} sp l) h =
          let n = no_more f in let place : size - suc (length rest) ≡ k = omega (arith, n.1) in loop_ends (λ goes. rw (
            default_on size lists deep c at sp h,
            x_is size lists deep c at known.deeper (known.xs level) _ l (omega (arith, spaces_shorter sp, h)),
            place,
            n.0,
          ) refl)
      later_stop f (r.to_next o) h = more_stop o f h
      later_stop f (r.to_default {mid = mid} sp o) h =
          loop_ends (λ goes. rw (default_on size lists deep c at sp h, x_stop _ o f (omega (arith, spaces_shorter sp, h))) refl)

      -- in alternatives with tests, Descent stops at the byte that doesn't fit
      more_stop : {t u : List ℕ} {due : Due} {fault : SyntaxFault} → ReachesChoices size (in_braces c) at AtNext t due u
          → StopsAt k q due u fault → length t ≤ size → Loops (later_turn size lists deep c at) (here size t) (Stops k fault)
      more_stop (r.to_tests o) f h =
          let m = no_colon_first k q o f in loop_ends (λ goes. rw (
            no_default size lists deep c at m.1 m.2 m.3 h,
            (tests_stop k q deep c at known.deeper deeper_stops o f h).0,
          ) refl)
      more_stop (r.to_x i o) f h = loop_ends
          (λ goes. rw (later_on size lists deep c at known.deeper i h, x_stop _ o f (omega (arith, tests_shorter i, h))) refl)
      more_stop (r.after_x i l o) f h = (next_on size lists deep c at known.deeper (known.xs level) i l h
          (later_stop f o (omega (arith, tests_shorter i, items_shorter l, h)))).1

    -- in braces, Descent stops at the byte that doesn't fit
    brace_stop : {t u : List ℕ} {due : Due} {fault : SyntaxFault} → ReachesBrace size (in_braces c) at t due u
        → StopsAt k q due u fault → length t ≤ size → d.choices lists deep c at (here size t) ≡ Stops k fault
    brace_stop (r.in_emits o) f h = rw (emits_stop k q deep c at known.deeper o f h) refl
    brace_stop (r.in_choices (r.to_tests o)) f h = rw ((tests_stop k q deep c at known.deeper deeper_stops o f h).0) refl
    brace_stop (r.in_choices (r.to_x i o)) f h =
        rw (first_on size lists deep c at known.deeper i h, x_stop _ o f (omega (arith, tests_shorter i, h))) refl
    brace_stop (r.in_choices (r.after_x i l o)) f h = (next_on size lists deep c at known.deeper (known.xs level) i l h
        (later_stop f o (omega (arith, tests_shorter i, items_shorter l, h)))).0

  -- in a directive, Descent stops at the byte that doesn't fit
  directive_stop : {f : Directive} {t u : List ℕ} {due : Due} {fault : SyntaxFault} (at n : ℕ) → ReachesIn size c at f t due u
      → StopsAt k q due u fault → length t ≤ size → d.directive_by lists deep c at n f (here size t) ≡ Stops k fault
  directive_stop at n (r.in_call name e is o) f h = rw (e, call_stops k q Function lists c at at name (arguments_stop e) is o f h) refl
  directive_stop at n (r.in_place e o) f h = rw (e, brace_stop at e o f h) refl
  directive_stop at n (r.in_marked {text = u} e o) f h = rw (e, one size u h, brace_stop at e o f (omega (arith, h))) refl

  -- after the byte of a directive that breaks off, Descent stops at the byte that doesn't fit
  breaks_stop : {directive : Directive} {last : List ℕ} (at n : ℕ) → Breaks c directive last
      → length last ≤ k + 1 → d.directive_by lists deep c at n directive (here size (last ++ q)) ≡ Stops k (BadDirective at)
  breaks_stop at n (r.no_option e) h = rw (e, last_at k q) refl
  breaks_stop at n r.empty_option h =
      let i : IsQuoted is_option (ascii.closing_brace ∷ q) [] (ascii.closing_brace ∷ q) = s.quoted_stop refl refl in
      rw (one size (ascii.closing_brace ∷ q) (omega (arith, h)), quoted_is size i (omega (arith, h)), last_at k q) refl
  breaks_stop at n (r.no_name e) h =
      let z : size - suc (length q) + 0 ≡ k = omega arith in rw e (ap (λ (i : ℕ). Stops i (BadDirective at)) z)
  breaks_stop at n (r.open_name {b = b} {text = t} {name = name} i l e) h =
      let long = run_moved [] q i (filled swaps_end) in
      let j = subst (λ (u : List ℕ). IsRun is_name_byte u name (b ∷ q)) (swaps_back [] q refl (any [] q long.swaps)) long.is in
      let m = run_is j in let f : nat_le (length name) 255 ≡ true = grind (arith, nat_tests, l) in
      rw (m.0, f, m.1, m.2, run_place size j (omega (arith, length-append t q, h)), last_at k q) (ended (length name == 0))
    where
      -- a name that a closing parenthesis doesn't end doesn't fit
      ended : (empty : Bool) → (if empty then Stops k (BadDirective at)
          else if b == ascii.closing_parenthesis then Took (NamedText name) (after 1 (record { at = k; bytes = b ∷ q }))
          else Stops k (BadDirective at)) ≡ Stops k (BadDirective at)
      ended true = refl
      ended false = rw e refl
  breaks_stop at n (r.long_name {text = t} i l) h =
      let more : 256 ≤ prefix_len is_name_byte (t ++ q) = omega (arith, l, run_counted q i) in
      let long : nat_le (prefix_len is_name_byte (t ++ q)) 255 ≡ false = grind (arith, nat_tests) in
      let z : size - length (t ++ q) + 255 ≡ k = omega (arith, length-append t q, (run_is i).3, l, h) in
      rw long (ap (λ (i : ℕ). Stops i (BadDirective at)) z)
  breaks_stop at n (r.no_brace l e) h = rw (l, e, last_at k q) refl

  -- braces or arguments within 64 others are refused at the byte of their directive
  nested_stop : (at n : ℕ) (f : Directive) (t : List ℕ) → nests f ≡ true → (c.levels == 0) ≡ true
      → d.directive_by lists deep c at n f (here size t) ≡ Stops n (TooNested at)
  nested_stop at n WithCall t h e = rw e refl
  nested_stop at n WithBraces t h e = rw e refl
  nested_stop at n (WithMarkedBraces kind) t h e = rw e refl
  nested_stop at n Nowhere t h e = differs (sym h)
  nested_stop at n (Whole leaf) t h e = differs (sym h)
  nested_stop at n (Named name) t h e = differs (sym h)
  nested_stop at n (WithSuffix kind) t h e = differs (sym h)
  nested_stop at n WithOption t h e = differs (sym h)
  nested_stop at n (WithSaying kind) t h e = differs (sym h)
  nested_stop at n WithName t h e = differs (sym h)
  nested_stop at n WithPattern t h e = differs (sym h)
  nested_stop at n OfStar t h e = differs (sym h)

  -- where Descent stops after the byte of this directive, it stops there in the list
  byte_stops : {f : Directive} {fault : SyntaxFault} (n b : ℕ) (t : List ℕ) → is_allowed c.in_arguments b ≡ true
      → At size n (ascii.percent ∷ b ∷ t) → directive_of b ≡ f → d.directive_by lists deep c n (size - suc (length t)) f (here size t)
      ≡ Stops k fault → Loops (turn size lists deep c) (here size (ascii.percent ∷ b ∷ t)) (Stops k fault)
  byte_stops n b t al p e g =
      let j : size - suc (suc (length t)) ≡ n = omega (arith, p) in
      let on = ap (λ x. d.directive_by lists deep c n (size - suc (length t)) x (here size t)) e ∙ g in
      loop_ends (λ goes. rw (directive_on size lists deep c b t al (omega (arith, p)), j, on) refl)

  -- the place where such a byte is due, in the whole text
  due_place : (n : ℕ) (last : List ℕ) → At (k + 1) n last → At size n (last ++ q)
  due_place n last p = omega (arith, p, length-append last q)

  -- where an item is due, Descent stops at the byte that doesn't fit
  due_stop : {u : List ℕ} {fault : SyntaxFault} → StopsAt k q (AnItem c) u fault → length u ≤ size
      → Loops (turn size lists deep c) (here size u) (Stops k fault)
  due_stop (stops_at (r.star_outside {n = n} {b = b} p al e f)) h =
      byte_stops n b q al (due_place n (ascii.percent ∷ b ∷ []) p) e (rw (f, last_at k q) refl)
  due_stop (stops_at (r.mixed_star {n = n} {b = b} p al e f)) h =
      byte_stops n b q al (due_place n (ascii.percent ∷ b ∷ []) p) e (rw (f, last_at k q) refl)
  due_stop (stops_at (r.item_within_all {n = n} {b = b} p al e f)) h = byte_stops n b q al (due_place n (ascii.percent ∷ b ∷ []) p) refl
      (nested_stop n (size - suc (length q)) (directive_of b) q e f ∙ ap (λ (i : ℕ). Stops i (TooNested n)) (last_at k q))
  due_stop (stops_at (r.item_no_function {n = n} {b = b} {last = last} p al e f i)) h =
      byte_stops n b (last ++ q) al (due_place n (ascii.percent ∷ b ∷ last) p) e
      (rw (f, function_stops k q n i (omega (arith, length-append last q, h)), last_at k q) refl)
  due_stop (stops_at (r.hides_nothing {n = n} {b = b} {x = x} p al e y)) h =
      byte_stops n b (x ∷ q) al (due_place n (ascii.percent ∷ b ∷ x ∷ []) p) e (rw (pattern_stops k q n x y) refl)
  due_stop (stops_at (r.not_allowed {n = n} {b = b} p al)) h =
      let j : size - suc (length (b ∷ q)) ≡ n = omega (arith, p) in
      loop_ends (λ goes. rw (one size (b ∷ q) (omega (arith, h)), al, last_at k q, j) refl)
  due_stop (stops_at (r.no_directive {n = n} {b = b} p al e)) h =
      byte_stops n b q al (due_place n (ascii.percent ∷ b ∷ []) p) e (rw (last_at k q) refl)
  due_stop (stops_at (r.breaks_off {n = n} {b = b} {last = last} p al i)) h =
      byte_stops n b (last ++ q) al (due_place n (ascii.percent ∷ b ∷ last) p) refl
      (breaks_stop n (size - suc (length (last ++ q))) i (omega (arith, length-append last q, h)))

  -- in a list, Descent stops at the byte that doesn't fit
  pub items_stop : {t u : List ℕ} {due : Due} {fault : SyntaxFault} → Reaches size c t due u → StopsAt k q due u fault
      → length t ≤ size → Loops (turn size lists deep c) (here size t) (Stops k fault)
  items_stop r.item_due f h = due_stop f h
  items_stop (r.after_item i o) f h = item_on size lists deep c known i h (items_stop o f (omega (arith, item_shorter i, h)))
  items_stop (r.in_directive {n = n} {b = b} {text = u} p e o) f h =
      byte_stops n b u e p refl (directive_stop n (size - suc (length u)) o f (omega (arith, h)))
