use Rattle.drv_syntax.proofs.ItemsRead.{GiveChoices, default_on, first_on, later_on, later_turn, next_on, no_default, x_from, Inner}
use Rattle.drv_syntax.proofs.ItemsRead.{directive_on, item_on, item_then, turn}
use Rattle.drv_syntax.proofs.TestsRead.{Operates, and_on, and_turn, emits_on, follows, operates, starred_operates, GiveTests, ListReads}
use Rattle.drv_syntax.proofs.TestsRead.{asked_is, bar_on, call_on, mark_on, result_on, switch_on, test_on}
use Rattle.drv_syntax.proofs.Leads.{mark_word, NoHead, asked_head, no_colon, no_percent, no_sign, no_white, out_head, pattern_head}
use Rattle.drv_syntax.proofs.Leads.{sign_head, unstarred_end, other}
use Rattle.drv_syntax.proofs.Here.{byte_quoted, function_on, here, one, pattern_is, pattern_shorter, quoted_is, run_is, spaces_on}
use Rattle.drv_syntax.proofs.Here.{spaces_shorter}
use Rattle.drv_syntax.proofs.MeantWords.{runs_out}
use Rattle.drv_syntax.proofs.Shorter.{Loops, asked_shorter, items_shorter, item_shorter, loop_ends, loop_goes, sign_shorter, tests_shorter}
use Rattle.drv_syntax.specs.Bytes.{is_mark, is_white, is_word}
use Rattle.drv_syntax.specs.Contexts.{InArguments, InX, Kind, ListContext, Top, in_arguments, in_braces, in_x}
use Rattle.drv_syntax.specs.Descent as d
use Rattle.drv_syntax.specs.Descent.{Ends, Lists, Operand, Read, Run, Stops, Took, by_word, mapped, quoted_at, then_read, with_byte}
use Rattle.drv_syntax.specs.Directives.{directive_of}
use Rattle.drv_syntax.specs.Faults.{is_closed_by_end}
use Rattle.drv_syntax.specs.Fronts as cuts
use Rattle.drv_syntax.specs.Fronts.{AreFrontItems, CutsAsked, CutsBrace, CutsCall, CutsChoices, CutsDirective, CutsItem, CutsLater}
use Rattle.drv_syntax.specs.Fronts.{CutsPatterns, CutsTests, RunsOut}
use Rattle.drv_syntax.specs.Refusals.{AtBar, AtFront, AtNext, Order, may_emit}
use Rattle.drv_syntax.specs.Rest.{Left}
use Rattle.drv_syntax.specs.Spelling as s
use Rattle.drv_syntax.specs.Spelling.{AreSpaces, IsPattern, IsQuoted, IsSign, span}
use Rattle.drv_syntax.specs.Tree.{Function, Hide, Item, Items, Pattern, Tests, more, none}
use Rattle.drv_syntax.specs.declared.directives.Directive.{Directive}
use Rattle.std.proofs.Common.{◌≡◌, ◌≤◌, ◌∙◌, ◌+◌, ◌⊎◌, Bool, false, true, if◌then◌else◌, List, [], ◌∷◌, ap, append-nil, arith, inl, inr}
use Rattle.std.proofs.Common.{length, length-append, refl, subst, suc, sym, ℕ}
use Rattle.std.proofs.lemmas.Bool.Decides.{nat_tests}
use Rattle.std.specs.Prelude.{◌-◌, ◌==◌, None, nat_le}

-- Where the grammar says that a text ends in a part, Descent says that this part isn't closed, or reads it up to the end. It serves the
-- laws `front_is_unrefused` and `cut_at_open`. The numbers in the statements are bytes: 37 is %, 40 (, 92 a backslash.
-- Names: `t`, `u`, `v`, `w`: what is left of the text, from step to step. `size`: the length of the whole text. `at`: the place of the
-- directive's `%`. `c`: where the list is, and what is around it. `deep`, `lists`: how lists inside are read. `o`: what a test may be. `f`:
-- a class of bytes. `z`: a test's value, so that `by` can go by both cases. `emits`: whether the braces may still be patterns. `here`: what
-- is left of the text where these bytes are left. `spaces_shorter`: white space takes bytes of the text alone. `no_white`: white space
-- begins no pattern. `in_braces`: the context in the braces of a list, before the colon of an alternative. `loop_ends`: a loop whose turn
-- gives r, whatever would follow that turn, gives r. `RunsOut`: bytes of the class f and escapes up to the end of the text. `IsQuoted`: the
-- longest run of bytes of the class f and of escapes. `AreSpaces`: the text begins with white space, or with none. `Kind`: where a list of
-- items is. `CutsItem`: an item that is cut short. `unspaced`, `asking`, `behind`: the text without the white space before it, from what a
-- test asks on, and after that. `own`: the place of a function's own %. `part`: what was read.

-- where f allows no byte that begins a pattern, and no percent sign, what a test asks doesn't begin with one that f allows, even where the
-- text ends in it
pub cut_head : {f : ℕ → Bool} {size : ℕ} {c : ListContext} {u : List ℕ} → NoHead f → f 37 ≡ false → CutsAsked size c u → s.Stops f u
cut_head h e (cuts.cut_switch z o) = out_head h o
cut_head h e (cuts.cut_marked {b} z o) = s.at_byte (h.word b (mark_word b z))
cut_head h e (cuts.cut_call z) = s.at_byte e
cut_head h e (cuts.cut_result i) = s.at_byte e

-- a call that is cut has a level left for its arguments
call_level : {size : ℕ} {c : ListContext} {t : List ℕ} → CutsCall size c t → (c.levels == 0) ≡ false
call_level (cuts.in_function e is) = e
call_level (cuts.in_function_arguments name e is l) = e

-- braces that are cut have a level left for what is in them
cut_level : {size : ℕ} {c : ListContext} {t : List ℕ} → CutsBrace size c t → (c.levels == 0) ≡ false
cut_level (cuts.cut_emits e o) = e
cut_level (cuts.cut_chooses e o) = e

-- a text of this size
module _ (size : ℕ) where
  -- the text ends in a part: this isn't closed, and has this place, or is read up to the end
  abbrev pub OpenAt : {X : Type 0} → ℕ → Read X → Type 0
  OpenAt at (Took x rest) = rest ≡ here size []
  OpenAt at (Ends n) = n ≡ at
  OpenAt at (Stops n fault) = ⊥

  -- the place that a directive is open at, by what its byte says: that of its %, or of the last byte of the text
  abbrev pub cut_place : ℕ → Directive → ℕ
  cut_place at f = if is_closed_by_end f then size - 1 else at

  -- the place that an item is open at in which the text ends
  abbrev pub open_place : {c : ListContext} {t : List ℕ} → CutsItem size c t → ℕ
  open_place cuts.cut_escape = size - 1
  open_place cuts.cut_percent = size - 1
  open_place (cuts.cut_directive {b} {text} e i) = cut_place (size - suc (suc (length text))) (directive_of b)

  -- where the text ends in a part, it ends in what begins with it, if what follows that part may be cut there too
  open_then : {X Y : Type 0} (at : ℕ) (part : Read X) (goes : X → Left → Read Y)
      → OpenAt at part → ((x : X) → OpenAt at (goes x (here size []))) → OpenAt at (then_read part goes)
  open_then at (Took x rest) goes e k = subst (λ (l : Left). OpenAt at (goes x l)) (sym e) (k x)
  open_then at (Ends n) goes e k = e
  open_then at (Stops n fault) goes e k = e

  -- where the text ends in a part, what begins with it isn't closed, if it isn't where the part is read up to the end
  must_end : {X Y : Type 0} {at : ℕ} (part : Read X) (goes : X → Left → Read Y)
      → OpenAt at part → ((x : X) → goes x (here size []) ≡ Ends at) → then_read part goes ≡ Ends at
  must_end (Took x rest) goes e k = ap (λ (l : Left). goes x l) e ∙ k x
  must_end (Ends n) goes e k = ap (λ (place : ℕ). Ends place) e
  must_end (Stops n fault) goes e k = absurd e

  -- where the text ends in a run, this hangs at the backslash that is the last byte, or goes up to the end
  out_run : {f : ℕ → Bool} {t : List ℕ} → RunsOut f t
      → ((n : ℕ) → n + length t ≡ size → quoted_at f n t ≡ record { word = None; rest = here size (92 ∷ []) })
      ⊎ ((word : List ℕ) × IsQuoted f t word [])
  out_run cuts.out_end = inr ([], s.quoted_end)
  out_run cuts.out_backslash = inl (λ n h. let e : n ≡ size - 1 = omega (arith, h) in rw e refl)
  out_run {f} (cuts.out_escape {b} {text} o) = by (out_run o)
    where
      by : ((n : ℕ) → n + length text ≡ size → quoted_at f n text ≡ record { word = None; rest = here size (92 ∷ []) })
          ⊎ ((word : List ℕ) × IsQuoted f text word [])
          →
          ((n : ℕ) → n + length (92 ∷ b ∷ text) ≡ size → quoted_at f n (92 ∷ b ∷ text) ≡ record { word = None; rest = here size (92 ∷ []) })
          ⊎ ((word : List ℕ) × IsQuoted f (92 ∷ b ∷ text) word [])
      by (inl k) = inl (λ n h. ap (λ (run : Run). with_byte b run) (k (n + 2) (omega (arith, h))))
      by (inr m) = inr (b ∷ m.0, s.quoted_escape m.1)
  out_run {f} (cuts.out_byte {b} {text} e g o) = by (out_run o)
    where
      by : ((n : ℕ) → n + length text ≡ size → quoted_at f n text ≡ record { word = None; rest = here size (92 ∷ []) })
          ⊎ ((word : List ℕ) × IsQuoted f text word [])
          → ((n : ℕ) → n + length (b ∷ text) ≡ size → quoted_at f n (b ∷ text) ≡ record { word = None; rest = here size (92 ∷ []) })
          ⊎ ((word : List ℕ) × IsQuoted f (b ∷ text) word [])
      by (inl k) = inl (λ n h. byte_quoted f n text e g ∙ ap (λ (run : Run). with_byte b run) (k (n + 1) (omega (arith, h))))
      by (inr m) = inr (b ∷ m.0, s.quoted_byte e g m.1)

  -- where the text ends in a word, it ends in the part that begins with it
  open_word : {X : Type 0} {f : ℕ → Bool} {t : List ℕ} (at : ℕ) (hangs : Left → Read X) (goes : List ℕ → Left → Read X) → RunsOut f t
      → length t ≤ size → OpenAt at (hangs (here size (92 ∷ []))) → ((word : List ℕ) → OpenAt at (goes word (here size [])))
      → OpenAt at (by_word (d.quoted f (here size t)) hangs goes)
  open_word {f = f} {t} at hangs goes o h e k = by (out_run o)
    where
      by : ((n : ℕ) → n + length t ≡ size → quoted_at f n t ≡ record { word = None; rest = here size (92 ∷ []) })
          ⊎ ((word : List ℕ) × IsQuoted f t word []) → OpenAt at (by_word (quoted_at f (size - length t) t) hangs goes)
      by (inl m) = let n : size - length t + length t ≡ size = omega (arith, h) in rw (m (size - length t) n) e
      by (inr m) = rw (quoted_is size m.1 h) (k m.0)

  -- where the text ends in a pattern, this isn't closed, or is read up to the end
  pub pattern_open : {t : List ℕ} (at : ℕ) → RunsOut is_word t → length t ≤ size → OpenAt at (d.pattern_at at (here size t))
  pattern_open at o h = open_word at (λ end. Ends at) (λ word end. d.pattern_end at word end) o h refl ended
    where
      ended : (word : List ℕ) → OpenAt at (d.pattern_end at word (here size []))
      ended [] = refl
      ended (b ∷ word) = refl

  -- what a list of this kind gives that the text ends in: a whole text ends there, or is open at this place, and any other isn't closed
  abbrev pub EndsIn : Kind → ℕ → Read (Items × ℕ) → Type 0
  EndsIn kind place (Took list rest) = (kind ≡ Top) × (list.1 ≡ 0) × (rest ≡ here size [])
  EndsIn kind place (Ends n) = kind ≡ Top → n ≡ place
  EndsIn kind place (Stops n fault) = ⊥

  -- what is made of all texts that end in a list with this context
  abbrev pub ListEnds : Lists → ListContext → Type 0
  ListEnds lists c = (t : List ℕ) → AreFrontItems size c t → length t ≤ size
      → (place : ℕ) × (r : Read (Items × ℕ)) × (lists c (here size t) ≡ r) × EndsIn c.kind place r

  -- a list that the text ends in is cut there after an item as well
  pub after_one : (kind : Kind) (place : ℕ) (x : Items → Items) (r : Read (Items × ℕ)) → EndsIn kind place r
      → EndsIn kind place (mapped (λ list. (x list.0, list.1)) r)
  after_one kind place x (Took list rest) e = e
  after_one kind place x (Ends n) e = e
  after_one kind place x (Stops n fault) e = e

  -- where the text ends in arguments or in an X, these are not closed
  inner_ends : (kind : Kind) (place : ℕ) (r : Read (Items × ℕ)) → (kind ≡ Top → ⊥) → EndsIn kind place r → (n : ℕ) × (r ≡ Ends n)
  inner_ends kind place (Took list rest) h e = absurd (h e.0)
  inner_ends kind place (Ends n) h e = (n, refl)
  inner_ends kind place (Stops n fault) h e = absurd e

  -- where the text ends in a call, this isn't closed
  pub call_cut : {X : Type 0} (make : List ℕ → Items → X) (lists : Lists) {c : ListContext} (at own : ℕ) {t : List ℕ}
      → ((c.levels == 0) ≡ false → ListEnds lists (in_arguments c))
      → CutsCall size c t → length t ≤ size → d.call_as make lists c at own (here size t) ≡ Ends at
  call_cut make lists {c} at own ends (cuts.in_function {text = t} e is) h =
      subst (λ (whole : List ℕ). d.call_as make lists c at own (here size whole) ≡ Ends at) (append-nil t)
      (rw (function_on size t [] own is tt (omega (arith, length-append t [], h))) refl)
  call_cut make lists {c} at own ends (cuts.in_function_arguments {text = t} name e is l) h =
      let m = ends e t l (omega (arith, length-append name (40 ∷ t), h)) in
      rw (call_on size make lists c at own name t is h, m.2 ∙ (inner_ends InArguments m.0 m.1 (λ z. absurd cc) m.3).1) refl

  -- patterns

  -- where the text ends in a pattern after an ampersand, the braces are not closed
  pattern_ends : (u : List ℕ) (at : ℕ) → RunsOut is_word u → length u ≤ size → d.pattern_from at (here size u) ≡ Ends at
  pattern_ends u at o h = must_end (d.pattern_at at (here size u)) _ (pattern_open at o h) (λ p. refl)

  -- where the text ends in patterns after an ampersand, the braces are not closed
  pub ands_cut : {t : List ℕ} (at : ℕ) → CutsPatterns t → length t ≤ size → Loops (and_turn size at) (here size t) (Ends at)
  ands_cut at (cuts.in_pattern {u = u} sp o) h =
      let m = spaces_on size sp (out_head no_white o) h in
      loop_ends (λ goes. rw (m.0, m.1, pattern_ends u at o (omega (arith, spaces_shorter sp, h))) refl)
  ands_cut at (cuts.after_pattern {u = u} {v} sp i z) h =
      let f : length u ≤ size = omega (arith, spaces_shorter sp, h) in let m = spaces_on size sp (pattern_head no_white i) h in
      let x = spaces_on size z s.at_end (omega (arith, pattern_shorter i, f)) in
      loop_ends (λ goes. rw (m.0, m.1, pattern_is size at i f, x.0) refl)
  ands_cut at (cuts.after_and {w = w} sp i z o) h =
      and_on size at sp i z h (ands_cut at o (omega (arith, spaces_shorter sp, pattern_shorter i, spaces_shorter z, h)))

  -- the braces of a directive whose % has the place `at`, in a list with the context c
  module _ (deep : Lists) (c : ListContext) (at : ℕ) where
    -- where the text ends in the word after a mark, this is cut, or a test is read up to the end
    marked_open : (emits : Bool) (mark : ℕ) {t : List ℕ} → is_mark mark ≡ true → RunsOut is_word t → suc (length t) ≤ size
        → OpenAt at (d.asked deep c at emits (here size (mark ∷ t)))
    marked_open emits mark {t} e o h =
        rw (mark_on size deep c at emits mark t e h) (open_word at (λ end. Ends at) _ o (omega (arith, h)) refl ended)
      where
        ended : (word : List ℕ) → OpenAt at (if d.is_empty word then Ends at else d.marked_end at emits mark word (here size []))
        ended [] = refl
        ended (b ∷ word) = refl

    -- where the text ends in the word of a switch, this is cut, or a test is read up to the end
    switch_open : (emits : Bool) (t : List ℕ) → s.Stops is_mark t → RunsOut is_word t → length t ≤ size
        → OpenAt at (d.asked deep c at emits (here size t))
    switch_open emits t e o h = rw (switch_on size deep c at emits t e (out_head no_percent o))
        (open_then at (d.pattern_at at (here size t)) (λ p rest. Took (d.switch_operand p) rest) (pattern_open at o h) (λ p. refl))

    -- where the text ends in a word, with a mark before it or without, this is cut, or a test is read up to the end
    word_open : (emits : Bool) {t : List ℕ} → RunsOut is_word t → length t ≤ size → OpenAt at (d.asked deep c at emits (here size t))
    word_open emits cuts.out_end h = switch_open emits [] s.at_end cuts.out_end h
    word_open emits cuts.out_backslash h = switch_open emits (92 ∷ []) (s.at_byte refl) cuts.out_backslash h
    word_open emits (cuts.out_escape {b} {text} o) h = switch_open emits (92 ∷ b ∷ text) (s.at_byte refl) (cuts.out_escape o) h
    word_open emits (cuts.out_byte {b} {text} e g o) h = by (is_mark b) refl
      where
        by : (z : Bool) → is_mark b ≡ z → OpenAt at (d.asked deep c at emits (here size (b ∷ text)))
        by true m = marked_open emits b m o h
        by false m = switch_open emits (b ∷ text) (s.at_byte m) (cuts.out_byte e g o) h

    -- where the text ends in what a test asks, the braces are not closed
    open_test : (order : Order) {t unspaced asking : List ℕ} {negated : Bool}
        → AreSpaces t unspaced → IsSign unspaced negated asking → s.Stops is_white asking → length t ≤ size
        → OpenAt at (d.asked deep c at (may_emit order negated) (here size asking)) → d.one_test deep c at order (here size t) ≡ Ends at
    open_test order {asking = asking} {negated = negated} sp sign w h o = rw (test_on size deep c at order sp sign w h)
        (must_end (d.asked deep c at (may_emit order negated) (here size asking)) _ o (λ operand. refl))

    -- where the text ends after what a test asks and white space, the braces are not closed
    past_test : (order : Order) {t unspaced asking behind : List ℕ} {negated : Bool} {operand : Operand}
        → AreSpaces t unspaced → IsSign unspaced negated asking → s.Stops is_white asking
        → length t ≤ size → d.asked deep c at (may_emit order negated) (here size asking) ≡ Took operand (here size behind)
        → AreSpaces behind [] → length behind ≤ size → d.one_test deep c at order (here size t) ≡ Ends at
    past_test order sp sign x h e z l = let m = spaces_on size z s.at_end l in rw (test_on size deep c at order sp sign x h, e, m.0) refl

    -- where the text ends in patterns at the front of braces, these are not closed
    pub emits_cut : {t : List ℕ} → CutsPatterns t → length t ≤ size → d.form deep c at AtFront (here size t) ≡ Ends at
    emits_cut (cuts.in_pattern {u = u} sp o) h = rw (open_test AtFront sp (s.plain_sign (out_head no_sign o)) (out_head no_white o) h
        (word_open true o (omega (arith, spaces_shorter sp, h)))) refl
    emits_cut {t} (cuts.after_pattern {u = u} {v} {p = p} sp i z) h =
        let f : length u ≤ size = omega (arith, spaces_shorter sp, h) in rw (by i z f (omega (arith, pattern_shorter i, f))) refl
      where
        -- Plan: by the pattern that the text ends behind: it is read (`read`), and then the text ends.
        read : {v : List ℕ} {p : Pattern} → IsPattern u p v → AreSpaces v [] → length v ≤ size → Operates size at deep c u p v
            → d.one_test deep c at AtFront (here size t) ≡ Ends at
        read i z g m = past_test AtFront sp (s.plain_sign (pattern_head no_sign i)) (pattern_head no_white i) h m.2 z g

        by : {v : List ℕ} {p : Pattern} → IsPattern u p v → AreSpaces v [] → length u ≤ size → length v ≤ size
            → d.one_test deep c at AtFront (here size t) ≡ Ends at
        by (s.starred i) z f g = read (s.starred i) z g (starred_operates size at deep c i f)
        by (s.unstarred i e) s.no_space f g =
            open_test AtFront sp (s.plain_sign (pattern_head no_sign (s.unstarred i e))) (pattern_head no_white (s.unstarred i e)) h
            (word_open true (runs_out i) f)
        by (s.unstarred i e) (s.space {b} k z) f g =
            let w : d.ends_bare b ≡ true = rw (other is_white b 125 k refl, other is_white b 38 k refl, k) refl in
            read (s.unstarred i e) (s.space k z) g (operates size at deep c (s.unstarred i e) (follows w) f)
    emits_cut (cuts.after_and {w = w} sp i z o) h =
        (emits_on size at deep c sp i z h (ands_cut at o (omega (arith, spaces_shorter sp, pattern_shorter i, spaces_shorter z, h)))).0

    -- tests

    -- lists two levels deeper are read, and end where the text does
    module _ (deeper : (c.levels - 1 == 0) ≡ false → ListReads size deep (in_arguments (in_braces c)))
        (deeper_ends : (c.levels - 1 == 0) ≡ false → ListEnds deep (in_arguments (in_braces c))) where
      -- where the text ends in what a test asks, this is cut, or read up to the end
      asked_open : (emits : Bool) {t : List ℕ} → CutsAsked size (in_braces c) t → length t ≤ size
          → OpenAt at (d.asked deep c at emits (here size t))
      asked_open emits {t} (cuts.cut_switch e o) h = switch_open emits t e o h
      asked_open emits (cuts.cut_marked {b} e o) h = marked_open emits b e o h
      asked_open emits (cuts.cut_call e) h = rw e refl
      asked_open emits (cuts.cut_result {text = t} i) h =
          rw (
            result_on size deep c at emits t (call_level i) h,
            call_cut d.result_operand deep at (size - suc (suc (length t))) deeper_ends i (omega (arith, h)),
          ) refl

      -- where the text ends in a test, the braces are not closed: at the front of an alternative, and after a bar
      both : {t : List ℕ} → ((order : Order) → d.one_test deep c at order (here size t) ≡ Ends at) → GiveTests size deep c at deeper t
          (Ends at)
      both k = (λ order. rw (k order) refl, loop_ends (λ goes. rw (k AtBar) refl))

      -- where the text ends in tests, the braces are not closed
      pub tests_cut : {t : List ℕ} → CutsTests size (in_braces c) t → length t ≤ size → GiveTests size deep c at deeper t (Ends at)
      tests_cut (cuts.in_asked {negated = negated} sp sign i) h = both (λ order. open_test order sp sign (cut_head no_white refl i) h
          (asked_open (may_emit order negated) i (omega (arith, spaces_shorter sp, sign_shorter sign, h))))
      tests_cut (cuts.after_asked {v = v} {w = w} {negated = negated} sp sign i z) h =
          let f : length v ≤ size = omega (arith, spaces_shorter sp, sign_shorter sign, h) in
          both (λ order. past_test order sp sign (asked_head no_white refl i) h
          (asked_is size deep c at deeper (may_emit order negated) i (unstarred_end z) f) z (omega (arith, asked_shorter i, f)))
      tests_cut (cuts.after_bar {x = x} sp sign i z o) h = bar_on size deep c at deeper sp sign i h z
          (tests_cut o (omega (arith, spaces_shorter sp, sign_shorter sign, asked_shorter i, spaces_shorter z, h))).1

  -- a list with the context c
  module _ (lists deep : Lists) (c : ListContext) (known : Inner size lists deep c)
      (arguments_end : (c.levels == 0) ≡ false → ListEnds lists (in_arguments c))
      (x_ends : (c.levels == 0) ≡ false → (tests : Tests) → ListEnds lists (in_x (in_braces c) tests))
      (deeper_end : (c.levels - 1 == 0) ≡ false → ListEnds deep (in_arguments (in_braces c))) where
    -- in braces whose directive's % has the place `at`, with a level left for what is in them
    module _ (at : ℕ) (level : (c.levels == 0) ≡ false) where
      -- where the text ends in an X, the braces are not closed
      x_cut : (tests : Tests) {mid : List ℕ} → AreFrontItems size (in_x (in_braces c) tests) mid → length mid ≤ size
          → x_from size lists deep c at tests mid ≡ Ends at
      x_cut tests {mid} i h = let m = x_ends level tests mid i h in rw (m.2 ∙ (inner_ends InX m.0 m.1 (λ z. absurd cc) m.3).1) refl

      mutual
        -- where the text ends in alternatives after the first, the braces are not closed
        later_cut : {t : List ℕ} → CutsLater size (in_braces c) t → length t ≤ size
            → Loops (later_turn size lists deep c at) (here size t) (Ends at)
        later_cut (cuts.in_next o) h = (choices_cut o h).1
        later_cut (cuts.in_default {mid = mid} sp i) h =
            loop_ends (λ goes. rw (default_on size lists deep c at sp h, x_cut _ i (omega (arith, spaces_shorter sp, h))) refl)

        -- where the text ends in alternatives with tests, the braces are not closed
        choices_cut : {t : List ℕ} → CutsChoices size (in_braces c) t → length t ≤ size
            → GiveChoices size lists deep c at known.deeper (known.xs level) t (Ends at)
        choices_cut {t} (cuts.in_tests i) h =
            let m = tests_cut deep c at known.deeper deeper_end i h in
            (rw (m.0 AtFront) refl, loop_ends (λ goes. rw (goes_on i, m.0 AtNext) refl))
          where
            -- the tests that the text ends in don't begin with the colon of a default
            goes_on : CutsTests size (in_braces c) t → later_turn size lists deep c at (here size t)
                ≡ then_read (d.form deep c at AtNext (here size t)) (λ f end. d.later_by lists c at f end)
            goes_on (cuts.in_asked sp sign i) = no_default size lists deep c at sp (sign_head sign (cut_head no_white refl i) refl)
                (sign_head sign (cut_head no_colon refl i) refl) h
            goes_on (cuts.after_asked sp sign i z) = no_default size lists deep c at sp (sign_head sign (asked_head no_white refl i) refl)
                (sign_head sign (asked_head no_colon refl i) refl) h
            goes_on (cuts.after_bar sp sign i z o) = no_default size lists deep c at sp (sign_head sign (asked_head no_white refl i) refl)
                (sign_head sign (asked_head no_colon refl i) refl) h
        choices_cut (cuts.in_choice {mid = mid} i l) h =
            let f : length mid ≤ size = omega (arith, tests_shorter i, h) in (
              rw (first_on size lists deep c at known.deeper i h, x_cut _ l f) refl,
              loop_ends (λ goes. rw (later_on size lists deep c at known.deeper i h, x_cut _ l f) refl),
            )
        choices_cut (cuts.in_others {next = next} i l o) h = next_on size lists deep c at known.deeper (known.xs level) i l h
            (later_cut o (omega (arith, tests_shorter i, items_shorter l, h)))

    -- where the text ends in braces, these are not closed
    pub brace_cut : {t : List ℕ} (at : ℕ) → CutsBrace size c t → length t ≤ size → d.choices lists deep c at (here size t) ≡ Ends at
    brace_cut at (cuts.cut_emits e o) h = rw (emits_cut deep c at o h) refl
    brace_cut at (cuts.cut_chooses e o) h = (choices_cut at e o h).0

    -- directives and items

    -- where the text ends in a directive, this isn't closed, or is read up to the end
    pub directive_open : {f : Directive} {t : List ℕ} (at n : ℕ) → CutsDirective size c f t → length t ≤ size
        → OpenAt (cut_place at f) (d.directive_by lists deep c at n f (here size t))
    directive_open at n cuts.cut_suffix h = refl
    directive_open at n cuts.cut_option h = refl
    directive_open at n (cuts.cut_option_text {text = t} o) h =
        rw (one size t h) (open_word at (λ end. Ends at) (λ word end. d.option_end at word end) o (omega (arith, h)) refl (λ word. refl))
    directive_open at n (cuts.cut_saying {kind = kind} o) h = open_word (size - 1) (λ end. Ends end.at) _ o h refl (λ word. refl)
    directive_open at n (cuts.cut_name {name = name} i l) h =
        let e : nat_le (length name) 255 ≡ true = grind (arith, nat_tests, l) in let m = run_is i in rw (m.0, e, m.1, m.2) refl
    directive_open at n (cuts.cut_hide {text = t} o) h =
        open_then at (d.pattern_at at (here size t)) (λ p rest. Took (Hide p) rest) (pattern_open at o h) (λ p. refl)
    directive_open at n (cuts.cut_function i) h = rw (call_level i, call_cut Function lists at at arguments_end i h) refl
    directive_open at n (cuts.cut_braces i) h = rw (cut_level i, brace_cut at i h) refl
    directive_open at n (cuts.cut_mark e) h = rw e refl
    directive_open at n (cuts.cut_marked_braces {text = t} i) h = rw (cut_level i, one size t h, brace_cut at i (omega (arith, h))) refl

    -- where the text ends in an item, this isn't closed, or is read up to the end
    pub item_open : {t : List ℕ} (i : CutsItem size c t) → length t ≤ size
        → (r : Read Item) × (turn size lists deep c (here size t) ≡ item_then size lists deep c t r) × OpenAt (open_place i) r
    item_open cuts.cut_escape h = (Ends (size - 1), refl, refl)
    item_open cuts.cut_percent h = (Ends (size - 1), refl, refl)
    item_open (cuts.cut_directive {b} {text} e i) h = (
      _,
      directive_on size lists deep c b text e h,
      directive_open (size - suc (suc (length text))) (size - suc (length text)) i (omega (arith, h)),
    )

    -- what is made of a text that ends in a list, and in a whole text has this place
    abbrev pub ItemsCut : List ℕ → ℕ → Type 0
    ItemsCut t place = (r : Read (Items × ℕ)) × Loops (turn size lists deep c) (here size t) r × EndsIn c.kind place r

    -- where the text ends at the front of an item, the list isn't closed, or is the whole text
    nothing_cut : (place : ℕ) → ItemsCut [] place
    nothing_cut place = let m = nothing c.kind in (m.0, loop_ends m.1, m.2)
      where
        -- by where the list is: a whole text may end here, and no other list
        nothing : (kind : Kind) → (r : Read (Items × ℕ))
            × ((goes : Left → Read (Items × ℕ)) → then_read (d.list_end kind (here size [])) (d.after_turn goes) ≡ r) × EndsIn kind place r
        nothing Top = (Took (none, 0) (here size []), λ goes. refl, (refl, refl, refl))
        nothing InX = (Ends (size - 0), λ goes. refl, λ e. absurd cc)
        nothing InArguments = (Ends (size - 0), λ goes. refl, λ e. absurd cc)

    -- where the text ends in an item, the list isn't closed, or is the whole text
    pub item_cut : {t : List ℕ} (i : CutsItem size c t) → length t ≤ size → ItemsCut t (open_place i)
    item_cut {t} i h = let m = item_open i h in by (open_place i) m.0 m.1 m.2 (filled i)
      where
        -- Plan: by what the turn reads of the item (`by`), of which a byte at least is left (`filled`).
        filled : {t : List ℕ} → CutsItem size c t → suc 0 ≤ length t
        filled cuts.cut_escape = omega arith
        filled cuts.cut_percent = omega arith
        filled (cuts.cut_directive e i) = omega arith

        by : (at : ℕ) (r : Read Item) → turn size lists deep c (here size t) ≡ item_then size lists deep c t r → OpenAt at r
            → suc 0 ≤ length t → ItemsCut t at
        by at (Took item rest) e o f =
            let m = nothing_cut at in let x = more (span (size - length t) (size - 0)) item in
            let g : turn size lists deep c (here size t) ≡ item_then size lists deep c t (Took item (here size []))
            = e ∙ ap (λ (l : Left). item_then size lists deep c t (Took item l)) o in (_, loop_goes g f m.1, after_one c.kind at x m.0 m.2)
        by at (Ends n) e o f = (Ends n, loop_ends (λ goes. rw e refl), λ z. o)
        by at (Stops n fault) e o f = absurd o

    -- where the text ends in a list, this isn't closed, or is the whole text
    pub items_cut : {t : List ℕ} → AreFrontItems size c t → length t ≤ size → (place : ℕ) × ItemsCut t place
    items_cut cuts.items_end h = (0, nothing_cut 0)
    items_cut (cuts.whole_item {text = t} {rest = mid} {item = item} i l) h =
        let m = items_cut l (omega (arith, item_shorter i, h)) in let x = more (span (size - length t) (size - length mid)) item in
        (m.0, (_, item_on size lists deep c known i h m.1.1, after_one c.kind m.0 x m.1.0 m.1.2))
    items_cut (cuts.cut_item i) h = (open_place i, item_cut i h)
