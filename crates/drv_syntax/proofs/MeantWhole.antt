use Rattle.drv_words.specs.Bytes as ascii
use Rattle.drv_syntax.proofs.Depth.{all_levels, depth_is}
use Rattle.drv_syntax.proofs.Leads.{differs, same, not_of}
use Rattle.drv_syntax.proofs.Meant.{refuses_byte, Unfit, Meant, Turned, unfit, unfit_in, left, meant_as, meant_byte, meant_if, meant_stops}
use Rattle.drv_syntax.proofs.Meant.{refuses_at, up_byte, meant_then, meant_took, meant_within, repeat_meant, choose, meant_ends, up_more}
use Rattle.drv_syntax.proofs.Meant.{up_place, up_to}
use Rattle.drv_syntax.proofs.MeantForms.{IsForm, form_meant, form_patterns, form_tests, TestBad, TestCuts, cut_pattern, cut_test, emit_bad}
use Rattle.drv_syntax.proofs.MeantForms.{test_bad}
use Rattle.drv_syntax.proofs.MeantWords.{Ended, Reads, ended_by, runs, run_size, spaces, CallBad, CallIs, ListBad, call_is, call_meant}
use Rattle.drv_syntax.proofs.MeantWords.{ended_top, in_list, no_function, name_bad, no_pattern, Bursts, DirMeant, breaks, hide_meant, hides}
use Rattle.drv_syntax.proofs.MeantWords.{inside, name_meant, option_meant, saying_meant, suffix_meant, unknown, ListMeant, top_end}
use Rattle.drv_syntax.proofs.Shorter.{items_shorter, tests_shorter, item_shorter}
use Rattle.drv_syntax.proofs.Swaps.{Ready, any, loose, reaches_moved, refuses_ready, swaps_front, swaps_size}
use Rattle.drv_syntax.specs.Bytes.{is_white, is_blank, is_plain}
use Rattle.drv_syntax.specs.Contexts.{InX, ListContext, in_arguments, in_braces, in_x, is_end, InArguments, Kind, Mixed, Nobody, Owner}
use Rattle.drv_syntax.specs.Contexts.{Starred, Top, top}
use Rattle.drv_syntax.specs.Descent as d
use Rattle.drv_syntax.specs.Descent.{Last, Lists, More, Read, Stops, Took, Turn, after_turn, mapped, then_read, levels}
use Rattle.drv_syntax.specs.Directives.{braced, directive_of, is_allowed}
use Rattle.drv_syntax.specs.Fronts as cuts
use Rattle.drv_syntax.specs.Fronts.{CutsBrace, CutsChoices, CutsLater, AreFrontItems, CutsItem, Front}
use Rattle.drv_syntax.specs.Outcome.{Bad, Cut, Got, Unrefused, depth, outcome, read}
use Rattle.drv_syntax.specs.Refusals as r
use Rattle.drv_syntax.specs.Refusals.{AtFront, AtNext, Due, Order, ReachesBrace, ReachesChoices, ReachesLater, Refuses, is_default, AnItem}
use Rattle.drv_syntax.specs.Refusals.{Breaks, ReachesIn, IsRefused, Reaches}
use Rattle.drv_syntax.specs.Rest.{after, begins_with, past_white}
use Rattle.drv_syntax.specs.Spelling as s
use Rattle.drv_syntax.specs.Spelling.{AreChoices, AreItems, AreLater, AreSpaces, AreTests, At, IsBrace, IsDirective, IsItem, span, Spells}
use Rattle.drv_syntax.specs.Tree.{Brace, Choices, Choose, Items, Tests, alternative, no_choice, no_test, Function, Item, more}
use Rattle.drv_syntax.specs.declared.directives.BraceKind.TheVariants.{InPlace}
use Rattle.drv_syntax.specs.declared.directives.BraceKind.{BraceKind}
use Rattle.drv_syntax.specs.declared.directives.Directive.TheVariants.{Named, Nowhere, OfStar, Whole, WithBraces, WithCall}
use Rattle.drv_syntax.specs.declared.directives.Directive.TheVariants.{WithMarkedBraces, WithName, WithOption, WithPattern, WithSaying}
use Rattle.drv_syntax.specs.declared.directives.Directive.TheVariants.{WithSuffix}
use Rattle.drv_syntax.specs.declared.directives.Directive.{Directive}
use Rattle.drv_syntax.specs.declared.fault.SyntaxFault.TheVariants.{EmptyTest, BadDirective, MixedStar, StarOutside, TooNested}
use Rattle.drv_syntax.specs.declared.fault.SyntaxFault.{SyntaxFault}
use Rattle.std.proofs.Common.{◌++◌, append-nil, inl, inr, length, take, ◌≡◌, ◌∙◌, ◌+◌, Bool, false, true, if◌then◌else◌, List, [], ◌∷◌}
use Rattle.std.proofs.Common.{arith, drop, refl, sym, ℕ, ap, subst, ◌<◌}
use Rattle.std.proofs.Math.Seq.{take-append_seam}
use Rattle.std.specs.List.{prefix_len}
use Rattle.std.specs.Prelude.{◌-◌, ◌==◌}

-- The inside of braces, patterns or alternatives: what Descent makes of it is what the grammar says. Descent is the grammar as functions
-- (specs/Descent). The grammar itself has cases (specs/Spelling, Fronts, Refusals).
-- Names: `c`: where the list is, and what is around it. `size`: the length of the whole text. `t`, `u`, `q`: what is left of the text, from
-- step to step. `b`: a byte. `at`: the place of the directive's `%`. `mid`, `last`: what is left of the text between two parts, and at
-- last. `f`: a directive. `deep`, `lists`: how lists inside are read. `k`: a place in the text. `in_braces`: the context in the braces of a
-- list, before the colon of an alternative. `left`: these bytes are left of the text, from this place on. `meant_then`: a part that is
-- meant, and then what follows it. `top`: the list that a whole text is. `unfit_in`: what leads to a byte that doesn't fit does so in a
-- larger part too. `At`: in a text of this size the rest begins at this place. `IsRefused text fault`: a text ends in the byte that no
-- longer fits, and this is its fault. `AreItems`: the items of a list with this context, up to what ends the list. `Reads`: what these read
-- as lists with this context is what the grammar says. `DirMeant`: what Descent makes of the text after the byte of this directive is what
-- the grammar says. `misfit`: the place of the byte that doesn't fit.

-- a byte that ends an X and is no closing brace is a semicolon
ends_x : (b : ℕ) → is_end InX b ≡ true → (b == ascii.closing_brace) ≡ false → b ≡ ascii.semicolon
ends_x b e f = by (b == ascii.semicolon) refl
  where
    by : (x : Bool) → (b == ascii.semicolon) ≡ x → b ≡ ascii.semicolon
    by true g = same b ascii.semicolon g
    by false g = let z : is_end InX b ≡ false = rw (g, f) refl in differs (sym e ∙ z)

-- where a later alternative begins with no colon, there is no default
pub next_stops : (text : List ℕ) → begins_with ascii.colon text ≡ false → s.Stops (is_default AtNext false) text
next_stops [] e = s.at_end
next_stops (b ∷ text) e = s.at_byte e

-- at the front of braces a colon is never that of a default
pub front_stops : (text : List ℕ) → s.Stops (is_default AtFront false) text
front_stops [] = s.at_end
front_stops (b ∷ text) = s.at_byte refl

-- an alternative from its tests on is the last of its braces, with the closing brace, or others follow its semicolon
data IsTurn (size : ℕ) (g : ListContext) (t : List ℕ) : Turn Choices → List ℕ → Type 0 where
  is_last : {asks : Tests} {list : Items} (colon : ℕ) {mid q : List ℕ} → AreTests size g t asks (ascii.colon ∷ mid)
      → At size colon (ascii.colon ∷ mid) → AreItems size (in_x g asks) mid list (ascii.closing_brace ∷ q)
      → IsTurn size g t (Last (alternative colon asks list no_choice)) q
  is_more : {asks : Tests} {list : Items} (colon : ℕ) {mid q : List ℕ} → AreTests size g t asks (ascii.colon ∷ mid)
      → At size colon (ascii.colon ∷ mid) → AreItems size (in_x g asks) mid list (ascii.semicolon ∷ q)
      → IsTurn size g t (More (λ others. alternative colon asks list others)) q

-- alternatives after the first lead to a byte that doesn't fit where something is due
abbrev pub LaterBad : ℕ → ℕ → ListContext → List ℕ → ℕ → SyntaxFault → Type 0
LaterBad at size g t = Unfit size (λ due last. ReachesLater size g at t due last)

-- alternatives lead from the first of them to a byte that doesn't fit where something is due
abbrev ChoicesBad : ℕ → ℕ → ListContext → Order → List ℕ → ℕ → SyntaxFault → Type 0
ChoicesBad at size g order t = Unfit size (λ due last. ReachesChoices size g at order t due last)

-- the inside of braces leads to a byte that doesn't fit where something is due
abbrev pub BraceBad : ℕ → ℕ → ListContext → List ℕ → ℕ → SyntaxFault → Type 0
BraceBad at size g t = Unfit size (λ due last. ReachesBrace size g at t due last)

-- a later alternative is not at the front of the braces, so this case can't arise
next_front : {A : Type 0} → AtNext ≡ AtFront → A
next_front e = absurd cc

-- the lists in braces are what the grammar says: Xs, and the arguments of tests
module _ (size : ℕ) (lists deep : Lists) (c : ListContext) (near : (asks : Tests) → Reads size (in_x (in_braces c) asks) lists)
    (meets : (c.levels - 1 == 0) ≡ false → Reads size (in_arguments (in_braces c)) deep) (at : ℕ) where
  -- after an X, by the byte that ends it, the alternative is the last one or others follow
  x_end_meant : {t mid q : List ℕ} {asks : Tests} {list : Items} {b : ℕ} {Cuts : Type 0} {Bad : ℕ → SyntaxFault → Type 0} (colon m : ℕ)
      → AreTests size (in_braces c) t asks (ascii.colon ∷ mid)
      → At size colon (ascii.colon ∷ mid) → AreItems size (in_x (in_braces c) asks) mid list q
      → Ended InX b q → At size m q → Meant size (IsTurn size (in_braces c) t) Cuts Bad (d.choice_turn colon asks (list, b) (left m q))
  x_end_meant {b = b} colon m i a l (ended_by e) place =
      meant_byte b ascii.closing_brace (λ f. meant_took (omega (arith, place)) (is_last colon i a (rw f at l)))
      (λ f. meant_took (omega (arith, place)) (is_more colon i a (rw (ends_x b e f) at l)))

  -- an alternative from its colon on is what the grammar says
  x_meant : {t mid : List ℕ} {asks : Tests} (order : Order) (m : ℕ)
      → AreTests size (in_braces c) t asks (ascii.colon ∷ mid) → At size m (ascii.colon ∷ mid)
      → Meant size (IsTurn size (in_braces c) t) (CutsChoices size (in_braces c) t) (ChoicesBad at size (in_braces c) order t)
      (then_read (d.x_of lists c at asks (left m (ascii.colon ∷ mid))) (λ x end. d.choice_turn m asks x end))
  x_meant {t} {mid} {asks} order m i place = meant_then (λ x end. d.choice_turn m asks x end)
      (meant_within at (near asks (m + 1) mid (omega (arith, place))))
      (λ x end there j. x_end_meant m end.at i place j.0 j.1 there) (λ o. cuts.in_choice i o)
      (λ j fault o. unfit_in o (λ due last k. r.to_x i k))

  -- later alternatives

  -- what one turn of the later alternatives makes of a text is what the grammar says
  abbrev pub LaterMeant : List ℕ → Read (Turn Choices) → Type 0
  LaterMeant text x = Meant size (Turned (AreLater size (in_braces c)) (CutsLater size (in_braces c)) (LaterBad at size (in_braces c)) text)
      (CutsLater size (in_braces c) text) (LaterBad at size (in_braces c) text) x

  -- a later alternative with tests is one of the later ones
  later_turn : {t q : List ℕ} {x : Turn Choices} → IsTurn size (in_braces c) t x q
      → Turned (AreLater size (in_braces c)) (CutsLater size (in_braces c)) (LaterBad at size (in_braces c)) t x q
  later_turn (is_last colon i a l) = s.with_tests (s.last_choice colon i a l)
  later_turn (is_more colon i a l) = record {
    is = λ others u o. s.with_tests (s.next_choice colon i a l o);
    cut = λ o. cuts.in_next (cuts.in_others i l o);
    bad = λ j fault o. unfit_in o (λ due last k. r.to_next (r.after_x i l k));
    shorter = omega (arith, tests_shorter i, items_shorter l);
  }

  -- what a later alternative begins with leads to the rest of it, as the grammar says
  later_by_meant : {t q : List ℕ} {form : d.Form} (m : ℕ) → At size m q → IsForm size (in_braces c) AtNext t form q
      → LaterMeant t (d.later_by lists c at form (left m q))
  later_by_meant m place (form_patterns e o) = next_front e
  later_by_meant m place (form_tests i) = meant_as (x_meant AtNext m i place) (λ x q o. later_turn o) (λ o. cuts.in_next o)
      (λ j fault o. unfit_in o (λ due last k. r.to_next k))

  -- a byte that doesn't fit in the tests of a later alternative doesn't fit in the later ones
  next_bad : {t : List ℕ} {k : ℕ} {fault : SyntaxFault} → TestBad at size (in_braces c) AtNext t k fault
      → LaterBad at size (in_braces c) t k fault
  next_bad (test_bad o h) = unfit (r.to_next (r.to_tests o)) h
  next_bad (emit_bad e o h) = next_front e

  -- where the text ends in the tests of a later alternative, it ends in the later ones
  next_cuts : {t : List ℕ} → TestCuts size (in_braces c) AtNext t → CutsLater size (in_braces c) t
  next_cuts (cut_test o) = cuts.in_next (cuts.in_tests o)
  next_cuts (cut_pattern e o) = next_front e

  -- after the X of a default, only the closing brace fits
  default_end_meant : {t mid q : List ℕ} {list : Items} {b : ℕ} (colon m : ℕ) → AreSpaces t (ascii.colon ∷ mid)
      → At size colon (ascii.colon ∷ mid) → AreItems size (in_x (in_braces c) no_test) mid list q → Ended InX b q → At size m q
      → LaterMeant t (if b == ascii.closing_brace then Took (Last (alternative colon no_test list no_choice)) (after 1 (left m q))
      else Stops m (EmptyTest at))
  default_end_meant {b = b} colon m sp a l (ended_by e) place =
      meant_byte b ascii.closing_brace (λ f. meant_took (omega (arith, place)) (s.default colon sp a (rw f at l)))
      (λ f. meant_stops (unfit (r.after_default sp (rw (ends_x b e f) at l)) (refuses_byte r.default_goes_on place)))

  -- a default is what the grammar says
  default_meant : {t : List ℕ} (m : ℕ) (u : List ℕ) → AreSpaces t u → At size m u → begins_with ascii.colon u ≡ true
      → LaterMeant t (d.default lists c at (left m u))
  default_meant m [] sp place e = differs (sym e)
  default_meant m (b ∷ mid) sp place e = meant_then (λ x end. if x.1 == ascii.closing_brace
      then Took (Last (alternative m no_test x.0 no_choice)) (after 1 end) else Stops end.at (EmptyTest at))
      (meant_within at (near no_test (m + 1) mid (omega (arith, place))))
      (λ x end there j. default_end_meant m end.at (rw (same b ascii.colon e) at sp) place j.0 j.1 there)
      (λ o. cuts.in_default (rw (same b ascii.colon e) at sp) o)
      (λ j fault o. unfit_in o (λ due last k. r.to_default (rw (same b ascii.colon e) at sp) k))

  -- one turn of the later alternatives is what the grammar says: a default, or an alternative with tests
  pub turn_meant : (n : ℕ) (text : List ℕ) → At size n text
      → LaterMeant text (if begins_with ascii.colon (past_white (left n text)).bytes then d.default lists c at (past_white (left n text))
      else then_read (d.form deep c at AtNext (left n text)) (λ f end. d.later_by lists c at f end))
  turn_meant n text place =
      let i = runs is_white text in
      meant_if (begins_with ascii.colon (drop (prefix_len is_white text) text)) (λ e. default_meant (n + prefix_len is_white text)
      (drop (prefix_len is_white text) text) (spaces i.0) (omega (arith, place, run_size i.0, i.1)) e)
      (λ e. meant_then (λ f end. d.later_by lists c at f end) (form_meant size deep c meets at AtNext n text place (next_stops _ e))
      (λ f end there o. later_by_meant end.at there o) (λ o. next_cuts o) (λ j fault o. next_bad o))

  -- the alternatives after the first, with the brace that closes them, are what the grammar says
  later_meant : (n : ℕ) (text : List ℕ) → At size n text → Meant size (AreLater size (in_braces c) text)
      (CutsLater size (in_braces c) text) (LaterBad at size (in_braces c) text) (d.later lists deep c at (left n text))
  later_meant n text place = repeat_meant (λ mid. if begins_with ascii.colon (past_white mid).bytes then d.default lists c at
      (past_white mid) else then_read (d.form deep c at AtNext mid) (λ f end. d.later_by lists c at f end)) turn_meant n text place

  -- the inside of braces

  -- what Descent makes of the inside of braces is what the grammar says
  abbrev pub BraceMeant : List ℕ → Read Brace → Type 0
  BraceMeant text x = Meant size (λ brace q. IsBrace size c text brace q) (CutsBrace size c text) (BraceBad at size (in_braces c) text) x

  -- after the first alternative, those after it are what the grammar says
  first_turn : {t q : List ℕ} {x : Turn Choices} (m : ℕ) → At size m q → IsTurn size (in_braces c) t x q
      → Meant size (AreChoices size (in_braces c) t) (CutsChoices size (in_braces c) t) (ChoicesBad at size (in_braces c) AtFront t)
      (after_turn (d.later lists deep c at) x (left m q))
  first_turn m place (is_last colon i a l) = meant_took place (s.last_choice colon i a l)
  first_turn {q = q} m place (is_more {asks} {list} colon i a l) = meant_then (λ others rest. Took
      (alternative colon asks list others) rest)
      (later_meant m q place) (λ others rest there o. meant_took there (s.next_choice colon i a l o)) (λ o. cuts.in_others i l o)
      (λ j fault o. unfit_in o (λ due last k. r.after_x i l k))

  -- what braces begin with leads to the rest of them, as the grammar says
  choices_by_meant : {t q : List ℕ} {form : d.Form} → (c.levels == 0) ≡ false → (m : ℕ) → At size m q
      → IsForm size (in_braces c) AtFront t form q → BraceMeant t (d.choices_by lists deep c at form (left m q))
  choices_by_meant outer m place (form_patterns e o) = meant_took (omega (arith, place)) (s.emits outer o)
  choices_by_meant outer m place (form_tests {mid} {asks} i) =
      meant_then (λ x end. mapped Choose (then_read (d.choice_turn m asks x end) (after_turn (d.later lists deep c at))))
      (meant_within at (near asks (m + 1) mid (omega (arith, place))))
      (λ x end there j. meant_then (λ y rest. Took (Choose y) rest) (meant_then (after_turn (d.later lists deep c at))
      (x_end_meant m end.at i place j.0 j.1 there) (λ y rest here o. first_turn rest.at here o) (λ o. o) (λ j fault o. o))
      (λ y rest here o. meant_took here (s.chooses outer o)) (λ o. cuts.cut_chooses outer o) (λ j fault o. unfit_in o
      (λ due last k. r.in_choices k)))
      (λ o. cuts.cut_chooses outer (cuts.in_choice i o)) (λ j fault o. unfit_in o (λ due last k. r.in_choices (r.to_x i k)))

  -- the inside of braces with the brace that closes them is what the grammar says
  pub brace_meant : (c.levels == 0) ≡ false → (n : ℕ) (text : List ℕ) → At size n text
      → BraceMeant text (d.choices lists deep c at (left n text))
  brace_meant outer n text place = meant_then (λ f end. d.choices_by lists deep c at f end)
      (form_meant size deep c meets at AtFront n text place (front_stops _))
      (λ f end there o. choices_by_meant outer end.at there o) (λ o. ends o) (λ j fault o. bad o)
    where
      ends : {t : List ℕ} → TestCuts size (in_braces c) AtFront t → CutsBrace size c t
      ends (cut_test o) = cuts.cut_chooses outer (cuts.in_tests o)
      ends (cut_pattern e o) = cuts.cut_emits outer o

      -- a test that is refused refuses the braces
      bad : {t : List ℕ} {k : ℕ} {fault : SyntaxFault} → TestBad at size (in_braces c) AtFront t k fault
          → BraceBad at size (in_braces c) t k fault
      bad (test_bad o h) = unfit (r.in_choices (r.to_tests o)) h
      bad (emit_bad e o h) = unfit (r.in_emits o) h

-- Items and lists of items: what Descent makes of them is what the grammar says.

-- what Descent makes of an item is what the grammar says
abbrev pub ItemMeant : ListContext → ℕ → List ℕ → Read Item → Type 0
ItemMeant c size text x = Meant size (λ item q. IsItem size c text item q) (CutsItem size c text) (ListBad size c text) x

-- a byte that doesn't fit inside a directive doesn't fit in the list
burst_item : {c : ListContext} {size b misfit : ℕ} {directive : Directive} {t : List ℕ} {fault : SyntaxFault} (n : ℕ)
    → directive_of b ≡ directive → is_allowed c.in_arguments b ≡ true
    → At size n (ascii.percent ∷ b ∷ t) → Bursts c n size directive t misfit fault → ListBad size c (ascii.percent ∷ b ∷ t) misfit fault
burst_item {c} {size} n e al place (inside {t = t} {last} {due} reaches refuses) =
    unfit (r.in_directive place al (subst (λ (other : Directive). ReachesIn size c n other t due last) (sym e) reaches)) refuses
burst_item {c} {b = b} n e al place (breaks {last = last} i h) =
    let f = up_more (ascii.percent ∷ b ∷ []) h in
    unfit r.item_due (refuses_at (r.breaks_off (up_place n place f) al (subst (λ (other : Directive). Breaks c other last) (sym e) i)) f)
burst_item {b = b} n e al place (hides (no_pattern i h)) =
    let f = up_more (ascii.percent ∷ b ∷ []) (up_byte h) in unfit r.item_due (refuses_at (r.hides_nothing (up_place n place f) al e i) f)
burst_item {b = b} n e al place (unknown level (name_bad i h)) =
    let f = up_more (ascii.percent ∷ b ∷ []) h in unfit r.item_due (refuses_at (r.item_no_function (up_place n place f) al e level i) f)

-- a byte that doesn't fit in a call doesn't fit in the directive %:
call_burst : {c : ListContext} {n size k : ℕ} {t : List ℕ} {fault : SyntaxFault} → (c.levels == 0) ≡ false → CallBad c n size t k fault
    → Bursts c n size WithCall t k fault
call_burst e (no_function i) = unknown e i
call_burst e (in_list name is (unfit reaches refuses)) = inside (r.in_call name e is reaches) refuses

-- the lists in a list with the context c are what the grammar says
module _ (size : ℕ) (lists deep : Lists) (c : ListContext)
    (meets : (c.levels == 0) ≡ false → (g : ListContext) → g.levels ≡ c.levels - 1 → Reads size g lists)
    (deeper : (c.levels - 1 == 0) ≡ false → (g : ListContext) → g.levels ≡ c.levels - 1 - 1 → Reads size g deep) where
  -- a call after %: is what the grammar says
  call_read : (at n : ℕ) (text : List ℕ) → At size n text → (c.levels == 0) ≡ false
      → DirMeant c at WithCall size text (d.call lists c at (left n text))
  call_read at n text place e = meant_as (call_meant Function c e lists size (meets e (in_arguments c) refl) at at n text place)
      (λ x q i. called i) (λ o. cuts.cut_function o) (λ j fault o. call_burst e o)
    where
      called : {x : Item} {q : List ℕ} → CallIs Function size c text x q → IsDirective size c WithCall text x q
      called (call_is i) = s.function i

  -- the inside of braces is what the grammar says
  brace_read : {at : ℕ} {directive : Directive} {whole : List ℕ} (kind : BraceKind) (n : ℕ) (text : List ℕ)
      → At size n text → (e : (c.levels == 0) ≡ false) → ((brace : Brace) (q : List ℕ) → s.IsBrace size c text brace q
      → IsDirective size c directive whole (braced kind brace) q) → (cuts.CutsBrace size c text → cuts.CutsDirective size c directive whole)
      → ((due : Due) (last : List ℕ) → r.ReachesBrace size (in_braces c) at text due last → ReachesIn size c at directive whole due last)
      → DirMeant c at directive size whole (d.braces lists deep c at kind (left n text))
  brace_read {at} {directive} {whole} kind n text place e is ends reaches = meant_then (λ brace rest. Took (braced kind brace) rest)
      (brace_meant size lists deep c (λ asks. meets e (in_x (in_braces c) asks) refl) (λ h. deeper h (in_arguments
      (in_braces c)) refl) at e n
      text place) (λ brace rest there o. meant_took there (is brace rest.bytes o)) (λ o. ends o) (λ j fault o. bad o)
    where
      bad : {misfit : ℕ} {fault : SyntaxFault}
          → BraceBad at size (in_braces c) text misfit fault → Bursts c at size directive whole misfit fault
      bad (unfit {due} {last} o h) = inside (reaches due last o) h

  -- %W and %@ with their braces are what the grammar says
  marked_read : (at : ℕ) (kind : BraceKind) (n : ℕ) (text : List ℕ) → At size n text → (c.levels == 0) ≡ false
      → DirMeant c at (WithMarkedBraces kind) size text (d.marked_braces lists deep c at kind (left n text))
  marked_read at kind n [] place e = meant_ends (cuts.cut_mark e)
  marked_read at kind n (b ∷ text) place e =
      meant_byte b ascii.opening_brace (λ f. rw f (brace_read kind (n + 1) text (omega (arith, place)) e (λ brace q o. s.marked_braces o)
      (λ o. cuts.cut_marked_braces o) (λ due last o. r.in_marked e o))) (λ f. meant_stops (breaks (r.no_brace e f) (up_byte place)))

  -- a directive whose byte b, at the place n + 1, is allowed
  module _ (n b : ℕ) (text : List ℕ) (place : At size n (ascii.percent ∷ b ∷ text)) (al : is_allowed c.in_arguments b ≡ true) where
    -- what Descent makes of a directive is what the grammar says
    abbrev ByteMeant : Read Item → Type 0
    ByteMeant x = ItemMeant c size (ascii.percent ∷ b ∷ text) x

    -- a directive whose text after its byte is meant is meant
    through : {f : Directive} {x : Read Item} → directive_of b ≡ f → DirMeant c n f size text x → ByteMeant x
    through {f} e i = meant_as i (λ x q j. s.directive al (subst (λ (g : Directive). IsDirective size c g text x q) (sym e) j))
        (λ j. cuts.cut_directive al (subst (λ (g : Directive). cuts.CutsDirective size c g text) (sym e) j))
        (λ k fault j. burst_item n e al place j)

    -- the text after the byte of the directive
    inner : At size (n + 1 + 1) text
    inner = omega (arith, place)

    -- a byte that is refused as that of a directive doesn't fit
    refused : (fault : SyntaxFault) → (At (n + 1 + 1) n (ascii.percent ∷ b ∷ [])
        → Refuses (n + 1 + 1) (AnItem c) (ascii.percent ∷ b ∷ []) fault) → ByteMeant (Stops (n + 1) fault)
    refused fault f =
        let p : At size (n + 1) (b ∷ text) = omega (arith, place) in
        meant_stops (unfit r.item_due (refuses_at (f (omega arith)) (up_more (ascii.percent ∷ []) (up_byte p))))

    -- %* is what the grammar says, by what it finds around it
    star_read : directive_of b ≡ OfStar → (owner : Owner) → c.owner ≡ owner → ByteMeant (d.star n (n + 1) owner (left (n + 1 + 1) text))
    star_read e Nobody f = refused (StarOutside n) (λ two. r.star_outside two al e f)
    star_read e Mixed f = refused (MixedStar n) (λ two. r.mixed_star two al e f)
    star_read e Starred f = through e (meant_took inner (s.star f))

    -- braces and arguments are what the grammar says, whether a level is left or not
    nested_read : {f : Directive} {x : Read Item} → directive_of b ≡ f → r.nests f ≡ true
        → ((c.levels == 0) ≡ false → DirMeant c n f size text x) → ByteMeant (d.nested c.levels n (n + 1) x)
    nested_read e nests i = meant_if (c.levels == 0)
        (λ h. refused (TooNested n) (λ two. r.item_within_all two al (ap (λ (g : Directive). r.nests g) e ∙ nests) h)) (λ h. through e
        (i h))

    -- a directive, by its byte, is what the grammar says
    directive_read : (f : Directive) → directive_of b ≡ f → ByteMeant (d.directive_by lists deep c n (n + 1) f (left (n + 1 + 1) text))
    directive_read Nowhere e = refused (BadDirective n) (λ two. r.no_directive two al e)
    directive_read (Whole one) e = through e (meant_took inner s.whole)
    directive_read (Named letter) e = through e (meant_took inner s.named)
    directive_read (WithSuffix kind) e = through e (suffix_meant c n kind (n + 1 + 1) text inner)
    directive_read WithOption e = through e (option_meant c n (n + 1 + 1) text inner)
    directive_read (WithSaying kind) e = through e (saying_meant c n kind (n + 1 + 1) text inner)
    directive_read WithName e = through e (name_meant c n (n + 1 + 1) text inner)
    directive_read WithPattern e = through e (hide_meant c n (n + 1 + 1) text inner)
    directive_read OfStar e = star_read e c.owner refl
    directive_read WithCall e = nested_read e refl (λ h. call_read n (n + 1 + 1) text inner h)
    directive_read WithBraces e = nested_read e refl (λ h. brace_read InPlace (n + 1 + 1) text inner h (λ brace q o. s.braces o)
        (λ o. cuts.cut_braces o) (λ due last o. r.in_place h o))
    directive_read (WithMarkedBraces kind) e = nested_read e refl (λ h. marked_read n kind (n + 1 + 1) text inner h)

  -- what follows a percent sign is what the grammar says
  pub percent_read : (n : ℕ) (text : List ℕ) → At size n (ascii.percent ∷ text)
      → ItemMeant c size (ascii.percent ∷ text) (d.directive lists deep c n (left (n + 1) text))
  percent_read n [] place = meant_ends cuts.cut_percent
  percent_read n (b ∷ text) place = meant_if (is_allowed c.in_arguments b) (λ al. directive_read n b text place al (directive_of b) refl)
      (λ e. let p : At size (n + 1) (b ∷ text) = omega (arith, place) in
      meant_stops (unfit r.item_due (refuses_at (r.not_allowed (omega arith) e) (up_more (ascii.percent ∷ []) (up_byte p)))))

  -- a byte that Descent doesn't find to end a list, and that is no backslash or percent sign, ends none by the grammar
  open_list : (b : ℕ) → (b == ascii.backslash) ≡ false → (b == ascii.percent) ≡ false → d.ends_list c.kind b ≡ false
      → is_end c.kind b ≡ false
  open_list b e g h = let f : d.ends_list c.kind b ≡ is_end c.kind b = rw (e, g) refl in sym f ∙ h

  -- an item that doesn't end the list is what the grammar says
  item_read : (n b : ℕ) (text : List ℕ) → At size n (b ∷ text) → d.ends_list c.kind b ≡ false
      → ItemMeant c size (b ∷ text) (d.item lists deep c b (left n (b ∷ text)))
  item_read n b text place h = meant_byte b ascii.backslash (λ e. rw e (escape text place))
      (λ e. meant_byte b ascii.percent (λ g. rw g (percent_read n text place))
      (λ g. meant_if (is_blank b) (λ i. meant_took (omega (arith, place)) (s.blank i))
      (λ i. meant_byte b ascii.newline (λ j. meant_took (omega (arith, place)) (rw j s.newline))
      (λ j. choose (λ z. ItemMeant c size (b ∷ text) (Took z (after 1 (left n (b ∷ text))))) (b == ascii.bar) _ _
      (λ k. meant_took (omega (arith, place)) (rw (same b ascii.bar k) s.pipe))
      (λ k. meant_took (omega (arith, place)) (s.plain (plain e g i j k) (open_list b e g h)))))))
    where
      -- after a backslash, the byte that follows is the item
      escape : (t : List ℕ)
          → At size n (ascii.backslash ∷ t) → ItemMeant c size (ascii.backslash ∷ t) (d.escape (left n (ascii.backslash ∷ t)))
      escape [] p = meant_ends cuts.cut_escape
      escape (x ∷ t) p = meant_took (omega (arith, p)) s.escape

      -- any other byte is a plain one
      plain : (b == ascii.backslash) ≡ false
          → (b == ascii.percent) ≡ false → is_blank b ≡ false → (b == ascii.newline) ≡ false → (b == ascii.bar) ≡ false → is_plain b ≡ true
      plain e g i j k = let m = not_of ascii.space (ascii.tab ∷ []) b i in rw (e, g, k, m.0, (not_of ascii.tab [] b m.1).0, j) refl

  -- the items of a list

  -- what one turn of a list makes of a text is what the grammar says
  abbrev pub TurnMeant : List ℕ → Read (Turn (Items × ℕ)) → Type 0
  TurnMeant text x = Meant size (Turned (λ t y q. AreItems size c t y.0 q × Ended c.kind y.1 q) (AreFrontItems size c)
      (ListBad size c) text) (AreFrontItems size c text) (ListBad size c text) x

  -- the end of a text ends a whole text, or cuts another list short, as the grammar says
  end_read : (n : ℕ) → At size n [] → (kind : Kind) → c.kind ≡ kind → TurnMeant [] (d.list_end kind (left n []))
  end_read n place Top e = meant_took place (
    s.no_item (subst (λ k. s.EndsList k []) (sym e) s.text_ends),
    subst (λ k. Ended k 0 []) (sym e) ended_top,
  )
  end_read n place InX e = meant_ends cuts.items_end
  end_read n place InArguments e = meant_ends cuts.items_end

  -- a byte that Descent finds to end a list ends it by the grammar
  ends_read : (b : ℕ) → d.ends_list c.kind b ≡ true → is_end c.kind b ≡ true
  ends_read b h = by (b == ascii.backslash) (b == ascii.percent) refl refl
    where
      by : (x y : Bool) → (b == ascii.backslash) ≡ x → (b == ascii.percent) ≡ y → is_end c.kind b ≡ true
      by true y e g = differs (sym (rw e at h))
      by false true e g = differs (sym (rw (e, g) at h))
      by false false e g = rw (e, g) at h

  -- one item of a list, or its end, is what the grammar says
  pub turn_read : (n : ℕ) (text : List ℕ) → At size n text → TurnMeant text (d.item_turn lists deep c (left n text))
  turn_read n [] place = end_read n place c.kind refl
  turn_read n (b ∷ text) place =
      meant_if (d.ends_list c.kind b) (λ e. meant_took place (s.no_item (s.list_ends (ends_read b e)), ended_by (ends_read b e)))
      (λ e. meant_then (λ one end. Took (More (λ list. (more (span n end.at) one list.0, list.1))) end) (item_read n b text place e)
      (λ one end there i. meant_took there (record {
        is = λ y q o. (s.next_item place i there o.0, o.1);
        cut = λ o. cuts.whole_item i o;
        bad = λ j fault o. unfit_in o (λ due last j. r.after_item i j);
        shorter = item_shorter i;
      })) (λ o. cuts.cut_item o) (λ j fault o. o))

  -- the items of a list are what the grammar says
  pub items_read : Reads size c (λ g rest. d.items lists deep g rest)
  items_read n text place = repeat_meant (λ rest. d.item_turn lists deep c rest) turn_read n text place

-- What Descent makes of a text is what the grammar says of it: the laws `read_is_spelled`, `unrefused_is_front` and `refused_kinds`.

-- a whole text is what the grammar says of a list with 64 levels
text_read : (text : List ℕ) → ListMeant top (length text) text ((levels (depth text)).0 top (left 0 text))
text_read text = (all_levels (λ lists c. Reads (length text) c lists) (items_read (length text)) (depth text)).0 top (sym (depth_is text)) 0
    text (omega arith)

-- where Descent gives a tree, the grammar says that the text has this tree
pub read_is_spelled : (text : List ℕ) (items : Items) → read text ≡ Got items → Spells text items
read_is_spelled text items e = by (text_read text) e
  where
    by : {r : Read (Items × ℕ)} → ListMeant top (length text) text r → outcome r ≡ Got items → Spells text items
    by (meant_took {x} {rest} place i) e =
        let same_items : x.0 ≡ items = cc in
        subst (λ (z : Items). Spells text z) same_items (subst (AreItems (length text) top text x.0) (top_end i.1) i.0)
    by (meant_ends i) e = absurd cc
    by (meant_stops i) e = absurd cc

-- a text with a tree is a front
front_of : {size : ℕ} {c : ListContext} {text rest : List ℕ} {items : Items} → AreItems size c text items rest → rest ≡ []
    → AreFrontItems size c text
front_of {size} {c} (s.no_item e) z = subst (λ (t : List ℕ). AreFrontItems size c t) (sym z) cuts.items_end
front_of (s.next_item a i b l) z = cuts.whole_item i (front_of l z)

-- a text that Descent doesn't refuse is a front of a spec text by the grammar
pub unrefused_is_front : (text : List ℕ) → Unrefused text → Front text
unrefused_is_front text (inl (items, e)) = front_of (read_is_spelled text items e) refl
unrefused_is_front text (inr (at, e)) = by (text_read text) e
  where
    by : {r : Read (Items × ℕ)} → ListMeant top (length text) text r → outcome r ≡ Cut at → Front text
    by (meant_took place i) e = absurd cc
    by (meant_ends i) e = i
    by (meant_stops i) e = absurd cc

-- where Descent refuses a text, its place is in the text, and a case of the grammar refuses it up to that byte, with the same fault
pub refused_at : (text : List ℕ) (k : ℕ) (fault : SyntaxFault) → read text ≡ Bad k fault
    → (k < length text) × IsRefused (take (k + 1) text) fault
refused_at text k fault e = by (text_read text) e
  where
    -- Plan: by what Descent makes of the text (`by`): where it refuses, `cut` turns what leads there into what the text up to that byte
    -- does.
    cut : {due : Due} {t last : List ℕ} {cause : SyntaxFault} (misfit : ℕ) (others : List ℕ)
        → Reaches (length text) top text due t → Refuses (misfit + 1) due last cause
        → t ≡ last ++ others → At (length text) (misfit + 1) others → IsRefused (take (misfit + 1) text) cause
    cut {due} {last = last} {cause} misfit others reaches refuses split place =
        let ready = subst (λ (u : List ℕ). Ready others [] due (last ++ others) u) (append-nil last) (refuses_ready others [] refuses) in
        let m = reaches_moved others [] {whole = misfit + 1} (omega (arith, place)) (rw split at reaches) ready in
        let swap = any others [] (loose others [] m.swaps) in
        let size : misfit + 1 ≡ length m.text = omega (arith, swaps_size others [] swap, place) in
        let front : m.text ≡ take (misfit + 1) text = sym (ap (λ (u : List ℕ). take (misfit + 1) u) (swaps_front others [] refl swap)
        ∙ ap (λ (n : ℕ). take n (m.text ++ others)) size ∙ take-append_seam m.text others) in
        subst (λ (u : List ℕ). IsRefused u cause) front (record {
          due = due;
          last = last;
          reached = subst (λ (n : ℕ). Reaches n top m.text due last) size m.is;
          refused = subst (λ (n : ℕ). Refuses n due last cause) size refuses;
        })

    by : {part : Read (Items × ℕ)}
        → ListMeant top (length text) text part → outcome part ≡ Bad k fault → (k < length text) × IsRefused (take (k + 1) text) fault
    by (meant_took place i) e = absurd cc
    by (meant_ends i) e = absurd cc
    by (meant_stops {k = misfit} {fault = cause} (unfit reaches (refuses_at refuses (up_to others split place)))) e =
        let at : misfit ≡ k = cc in let same : cause ≡ fault = cc in (
          omega (arith, place, at),
          subst (λ (n : ℕ). IsRefused (take (n + 1) text) fault) at
              (subst (λ (why : SyntaxFault). IsRefused (take (misfit + 1) text) why) same (cut misfit others reaches refuses split place)),
        )

-- where Descent refuses a text, a case of the grammar refuses it up to the byte that doesn't fit, with the same fault
pub refused_kinds : (text : List ℕ) (k : ℕ) (fault : SyntaxFault) → read text ≡ Bad k fault → IsRefused (take (k + 1) text) fault
refused_kinds text k fault e = (refused_at text k fault e).1
