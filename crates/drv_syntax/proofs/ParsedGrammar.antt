use Rattle.drv_words.specs.Gives.{Gives}
use Rattle.drv_syntax.proofs.CutsRead.{EndsIn, after_one, item_cut, open_place}
use Rattle.drv_syntax.proofs.Depth.{depth_is}
use Rattle.drv_syntax.proofs.Here.{here}
use Rattle.drv_syntax.proofs.ItemsRead.{Inner, item_on, turn}
use Rattle.drv_syntax.proofs.Leads.{le_true}
use Rattle.drv_syntax.proofs.MeantWhole.{read_is_spelled, unrefused_is_front, refused_kinds}
use Rattle.drv_syntax.proofs.Refusals as fronts
use Rattle.drv_syntax.proofs.Refusals.{misfit_at}
use Rattle.drv_syntax.proofs.Shorter.{Loops, item_shorter}
use Rattle.drv_syntax.proofs.WholeRead.{inner, levels_known, spelled_is_read, start, refusal_kinds}
use Rattle.drv_syntax.specs.Contexts.{Top, in_arguments, in_braces, in_x, top}
use Rattle.drv_syntax.specs.Descent as d
use Rattle.drv_syntax.specs.Descent.{Ends, Read, Stops, Took, levels}
use Rattle.drv_syntax.specs.Directives.{directive_of}
use Rattle.drv_syntax.specs.Faults.{IsCutAt, IsOpenAt, after_item, is_closed_by_end, open_byte, open_directive, open_last, MemoryOrRefused}
use Rattle.drv_syntax.specs.Faults.{Refused, cut_short, misfit, too_long}
use Rattle.drv_syntax.specs.Fronts as cuts
use Rattle.drv_syntax.specs.Fronts.{AreFrontItems, CutsItem, Front}
use Rattle.drv_syntax.specs.Outcome.{Cut, Got, outcome, read, Bad, Out, judged, parsed, text_limit}
use Rattle.drv_syntax.specs.Parsed.{tree_of}
use Rattle.drv_syntax.specs.Refusals.{IsRefused}
use Rattle.drv_syntax.specs.Rest.{Left}
use Rattle.drv_syntax.specs.Spelling.{AreItems, Spells, next_item, no_item, span, text_ends}
use Rattle.drv_syntax.specs.Tree.{Items, more, none}
use Rattle.drv_syntax.specs.declared.fault.SyntaxFault.TheVariants.{Memory, TextTooLong, Unclosed}
use Rattle.drv_syntax.specs.declared.fault.SyntaxFault.{SyntaxFault}
use Rattle.std.proofs.Common.{sym, ℕ, ◌<◌, ◌⊎◌, inl, ◌+◌, ◌++◌, drop, take, take-append-drop, ◌≡◌, ◌≤◌, ◌∙◌, ◌-◌, Bool, false, true}
use Rattle.std.proofs.Common.{if◌then◌else◌, List, [], ◌∷◌, ap, arith, length, refl, subst, inr, suc}
use Rattle.std.proofs.lemmas.Bool.Decides.{nat_tests}
use Rattle.std.specs.Prelude.{Err, IfErr, Ok, Result, nat_le}

-- A text that is cut short is cut at the place of what is open at its end, and at no other: the law `cut_at_open`. Descent is the grammar
-- as functions (specs/Descent). The grammar itself has cases (specs/Spelling, Fronts, Refusals).
-- Names: `size`: the length of the whole text. `place`: a place in the text. `t`: a text, or what is left of it. `r`: what was read.
-- `level`: how many levels of lists may open. `z`: a test's value, so that `by` can go by both cases. `rest`: what follows in the text.
-- `l`: what is left. `top`: the list that a whole text is. `text_limit`: a spec text has at most so many bytes. `read`: what a text gives.
-- `parsed`: the tree of a text, or its fault. `judged`: what a text gives. `Refused`: a text has no tree for this fault. `Spells`: a text
-- has this tree. `IsOpenAt`: the place of what a text of this size leaves open at its end, after whole items. `IsCutAt text place`: a text
-- without a tree is cut short, and at this place is what it leaves open.

-- a whole text of this size, which may have 64 levels
module _ (size level : ℕ) (is : level ≡ 63) where
  -- what is known of the lists in a whole text
  known : Inner size (levels level).0 (levels level).1 top
  known = inner top (λ h c e. (levels_known size level).0 c (omega (arith, e, is)))
      (λ h c e. (levels_known size level).1 c (omega (arith, e, is)))

  -- one turn of the loop over the items of a whole text
  abbrev step : Left → d.Read (d.Turn (Items × ℕ))
  step rest = turn size (levels level).0 (levels level).1 top rest

  -- where the text ends in an item that is open at this place, it is cut there, or has a tree
  opens : {t : List ℕ} (i : CutsItem size top t) → length t ≤ size
      → (r : Read (Items × ℕ)) × Loops step (here size t) r × EndsIn size Top (open_place size i) r
  opens i h = let m = item_cut size (levels level).0 (levels level).1 top known
      (λ e. ((levels_known size level).0 (in_arguments top) (omega (arith, is))).1)
      (λ e tests. ((levels_known size level).0 (in_x (in_braces top) tests) (omega (arith, is))).1)
      (λ e. ((levels_known size level).1 (in_arguments (in_braces top)) (omega (arith, is))).1) i h in (m.0, m.1, m.2)

  -- a text that leaves something open at this place by the grammar is cut there, or has a tree
  open_is_cut : {t : List ℕ} {place : ℕ} → IsOpenAt size t place → length t ≤ size
      → (r : Read (Items × ℕ)) × Loops step (here size t) r × EndsIn size Top place r
  open_is_cut {place = place} (open_byte cuts.cut_escape a) h =
      let e : size - 1 ≡ place = omega (arith, a) in rw (← e) (opens cuts.cut_escape h)
  open_is_cut {place = place} (open_byte cuts.cut_percent a) h =
      let e : size - 1 ≡ place = omega (arith, a) in rw (← e) (opens cuts.cut_percent h)
  open_is_cut {place = place} (open_directive {b} {text = text} e (cuts.cut_directive f i) a) h =
      let n : size - suc (suc (length text)) ≡ place = omega (arith, a) in let m = opens (cuts.cut_directive {b = b} f i) h in (
        m.0,
        m.1,
        subst (λ (n : ℕ). EndsIn size Top n m.0) (ap (λ (z : Bool). if z then size - 1 else size - suc (suc (length text))) e ∙ n) m.2,
      )
  open_is_cut {place = place} (open_last {b} {text = text} e (cuts.cut_directive f i) a) h =
      let n : size - 1 ≡ place = omega (arith, a) in let m = opens (cuts.cut_directive {b = b} f i) h in (
        m.0,
        m.1,
        subst (λ (n : ℕ). EndsIn size Top n m.0) (ap (λ (z : Bool). if z then size - 1 else size - suc (suc (length text))) e ∙ n) m.2,
      )
  open_is_cut {t} {place} (after_item {rest = mid} {item = item} i o) h =
      let m = open_is_cut o (omega (arith, item_shorter i, h)) in (
        _,
        item_on size (levels level).0 (levels level).1 top known i h m.1,
        after_one size Top place (more (span (size - length t) (size - length mid)) item) m.0 m.2,
      )

  -- an item in which the text ends is open at a place
  item_open : {t : List ℕ} → CutsItem size top t → length t ≤ size → (n : ℕ) × IsOpenAt size t n
  item_open cuts.cut_escape h = (size - 1, open_byte cuts.cut_escape (omega (arith, h)))
  item_open cuts.cut_percent h = (size - 1, open_byte cuts.cut_percent (omega (arith, h)))
  item_open (cuts.cut_directive {b} {text} f i) h = by (is_closed_by_end (directive_of b)) refl
    where
      by : (z : Bool) → is_closed_by_end (directive_of b) ≡ z → (n : ℕ) × IsOpenAt size (37 ∷ b ∷ text) n
      by true c = (size - 1, open_last c (cuts.cut_directive f i) (omega (arith, h)))
      by false c = (size - suc (suc (length text)), open_directive c (cuts.cut_directive f i) (omega (arith, h)))

  -- a front has a tree, or is open at a place
  open_or_whole : {t : List ℕ} → AreFrontItems size top t → length t ≤ size
      → ((n : ℕ) × IsOpenAt size t n) ⊎ ((items : Items) × AreItems size top t items [])
  open_or_whole cuts.items_end h = inr (none, no_item text_ends)
  open_or_whole {t} (cuts.whole_item {rest = mid} {item = item} i l) h = by (open_or_whole l (omega (arith, item_shorter i, h)))
    where
      by : ((n : ℕ) × IsOpenAt size mid n) ⊎ ((items : Items) × AreItems size top mid items [])
          → ((n : ℕ) × IsOpenAt size t n) ⊎ ((items : Items) × AreItems size top t items [])
      by (inl (n, o)) = inl (n, after_item i o)
      by (inr (items, is)) = inr (
        more (span (size - length t) (size - length mid)) item items,
        next_item (omega (arith, h)) i (omega (arith, item_shorter i, h)) is,
      )
  open_or_whole (cuts.cut_item i) h = inl (item_open i h)

-- what is read of a text is what its loop of items gives
whole_is : (text : List ℕ) (r : Read (Items × ℕ)) → Loops (turn (length text) (levels 63).0 (levels 63).1 top) (here (length text) text) r
    → read text ≡ outcome r
whole_is text r l = ap (λ r. outcome r) (ap (λ (n : ℕ). (levels n).0 top (record { at = 0; bytes = text })) (depth_is text)
    ∙ ap (λ (l : Left). d.items (levels 63).0 (levels 63).1 top l) (start text) ∙ l.gives text (omega arith))

-- where by the grammar a text is cut short and open at this place, Descent says so
pub cut_there : (text : List ℕ) (place : ℕ) → IsCutAt text place → read text ≡ Cut place
cut_there text place c = let m = open_is_cut (length text) 63 refl c.is_open (omega arith) in by m.0 (whole_is text m.0 m.1) m.2
  where
    by : (r : Read (Items × ℕ)) → read text ≡ outcome r → EndsIn (length text) Top place r → read text ≡ Cut place
    by (Took list rest) e p = absurd (c.no_tree list.0 (read_is_spelled text list.0 e))
    by (Ends n) e p = e ∙ ap (λ (n : ℕ). Cut n) (p refl)
    by (Stops n fault) e p = absurd p

-- where Descent says that a text is cut short, it is, and open at this place by the grammar
pub cut_at : (text : List ℕ) (place : ℕ) → read text ≡ Cut place → IsCutAt text place
cut_at text place h = by (open_or_whole (length text) 63 refl (unrefused_is_front text (inr (place, h))) (omega arith))
  where
    -- Plan: the grammar leaves the text open, at the same place, or gives it a tree, which can't be (`no_tree`).
    no_tree : (items : Items) → Spells text items → ⊥
    no_tree items j = let z : Cut place ≡ Got items = sym h ∙ spelled_is_read text items j in absurd cc

    same : (n : ℕ) → Cut n ≡ Cut place → n ≡ place
    same n e = cc

    by : ((n : ℕ) × IsOpenAt (length text) text n) ⊎ ((items : Items) × Spells text items) → IsCutAt text place
    by (inl (n, o)) =
        let c : IsCutAt text n = record { is_open = o; no_tree = no_tree } in subst (IsCutAt text) (same n (sym (cut_there text n c) ∙ h)) c
    by (inr (items, j)) = absurd (no_tree items j)

-- What a text is parsed to, by the grammar: a tree spells it, and a fault is that of its case. It serves the laws `parsed_by_grammar` and
-- `refused_by_grammar`, and by them `parse`.

-- the result of a text that has this fault
abbrev failed : SyntaxFault → Result Items SyntaxFault
failed fault = Err fault

-- equal failed results have equal faults
err_is : (e f : SyntaxFault) → failed e ≡ failed f → e ≡ f
err_is e f h = cc

-- a number that the test doesn't find at most another is more
le_false : (m n : ℕ) → nat_le m n ≡ false → n < m
le_false m n h = grind (arith, nat_tests)

-- a text that isn't too long is parsed to what Descent gives
pub allowed : (text : List ℕ) (out : Out) → length text ≤ text_limit → read text ≡ out → parsed text ≡ judged out
allowed text out h e =
    let f : nat_le (length text) text_limit ≡ true = grind (arith, nat_tests) in
    ap (λ (z : Bool). if z then judged (read text) else Err TextTooLong) f ∙ ap (λ (o : Out). judged o) e

-- any text
module _ (text : List ℕ) where
  -- what a text is parsed to, by whether it is too long
  abbrev by_size : (fits : Bool) → Result Items SyntaxFault
  by_size fits = if fits then judged (read text) else Err TextTooLong

  -- a text that is parsed to a tree has this tree by the grammar
  pub parsed_spelled : (items : Items) → parsed text ≡ Ok items → Spells text items
  parsed_spelled items h = by (nat_le (length text) text_limit) refl
    where
      -- Plan: by whether the text fits the limit (`by`); a text that doesn't has no tree (`long`).
      given : (out : Out) → read text ≡ out → judged out ≡ Ok items → Spells text items
      given (Got others) e d = read_is_spelled text items (e ∙ (let same : others ≡ items = cc in ap Got same))
      given (Cut at) e d = absurd cc
      given (Bad k fault) e d = absurd cc

      long : Err TextTooLong ≡ Ok items → Spells text items
      long e = absurd cc

      by : (fits : Bool) → nat_le (length text) text_limit ≡ fits → Spells text items
      by true e = given (read text) refl (sym (ap by_size e) ∙ h)
      by false e = long (sym (ap by_size e) ∙ h)

  -- a text that is parsed to a fault is refused for it by the grammar
  pub parsed_refused : (fault : SyntaxFault) → parsed text ≡ Err fault → Refused text fault
  parsed_refused fault h = by (nat_le (length text) text_limit) refl
    where
      -- Plan: by whether the text fits the limit (`by`), and then by what Descent gives (`given`).
      is_fault : {other : SyntaxFault} → other ≡ fault → Refused text other → Refused text fault
      is_fault e = subst (λ (f : SyntaxFault). Refused text f) e

      -- a text within the limit is refused for the reason that Descent gives
      given : length text ≤ text_limit → (out : Out) → read text ≡ out → judged out ≡ Err fault → Refused text fault
      given short (Got items) e d = absurd cc
      given short (Cut at) e d = is_fault (err_is (Unclosed at) fault d) (cut_short short (cut_at text at e))
      given short (Bad place other) e d = is_fault (err_is other fault d)
          (misfit short (misfit_at text place other e) (refused_kinds text place other e))

      by : (fits : Bool) → nat_le (length text) text_limit ≡ fits → Refused text fault
      by true e = given (le_true e) (read text) refl (sym (ap by_size e) ∙ h)
      by false e = is_fault (err_is TextTooLong fault (sym (ap by_size e) ∙ h)) (too_long (le_false (length text) text_limit e))

  -- a text that is too long is refused for that
  pub long_refused : 1048576 < length text → Refused text TextTooLong
  long_refused h = too_long h

  -- a call that gives what the text is parsed to fails as the grammar says, or for lack of memory
  pub given_refused : (given : Result (List ℕ) SyntaxFault) → Gives Memory tree_of given (parsed text) → IfErr given (MemoryOrRefused text)
  given_refused (Ok x) d = tt
  given_refused (Err fault) (inl m) = inl m
  given_refused (Err fault) (inr d) = inr (parsed_refused fault d)

-- What is parsed, by the grammar: the laws `parsed_by_grammar` and `refused_by_grammar`.

-- a text with this tree by the grammar, if it isn't too long, is parsed to it
pub parsed_tree : (text : List ℕ) (items : Items) → length text ≤ text_limit → Spells text items → parsed text ≡ Ok items
parsed_tree text items h d = allowed text _ h (spelled_is_read text items d)

-- a text that a case of the grammar refuses is parsed to that fault, whatever follows, if the whole isn't too long
pub parsed_refusal : (text rest : List ℕ) (fault : SyntaxFault) → length (text ++ rest) ≤ text_limit → IsRefused text fault
    → parsed (text ++ rest) ≡ Err fault
parsed_refusal text rest fault h x = allowed (text ++ rest) _ h (refusal_kinds text rest fault x)

-- a front without a tree is parsed to `Unclosed`, with the place of what is open at its end
pub parsed_cut : (text : List ℕ) → length text ≤ text_limit → Front text → ((items : Items) → Spells text items → ⊥) → (place : ℕ)
    × IsCutAt text place × (parsed text ≡ Err (Unclosed place))
parsed_cut text h f g = let y = fronts.cut_front text f g in (y.0, cut_at text y.0 y.1, allowed text _ h y.1)

-- a text that is too long is parsed to that fault
pub parsed_long : (text : List ℕ) → text_limit < length text → parsed text ≡ Err TextTooLong
parsed_long text h =
    let f : nat_le (length text) text_limit ≡ false = grind (arith, nat_tests) in
    ap (λ (z : Bool). if z then judged (read text) else Err TextTooLong) f

-- a text that the grammar refuses for a fault is parsed to this fault
pub refused_parsed : {text : List ℕ} {fault : SyntaxFault} → Refused text fault → parsed text ≡ Err fault
refused_parsed {text} (too_long h) = parsed_long text h
refused_parsed {text} (cut_short {place} h c) = allowed text (Cut place) h (cut_there text place c)
refused_parsed {text} {fault} (misfit {place} h m r) =
    let e : take (place + 1) text ++ drop (place + 1) text ≡ text = take-append-drop (place + 1) text in
    subst (λ (x : List ℕ). parsed x ≡ Err fault) e
    (parsed_refusal (take (place + 1) text) (drop (place + 1) text) fault (subst (λ (x : List ℕ). length x ≤ text_limit) (sym e) h) r)
