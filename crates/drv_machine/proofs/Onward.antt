use Rattle.drv_machine.proofs.ItemKinds.{builtin_item, inner_step, item_by_kind, text_item}
use Rattle.drv_machine.proofs.Laws.{run_then, then_same, then_then}
use Rattle.drv_machine.proofs.Lying.{Reached, joined, lies_alone, lies_after, lies_joined, nothing_left}
use Rattle.drv_machine.proofs.Standing.{next_at, some_same}
use Rattle.drv_machine.proofs.WorkSteps.{item_means}
use Rattle.drv_machine.specs.Atoms.{choices_step, item_step, items_step, levels_left, matching, named, tree_named}
use Rattle.drv_machine.specs.Code.ByKind.{Means, kind_step}
use Rattle.drv_machine.specs.Context.{Context, argument, names}
use Rattle.drv_machine.specs.Code.Running.{Machine, run}
use Rattle.drv_machine.specs.Code.Standing.{PartAt, Stands}
use Rattle.drv_machine.specs.Code.Walking.{After, Around, Following, Fits, Framed, HitFits, Kept, Left, Lies, OpenedFits, Skips, Went}
use Rattle.drv_machine.specs.Code.Walking.{back_of, closing, each_from, ends, hit_step, hits_left, levels_in, nothing_kept, onward, star_of}
use Rattle.drv_machine.specs.Code.Walking.{text_around, weight}
use Rattle.drv_machine.specs.Working.{◌>>-◌, ◌>>◌, Answer, Break, Levels, Step, counted, most_open, puts, word_of}
use Rattle.drv_machine.specs.declared.fault.MachineFault.TheVariants.{Memory, SpecTooDeep}
use Rattle.drv_machine.specs.declared.fault.MachineFault.{MachineFault}
use Rattle.drv_machine.specs.declared.walk.Each.{Each}
use Rattle.drv_machine.specs.declared.walk.Frame.{Frame}
use Rattle.drv_machine.specs.declared.walk.Opened.TheVariants.{Hit}
use Rattle.drv_machine.specs.declared.walk.Opened.{Opened}
use Rattle.drv_machine.specs.declared.walk.Rest.{Rest}
use Rattle.drv_machine.specs.declared.walk.Walk.{Walk}
use Rattle.drv_match.specs.Matching.{name_at}
use Rattle.drv_syntax.specs.Labels.{Label, choice_nodes, inner_nodes, label_at, label_of, labels_of, nodes_of}
use Rattle.drv_syntax.specs.Parsed.{tree_of}
use Rattle.drv_syntax.specs.Tokens.{kind_of, tokens_of}
use Rattle.drv_syntax.specs.Tree as tree
use Rattle.drv_syntax.specs.Tree.{Choices, Item, Items, Pattern, Span}
use Rattle.drv_syntax.specs.declared.token.Token.{Token}
use Rattle.drv_syntax.specs.declared.token.TokenKind.TheVariants as kinds
use Rattle.drv_syntax.specs.declared.token.TokenKind.{TokenKind}
use Rattle.drv_system.specs.Facts.{Facts}
use Rattle.drv_system.specs.Gives.{GivesKnown}
use Rattle.drv_system.specs.Known.{Is}
use Rattle.std.proofs.Common.{◌≡◌, ◌⊎◌, ◌<◌, ◌≤◌, ◌+◌, ◌-◌, ◌++◌, ◌∙◌, Err, List, [], ◌∷◌, Ok, OnOk, Option, Result, Some, ap, arith, drop}
use Rattle.std.proofs.Common.{inl, inr, length, length-append, refl, slice_get, subst, suc, sym, ℕ}

-- For `Left` (specs/Code/Walking), which joins the walk and the definitions: the rest of a walk, and then what follows the end of each open
-- part (`ends`), give the defined answer. The lemmas say how it goes on when an item is processed (`leaf`), when a part is opened
-- (`items_opened`, `step_opened`) and when one is closed (`closes`). A frame is an open part on the code's stack, an `Around` the same for
-- the proof.
-- Names: `C`: what the text is run for (switches, texts). `F`: what is known of the outside. `s`, `t`, `u`: the machine (what has been cut,
-- and the world) before, between and after steps. `w`, `v`: the walk over the text, before and after (its place and open parts). `levels`:
-- what items mean after each part that may still be opened. `at`, `start`, `next`: places in the text's list of parts. `star`: the value of
-- `%*`. `given`: what the walk gives in the end. `b`: a byte. `run`: runs a step after what has been cut, in its world. `items_step`: items
-- one after another, each counted before it is run. `star_of`: the value of %* in the innermost part. `levels_in`: what may be opened in
-- the parts around. `item_step`: the row of an item. `Following text w at step s given`: a step, and then what is left from a place on,
-- give this. `Framed`: the open parts, the innermost first. `levels_left`: what items mean where so many parts may still be opened, the
-- next one first. `onward`: what is left of the innermost part, and what follows it. `Lies`: the items that are left of an open part. `k`:
-- what follows in the whole walk.

-- a list with one more at its end
abbrev head_or : {A : Type 0} → A → List A → A
head_or x [] = x
head_or x (y ∷ ys) = y

-- a list without its first item
abbrev tail_of : {A : Type 0} → List A → List A
tail_of [] = []
tail_of (x ∷ xs) = xs

-- no list is empty with one item more: so a walk with a frame isn't one without
no_last : {A : Type 0} (xs : List A) (x : A) → [] ≡ xs ++ x ∷ [] → ⊥
no_last [] x e = cc
no_last (y ∷ ys) x e = cc

-- two lists that are the same with one more item each have that item and the rest in common
last_same : {A : Type 0} (xs ys : List A) (x y : A) → xs ++ x ∷ [] ≡ ys ++ y ∷ [] → (xs ≡ ys) × (x ≡ y)
last_same [] [] x y e = (refl, ap (head_or x) e)
last_same [] (v ∷ vs) x y e = absurd (no_last vs y (ap tail_of e))
last_same (z ∷ zs) [] x y e = absurd (no_last zs x (sym (ap tail_of e)))
last_same (z ∷ zs) (v ∷ vs) x y e =
    let r = last_same zs vs x y (ap tail_of e) in (ap (λ h. h ∷ zs) (ap (head_or z) e) ∙ ap (λ t. v ∷ t) r.0, r.1)

-- as many frames are on the stack as parts are open
pub framed_long : (text : List ℕ) (C : Context) (frames : List Frame) (arounds : List Around) → Framed text C frames arounds
    → length frames ≡ length arounds
framed_long text C frames [] e = ap (λ fs. length fs) e
framed_long text C frames (a ∷ others) (outer, e, fits, framed) =
    let n : length outer ≡ length others = framed_long (text_around text a.frame.opened) C outer others framed in
    let m : length frames ≡ length (outer ++ a.frame ∷ []) = ap (λ fs. length fs) e in
    omega (arith, n, m, length-append outer (a.frame ∷ []))

-- what the innermost open part was, after its frame was taken from the stack
pub record Popped (text : List ℕ) (C : Context) (arounds : List Around) (frame : Frame) (frames : List Frame) : Type 0 where
  pub around : Around
  pub others : List Around
  pub is : arounds ≡ around ∷ others
  pub frame_is : around.frame ≡ frame
  pub fits : Fits text C around
  pub framed : Framed (text_around text frame.opened) C frames others

-- the frame that was last belongs to the innermost part
pub popped : (text : List ℕ) (C : Context) (frames : List Frame) (arounds : List Around) (outer : List Frame) (frame : Frame)
    → Framed text C frames arounds → frames ≡ outer ++ frame ∷ [] → Popped text C arounds frame outer
popped text C frames [] outer frame e s = absurd (no_last outer frame (sym e ∙ s))
popped text C frames (a ∷ others) outer frame (inner, e, fits, framed) s =
    let r = last_same inner outer a.frame frame (sym e ∙ s) in record {
      around = a;
      others = others;
      is = refl;
      frame_is = r.1;
      fits = fits;
      framed = subst (λ (f : Frame). Framed (text_around text f.opened) C outer others) r.1
          (subst (λ fs. Framed (text_around text a.frame.opened) C fs others) r.0 framed);
    }

-- where no frame is left, no part is open
pub none_open : (text : List ℕ) (C : Context) (frames : List Frame) (arounds : List Around) → Framed text C frames arounds
    → length frames ≡ 0 → arounds ≡ []
none_open text C frames [] e h = refl
none_open text C frames (a ∷ others) (outer, e, fits, framed) h =
    let m : length frames ≡ length (outer ++ a.frame ∷ []) = ap (λ fs. length fs) e in
    absurd (omega (arith, h, m, length-append outer (a.frame ∷ [])))

-- the weight of the stack grows by that of the frame that is pushed (what makes `settle` end)
pub weight_one : (size : ℕ) (frames : List Frame) (frame : Frame)
    → weight size (frames ++ frame ∷ []) ≡ weight size frames + hits_left size frame.opened
weight_one size [] frame = omega arith
weight_one size (f ∷ frames)
    frame = let e : weight size (frames ++ frame ∷ []) ≡ weight size frames + hits_left size frame.opened = weight_one size frames frame in
    omega (arith, e)

-- a part that opens nothing at its end makes the stack lighter
pub once_lighter : {X : Type 0} (result : Result X MachineFault) (a b : ℕ) → 0 < b → OnOk result (a < a + b)
once_lighter (Ok x) a b h = omega arith
once_lighter (Err fault) a b h = tt

-- `Went` with another name for the same text
pub went_in : (F : Facts) (C : Context) (text other : List ℕ) (w : Walk) (s : Machine) (given : Answer (Unit {0} × Machine))
    (result : Result (Unit {0}) MachineFault) → other ≡ text → Went F C text w s given result → Went F C other w s given result
went_in F C text other w s given result e went = subst (λ (t : List ℕ). Went F C t w s given result) (sym e) went

-- `Left` with another name for the same text
pub left_in : (F : Facts) (C : Context) (text other : List ℕ) (w : Walk) (s : Machine) (given : Answer (Unit {0} × Machine)) → other ≡ text
    → Left F C text w s given → Left F C other w s given
left_in F C text other w s given e left = subst (λ (t : List ℕ). Left F C t w s given) (sym e) left

-- `Following` for another walk with the same end, %* and frames
pub after_in : (F : Facts) (C : Context) (text : List ℕ) (walk other : Walk) (at : ℕ)
    (step : Levels → List ℕ → Step (Unit {0})) (s : Machine) (given : Answer (Unit {0} × Machine)) → other.end ≡ walk.end
    → other.star ≡ walk.star → other.frames ≡ walk.frames
    → Following F C text walk at step s given → Following F C text other at step s given
after_in F C text walk other at step s given end_is star_is frames_is b = record {
  rest = b.rest;
  arounds = b.arounds;
  lies = subst (λ (k : ℕ). Lies text at b.rest k) (sym end_is) b.lies;
  framed = subst (λ fs. Framed text C fs b.arounds) (sym frames_is) b.framed;
  same = ap (λ star. run F C s (step (levels_in F C b.arounds) (star_of C star)) >>- λ r. onward F C star b.rest b.arounds r.1) star_is
      ∙ b.same;
}

-- the end of a part that is a step, as `Following`
pub as_after : (F : Facts) (C : Context) (text : List ℕ) (w : Walk) (at : ℕ) (step : Levels → List ℕ → Step (Unit {0})) (s : Machine)
    (given : Answer (Unit {0} × Machine)) → After F C text w at (λ levels star t. run F C t (step levels star)) s given
    → Following F C text w at step s given
as_after F C text w at step s given a = record { rest = a.rest; arounds = a.arounds; lies = a.lies; framed = a.framed; same = a.same }

-- for any answers F of the system, and any C that a text is run for
module _ (F : Facts) (C : Context) where
  -- with 64 parts open none may be opened, and with fewer one more may be
  no_level : (n : ℕ) → n ≡ 64 → levels_left F C (most_open - n) ≡ []
  no_level n e = ap (λ k. levels_left F C (most_open - k)) e

  -- where fewer than 64 parts are open, one more may be opened, and one less in it
  one_level : (n : ℕ) → n < 64 → levels_left F C (most_open - n)
      ≡ ◌∷◌ (λ xs. items_step F C xs (levels_left F C (most_open - (n + 1))) []) (levels_left F C (most_open - (n + 1)))
  one_level n h = by (most_open - n) (most_open - (n + 1)) (omega (arith, h))
    where
      by : (k m : ℕ) → k ≡ suc m → levels_left F C k ≡ ◌∷◌ (λ xs. items_step F C xs (levels_left F C m) []) (levels_left F C m)
      by k m e = ap (levels_left F C) e

  -- three steps one after another may be joined from the right: the first, and then the others with what follows
  pub three : (s : Machine) (first second third : Step (Unit {0})) (k : Unit {0} × Machine → Answer (Unit {0} × Machine))
      → (run F C s ((first >> second) >> third) >>- k) ≡ (run F C s first >>- λ r. run F C r.1 (second >> third) >>- k)
  three s first second third k =
      ap (λ x. x >>- k) (run_then F C s (first >> second) (λ u. third)
      ∙ ap (λ x. x >>- λ r. run F C r.1 third) (run_then F C s first (λ u. second))
      ∙ then_then (run F C s first) (λ r. run F C r.1 second) (λ r. run F C r.1 third))
      ∙ then_then (run F C s first) (λ r. run F C r.1 second >>- λ q. run F C q.1 third) k
      ∙ then_same (run F C s first) (λ r. (run F C r.1 second >>- λ q. run F C q.1 third) >>- k) (λ r. run F C r.1 (second >> third) >>- k)
      (λ r. ap (λ x. x >>- k) (sym (run_then F C r.1 second (λ u. third))))

  -- the items of two lists are those of the first and then those of the second
  joined_runs : (xs ys : Items) (levels : Levels) (star : List ℕ) (s : Machine)
      → run F C s (items_step F C (joined xs ys) levels star)
      ≡ (run F C s (items_step F C xs levels star) >>- λ r. run F C r.1 (items_step F C ys levels star))
  joined_runs tree.none ys levels star s = refl
  joined_runs (tree.more span item xs) ys levels star s =
      run_then F C s (counted >> item_step F C item levels star) (λ u. items_step F C (joined xs ys) levels star)
      ∙ then_same (run F C s (counted >> item_step F C item levels star)) (λ r. run F C r.1 (items_step F C (joined xs ys) levels star))
      (λ r. run F C r.1 (items_step F C xs levels star) >>- λ q. run F C q.1 (items_step F C ys levels star))
      (λ r. joined_runs xs ys levels star r.1)
      ∙ sym (then_then (run F C s (counted >> item_step F C item levels star)) (λ r. run F C r.1 (items_step F C xs levels star))
      (λ q. run F C q.1 (items_step F C ys levels star)))
      ∙ ap (λ x. x >>- λ q. run F C q.1 (items_step F C ys levels star))
      (sym (run_then F C s (counted >> item_step F C item levels star) (λ u. items_step F C xs levels star)))

  -- items are processed as the first one, after its count, and then the others
  item_next : (span : Span) (item : Item) (others : Items) (levels : Levels) (star : List ℕ) (s u : Machine)
      (k : Unit {0} × Machine → Answer (Unit {0} × Machine)) → run F C s counted ≡ Is (Ok (tt, u))
      → (run F C s (items_step F C (tree.more span item others) levels star) >>- k)
      ≡ (run F C u (item_step F C item levels star) >>- λ r. run F C r.1 (items_step F C others levels star) >>- k)
  item_next span item others levels star s u k e =
      three s counted (item_step F C item levels star) (items_step F C others levels star) k
      ∙ ap (λ x. x >>- λ r. run F C r.1 (item_step F C item levels star >> items_step F C others levels star) >>- k) e
      ∙ ap (λ x. x >>- k) (run_then F C u (item_step F C item levels star) (λ v. items_step F C others levels star))
      ∙ then_then (run F C u (item_step F C item levels star)) (λ r. run F C r.1 (items_step F C others levels star)) k

  -- the rest of walk w, worked from state s, gives `given`
  module _ (text : List ℕ) (w : Walk) (s : Machine) (given : Answer (Unit {0} × Machine)) where
    -- the item that is reached was counted: the item, and then what is left after it, give the defined answer
    pub after_item : (left : Left F C text w s given) (r : Reached text w.at left.rest w.end) (u : Machine)
        → run F C s counted ≡ Is (Ok (tt, u)) → Following F C text w r.next (λ levels star. item_step F C r.item levels star) u given
    after_item left r u e = record {
      rest = r.others;
      arounds = left.arounds;
      lies = r.following;
      framed = left.framed;
      same =
          sym (item_next r.span r.item r.others (levels_in F C left.arounds) (star_of C w.star) s u (λ q. ends F C left.arounds q.1) e)
          ∙ ap (λ xs. onward F C w.star xs left.arounds s) (sym r.is) ∙ left.same;
    }

    -- where the item that is reached can't be counted, the defined answer is that refusal
    pub count_stops : (left : Left F C text w s given) → Reached text w.at left.rest w.end → (fault : MachineFault)
        → (fault ≡ Memory) ⊎ (run F C s counted ≡ Is (Err fault)) → (fault ≡ Memory) ⊎ (given ≡ Is (Err fault))
    count_stops left r fault (inl memory) = inl memory
    count_stops left r fault (inr e) =
        inr (sym left.same ∙ ap (λ xs. onward F C w.star xs left.arounds s) r.is
        ∙ three s counted (item_step F C r.item (levels_in F C left.arounds) (star_of C w.star))
        (items_step F C r.others (levels_in F C left.arounds) (star_of C w.star)) (λ q. ends F C left.arounds q.1)
        ∙ ap (λ x. x >>- λ q. run F C q.1 (item_step F C r.item (levels_in F C left.arounds) (star_of C w.star) >> items_step F C r.others
        (levels_in F C left.arounds) (star_of C w.star)) >>- λ p. ends F C left.arounds p.1) e)

    -- at the end of the innermost part what follows the open parts gives the defined answer
    pub part_ended : (left : Left F C text w s given) → w.end ≤ w.at → ends F C left.arounds s ≡ given
    part_ended left h = ap (λ xs. onward F C w.star xs left.arounds s) (sym (nothing_left text w.at left.rest w.end h left.lies))
        ∙ left.same

    -- a step is processed, and then the rest of the walk from place `at` on
    module _ (at : ℕ) (step : Levels → List ℕ → Step (Unit {0})) (b : Following F C text w at step s given) where
      -- a step was processed: the walk goes on after it; or it was refused, and so is the text
      pub leaf : (result : Result (Unit {0}) MachineFault) (t : Machine)
          → GivesKnown Memory (λ u. (tt, t)) result (run F C s (step (levels_in F C b.arounds) (star_of C w.star)))
          → Went F C text (record w { at = at }) t given result
      leaf (Ok u) t e = record {
        rest = b.rest;
        arounds = b.arounds;
        lies = b.lies;
        framed = b.framed;
        same = sym (ap (λ x. x >>- λ r. onward F C w.star b.rest b.arounds r.1) e) ∙ b.same;
      }
      leaf (Err fault) t (inl memory) = inl memory
      leaf (Err fault) t (inr e) = inr (sym b.same ∙ ap (λ x. x >>- λ r. onward F C w.star b.rest b.arounds r.1) e)

      -- another step from another state, which with what is left gives the same, may take its place, also with alternatives to be passed
      -- over before
      pub after_as : (front : ℕ) → Skips text front at → (other : Levels → List ℕ → Step (Unit {0})) (t : Machine)
          → ((run F C t (other (levels_in F C b.arounds) (star_of C w.star)) >>- λ r. onward F C w.star b.rest b.arounds r.1) ≡ given)
          → Following F C text w front other t given
      after_as front skips other t e = record {
        rest = b.rest;
        arounds = b.arounds;
        lies =
            lies_after text front at b.rest w.end skips b.lies;
        framed = b.framed;
        same = e;
      }

      -- a step that does the same may take its place
      pub same_step : (other : Levels → List ℕ → Step (Unit {0})) (t : Machine)
          → run F C s (step (levels_in F C b.arounds) (star_of C w.star)) ≡ run F C t (other (levels_in F C b.arounds) (star_of C w.star))
          → Following F C text w at other t given
      same_step other t e = record {
        rest = b.rest;
        arounds = b.arounds;
        lies = b.lies;
        framed = b.framed;
        same = ap (λ x. x >>- λ r. onward F C w.star b.rest b.arounds r.1) (sym e) ∙ b.same;
      }

    -- the end of a part was processed, or refused
    pub after_leaf : (at : ℕ) (f : Levels → List ℕ → Machine → Answer (Unit {0} × Machine)) (a : After F C text w at f s given)
        (result : Result (Unit {0}) MachineFault) (t : Machine)
        → GivesKnown Memory (λ u. (tt, t)) result (f (levels_in F C a.arounds) (star_of C w.star) s)
        → Went F C text (record w { at = at }) t given result
    after_leaf at f a (Ok u) t e = record {
      rest = a.rest;
      arounds = a.arounds;
      lies = a.lies;
      framed = a.framed;
      same = sym (ap (λ x. x >>- λ r. onward F C w.star a.rest a.arounds r.1) e) ∙ a.same;
    }
    after_leaf at f a (Err fault) t (inl memory) = inl memory
    after_leaf at f a (Err fault) t (inr e) = inr (sym a.same ∙ ap (λ x. x >>- λ r. onward F C w.star a.rest a.arounds r.1) e)

    -- the step is the items at a place: the walk enters them, with no frame
    pub entered : (items : Items) (start at : ℕ) → Stands text start (nodes_of items) at
        → Following F C text w at (λ levels star. items_step F C items levels star) s given
        → Left F C text (record w { at = start }) s given
    entered items start at stands b = record {
      rest = joined items b.rest;
      arounds = b.arounds;
      lies = lies_joined text items b.rest start at w.end stands b.lies;
      framed = b.framed;
      same =
          ap (λ x. x >>- λ r. ends F C b.arounds r.1) (joined_runs items b.rest (levels_in F C b.arounds) (star_of C w.star) s)
          ∙ then_then (run F C s (items_step F C items (levels_in F C b.arounds) (star_of C w.star)))
          (λ r. run F C r.1 (items_step F C b.rest (levels_in F C b.arounds) (star_of C w.star))) (λ r. ends F C b.arounds r.1)
          ∙ b.same;
    }

    -- a step opens a part: a frame goes on the stack
    module _ (at : ℕ) (step : Levels → List ℕ → Step (Unit {0})) (b : Following F C text w at step s given) where
      -- where 64 parts are open the step that opens one is refused, and so is the text
      full : run F C s (step [] (star_of C w.star)) ≡ Is (Err SpecTooDeep) → length w.frames ≡ 64 → given ≡ Is (Err SpecTooDeep)
      full deep h =
          sym b.same
          ∙ ap (λ levels. run F C s (step levels (star_of C w.star)) >>- λ r. onward F C w.star b.rest b.arounds r.1)
          (no_level (length b.arounds) (sym (framed_long text C w.frames b.arounds b.framed) ∙ h))
          ∙ ap (λ x. x >>- λ r. onward F C w.star b.rest b.arounds r.1) deep

      -- where the stack refuses a frame, for 64 open parts or lack of memory, so is the text
      pub too_deep : run F C s (step [] (star_of C w.star)) ≡ Is (Err SpecTooDeep) → (fault : MachineFault)
          → (fault ≡ Memory) ⊎ ((fault ≡ SpecTooDeep) × (length w.frames ≡ 64)) → (fault ≡ Memory) ⊎ (given ≡ Is (Err fault))
      too_deep deep fault (inl memory) = inl memory
      too_deep deep fault (inr most) = inr (full deep most.1 ∙ ap (λ f. Is (Err f)) (sym most.0))

      -- where fewer are, one more may be
      pub one_deeper : length w.frames < 64
          → levels_in F C b.arounds ≡ ◌∷◌ (λ xs. items_step F C xs (levels_left F C (most_open - (length b.arounds + 1))) [])
          (levels_left F C (most_open - (length b.arounds + 1)))
      one_deeper h = one_level (length b.arounds) (omega (arith, framed_long text C w.frames b.arounds b.framed, h))

      -- a part with these items was opened: v is the walk in it, t the state
      module _ (inside : List ℕ) (o : Opened) (p : Pattern) (items : Items) (kept : Kept) (fits : OpenedFits inside C o p items kept)
          (around_is : text_around inside o ≡ text) (back_is : back_of o ≡ at) (v : Walk)
          (frames_is : v.frames ≡ w.frames ++ record { opened = o; end = w.end; star = w.star } ∷ []) (star : Option Rest)
          (star_is : v.star ≡ star) (t : Machine) where
        -- the part that is opened, as what is around the new innermost one
        abbrev around : Around
        around = record {
          frame = record { opened = o; end = w.end; star = w.star };
          pattern = p;
          items = items;
          kept = kept;
          rest =
              b.rest;
        }

        -- with it the open parts are those of the stack
        framed_in : Framed inside C v.frames (around ∷ b.arounds)
        framed_in = (
          w.frames,
          frames_is,
          record {
            opened = fits;
            following = subst (λ (x : List ℕ). Lies x (back_of o) b.rest w.end) (sym around_is)
                (subst (λ (j : ℕ). Lies text j b.rest w.end) (sym back_is) b.lies);
          },
          subst (λ (x : List ℕ). Framed x C w.frames b.arounds) (sym around_is) b.framed,
        )

        -- with the new part open, one less may be opened
        deeper : levels_in F C (around ∷ b.arounds) ≡ levels_left F C (most_open - (length b.arounds + 1))
        deeper = let one : length (around ∷ b.arounds) ≡ length b.arounds + 1 = omega arith in ap (λ n. levels_left F C (most_open - n)) one

        -- the part is entered at its items, and its end follows them
        pub items_opened : (rest : Items) (start next : ℕ) → Stands inside start (nodes_of rest) next → v.at ≡ start → v.end ≡ next
            → (run F C t (items_step F C rest (levels_left F C (most_open - (length b.arounds + 1))) (star_of C star))
            >>- λ r. ends F C (around ∷ b.arounds) r.1) ≡ given → Left F C inside v t given
        items_opened rest start next stands at_is end_is gives = record {
          rest = rest;
          arounds = around ∷ b.arounds;
          lies = subst (λ (j : ℕ). Lies inside j rest v.end) (sym at_is)
              (subst (λ (j : ℕ). Lies inside start rest j) (sym end_is) (lies_alone inside rest start next stands));
          framed = framed_in;
          same =
              ap (λ x. onward F C x rest (around ∷ b.arounds) t) star_is
              ∙ ap (λ levels. run F C t (items_step F C rest levels (star_of C star)) >>- λ r. ends F C (around ∷ b.arounds) r.1) deeper
              ∙ gives;
        }

        -- the part begins with a step, and its end follows that
        pub step_opened : (inner : Levels → List ℕ → Step (Unit {0})) → v.end ≡ at
            → (run F C t (inner (levels_left F C (most_open - (length b.arounds + 1))) (star_of C star))
            >>- λ r. ends F C (around ∷ b.arounds) r.1) ≡ given → Following F C inside v at inner t given
        step_opened inner end_is gives = record {
          rest = tree.none;
          arounds = around ∷ b.arounds;
          lies = (tree.no_choice, sym end_is);
          framed = framed_in;
          same =
              ap (λ x. run F C t (inner (levels_in F C (around ∷ b.arounds)) (star_of C x)) >>- λ r. ends F C (around ∷ b.arounds) r.1)
              star_is
              ∙ ap (λ levels. run F C t (inner levels (star_of C star)) >>- λ r. ends F C (around ∷ b.arounds) r.1) deeper ∙ gives;
        }

    -- an X is opened for a switch that is hit, and the switches after it follow its end
    module _ (each : Each) (switch size : ℕ) (p : Pattern) (items : Items) (fits : HitFits text C each switch p items)
        (long : size ≡ length (matching p).name)
        (b : Following F C text w each.end (λ levels star. hit_step F C p items levels switch >> each_from F C p items levels (switch + 1))
        s given) where
      -- what follows in the whole walk
      abbrev k : Unit {0} × Machine → Answer (Unit {0} × Machine)
      k r = onward F C w.star b.rest b.arounds r.1

      -- the part that is open in X: what code and definition have after its end
      abbrev frame : Frame
      frame = record { opened = Hit each switch; end = w.end; star = w.star }

      -- the items of X for this switch, whose name is cut after m bytes for `%*`
      abbrev work : ℕ → Step (Unit {0})
      work m = items_step F C items (levels_left F C (most_open - (length b.arounds + 1))) (drop m (name_at (names C) switch))

      -- the open part of X, as the definition sees it
      abbrev hit_around : Around
      hit_around = record { frame = frame; pattern = p; items = items; kept = nothing_kept; rest = b.rest }

      -- the items of X, its end and the rest of the walk give the defined answer
      hit_given : length w.frames < 64 → (run F C s (work size) >>- λ r. ends F C (hit_around ∷ b.arounds) r.1) ≡ given
      hit_given h =
          ap (λ m. run F C s (work m) >>- λ r. ends F C (hit_around ∷ b.arounds) r.1) long
          ∙ sym (three s (work (length (matching p).name)) (puts (Break ∷ word_of (argument C switch)))
          (each_from F C p items (levels_in F C b.arounds) (switch + 1)) k)
          ∙ sym (ap (λ levels. run F C s (hit_step F C p items levels switch >> each_from F C p items (levels_in F C b.arounds)
          (switch + 1)) >>- k) (one_deeper each.end _ b h)) ∙ b.same

      -- the walk enters the items of X
      pub opened_left : length w.frames < 64 → (v : Walk) → v.at ≡ each.start → v.end ≡ each.end
          → v.star ≡ Some (record { switch = switch; size = size }) → v.frames ≡ w.frames ++ frame ∷ []
          → Left F C text v s given
      opened_left h v at_is end_is star_is frames_is =
          items_opened each.end _ b text (Hit each switch) p items nothing_kept fits refl refl v frames_is
          (Some (record { switch = switch; size = size })) star_is s items each.start each.end fits.stands at_is end_is (hit_given h)

    -- the innermost part has ended: what its end gives, and then the part around it, give the defined answer
    pub closes : (left : Left F C text w s given) → w.end ≤ w.at
        → (frame : Frame) (outer : List Frame) (o : Popped text C left.arounds frame outer) (v : Walk) → v.end ≡ frame.end
        → v.star ≡ frame.star → v.frames ≡ outer
        → After F C (text_around text frame.opened) v (back_of frame.opened)
        (λ levels star t. closing F C levels star frame.opened o.around.pattern o.around.items o.around.kept t) s given
    closes left h frame outer o v end_is star_is frames_is =
        let f = o.frame_is in record {
          rest = o.around.rest;
          arounds = o.others;
          lies =
              subst (λ (k : ℕ). Lies (text_around text frame.opened) (back_of frame.opened) o.around.rest k) (sym end_is)
              (subst (λ (x : Frame). Lies (text_around text x.opened) (back_of x.opened) o.around.rest x.end) f o.fits.following);
          framed = subst (λ fs. Framed (text_around text frame.opened) C fs o.others) (sym frames_is) o.framed;
          same =
              ap (λ star. closing F C (levels_in F C o.others) (star_of C star) frame.opened o.around.pattern o.around.items o.around.kept s
              >>- λ r. onward F C star o.around.rest o.others r.1) star_is
              ∙ ap (λ (x : Frame). closing F C (levels_in F C o.others)
              (star_of C x.star) x.opened o.around.pattern o.around.items o.around.kept s
              >>- λ r. onward F C x.star o.around.rest o.others r.1) (sym f)
              ∙ ap (λ list. ends F C list s) (sym o.is)
              ∙ part_ended left h;
        }

-- the item at a place does what its token's kind and label say
module _ (F : Facts) (C : Context) (text : List ℕ) (at next : ℕ) (levels : Levels) (star : List ℕ) (item : Item)
    (part : PartAt (tokens_of (tree_of text)) (labels_of (tree_of text)) at (kind_of item) (label_of item) next)
    (within : Stands text (at + 1) (inner_nodes item) next) (token : Token)
    (there : slice_get (tokens_of (tree_of text)) at ≡ Some token) where
  -- the token at the item's place is of the item's kind
  pub kind_there : token.kind ≡ kind_of item
  kind_there = ap (λ (x : Token). x.kind) (some_same token part.token (sym there ∙ part.there)) ∙ part.kind_is

  -- the parts in it mean what the item's braces mean
  pub means_there : Means F C text token.kind (at + 1) token.next levels star (inner_step F C item levels star)
  means_there =
      subst (λ (k : TokenKind). Means F C text k (at + 1) token.next levels star (inner_step F C item levels star)) (sym kind_there)
      (item_means F C text (at + 1) token.next levels star item
      (subst (λ (k : ℕ). Stands text (at + 1) (inner_nodes item) k)
      (sym (next_at text at token (kind_of item) (label_of item) next there part)) within))

  -- the step by kind and label is that of the item
  pub step_there : kind_step F C token.kind (label_at (tree_of text) at) star (inner_step F C item levels star)
      ≡ item_step F C item levels star
  step_there =
      ap (λ k. kind_step F C k (label_at (tree_of text) at) star (inner_step F C item levels star)) kind_there
      ∙ ap (λ l. kind_step F C (kind_of item) l star (inner_step F C item levels star)) part.label_is
      ∙ sym (item_by_kind F C item levels star)

  -- an item whose token is that of a named text means the text of its label's name
  pub text_there : token.kind ≡ kinds.NamedText → item_step F C item levels star
      ≡ named F C (tree_named F C (label_at (tree_of text) at).word) levels
  text_there e = text_item F C item levels star (sym kind_there ∙ e)
      ∙ ap (λ (l : Label). named F C (tree_named F C l.word) levels) (sym part.label_is)

  -- an item whose token is that of %a or another letter means the text of its label's name
  pub builtin_there : token.kind ≡ kinds.BuiltinText
      → item_step F C item levels star ≡ named F C (tree_named F C (label_at (tree_of text) at).word) levels
  builtin_there e = builtin_item F C item levels star (sym kind_there ∙ e)
      ∙ ap (λ (l : Label). named F C (tree_named F C l.word) levels) (sym part.label_is)

  -- a brace with alternatives: those are the parts in it
  pub choices_there : token.kind ≡ kinds.Choose → (choices : Choices) × Stands text (at + 1) (choice_nodes choices) token.next
      × (item_step F C item levels star ≡ choices_step F C choices levels star)
  choices_there e =
      let means = subst (λ (k : TokenKind). Means F C text k (at + 1) token.next levels star (inner_step F C item levels star)) e
      means_there in (
        means.0,
        means.1,
        sym step_there ∙ ap (λ k. kind_step F C k (label_at (tree_of text) at) star (inner_step F C item levels star)) e
            ∙ means.2,
      )
