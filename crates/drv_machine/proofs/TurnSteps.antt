use Rattle.drv_machine.proofs.ItemKinds.{failure_item, filed_item, function_item, inner_step}
use Rattle.drv_machine.proofs.Lying.{Reached, lies_alone, place_in, reached}
use Rattle.drv_machine.proofs.Onward.{Popped, after_in, after_item, builtin_there, choices_there, closes, count_stops, kind_there, leaf}
use Rattle.drv_machine.proofs.Onward.{means_there, none_open, part_ended, popped, same_step, step_there, text_there}
use Rattle.drv_machine.proofs.Standing.{next_at, some_same, stand_grows}
use Rattle.drv_machine.specs.Atoms.{choices_step, item_step, items_step, levels_left, named, tree_named}
use Rattle.drv_machine.specs.Code.ByKind.{Means, kind_step}
use Rattle.drv_machine.specs.Context.{Context}
use Rattle.drv_machine.specs.Code.Running.{Machine, run}
use Rattle.drv_machine.specs.Code.Standing.{Spans, Stands}
use Rattle.drv_machine.specs.Code.Walking.{After, AtItem, Following, HasFrames, Kept, Lain, Left, Lies, OpenedFits, Went, back_of, closing}
use Rattle.drv_machine.specs.Code.Walking.{ends, levels_in, onward, star_of, text_around}
use Rattle.drv_machine.specs.Working.{◌>>-◌, Answer, Levels, Step, bytes, counted, most_open}
use Rattle.drv_machine.specs.declared.fault.MachineFault.TheVariants.{Memory}
use Rattle.drv_machine.specs.declared.fault.MachineFault.{MachineFault}
use Rattle.drv_machine.specs.declared.walk.Frame.{Frame}
use Rattle.drv_machine.specs.declared.walk.Walk.{Walk}
use Rattle.drv_syntax.specs.Labels.{Label, brace_nodes, choice_nodes, inner_nodes, label_at, label_of, nodes_of}
use Rattle.drv_syntax.specs.Parsed.{tree_of}
use Rattle.drv_syntax.specs.Tokens.{kind_of, tokens_of}
use Rattle.drv_syntax.specs.Tree as tree
use Rattle.drv_syntax.specs.Tree.{Brace, Choices, Item, Items, Pattern}
use Rattle.drv_syntax.specs.declared.token.Token.{Token}
use Rattle.drv_syntax.specs.declared.token.TokenKind.TheVariants as kinds
use Rattle.drv_syntax.specs.declared.token.TokenKind.{TokenKind}
use Rattle.drv_system.specs.Facts.{Facts}
use Rattle.drv_system.specs.Gives.{GivesKnown}
use Rattle.drv_system.specs.Known.{Is, Unasked}
use Rattle.std.proofs.Common.{◌≡◌, ◌⊎◌, ◌<◌, ◌≤◌, ◌+◌, ◌++◌, ◌∙◌, Err, List, [], ◌∷◌, None, Ok, Option, Result, Some, ap, arith, length}
use Rattle.std.proofs.Common.{refl, slice_get, subst, suc, sym, zero, ℕ}
use Rattle.std.proofs.lemmas.Bool.{false≢true}
use Rattle.std.specs.Prelude.{◌↔◌, IsSome}

-- For `turn`, `settle` and `close` (turns.rt): one turn of the loop, which works one item, keeps `Left`, or ends in the refusal that is
-- defined. `Left F C text w s given`: the rest of walk w, worked from state s, gives `given`. `Following` says the same of a step and the
-- rest after it, `After` of the end of an open part.
-- Names: `w`, `v`: the walk over the text, before and after (its place and open parts). `C`: what the text is run for (switches, texts).
-- `F`: what is known of the outside. `s`, `t`, `u`: the machine (what has been cut, and the world) before, between and after steps.
-- `levels`: what items mean after each part that may still be opened. `items`: the items of a part. `at`, `end`: places in the text's list
-- of parts. `rest`: the items that are left of the part. `p`: a test's pattern. `tree_of`: the tree of a text. `item_step`: the row of an
-- item. `run`: runs a step after what has been cut, in its world. `levels_in`: what may be opened in the parts around. `star_of`: the value
-- of %* in the innermost part. `given`: what the walk gives in the end. `s` is the machine before the item, `u` after it was counted.
-- `named`: runs a named text. `same_step`: puts a step that does the same in another's place. `after_in`: moves the walk behind the token.
-- `Stands`: these parts go from one place of a text's flat list up to another. `AtItem text w`: the token at the place that is reached is
-- no alternative. `Lain text w`: items lie from the place that is reached to the end of the innermost part. `label_at`: the label of the
-- part at this place of the list. `Lies`: the items that are left of an open part.

-- a walk that moved on in the innermost part, over alternatives that are not worked, still has the same left
pub left_at : (F : Facts) (C : Context) (text : List ℕ) (w : Walk) (at : ℕ) (s : Machine) (given : Answer (Unit {0} × Machine))
    → ((rest : Items) → Lies text w.at rest w.end → Lies text at rest w.end) → Left F C text w s given
    → Left F C text (record w { at = at }) s given
left_at F C text w at s given lies left = record {
  rest = left.rest;
  arounds = left.arounds;
  lies = lies left.rest left.lies;
  framed =
      left.framed;
  same = left.same;
}

-- a token before the end of the innermost part that is no alternative belongs to an item
pub at_item : (text : List ℕ) (w : Walk) (token : Token) → w.at < w.end → slice_get (tokens_of (tree_of text)) w.at ≡ Some token
    → (token.kind ≡ kinds.Alternative → ⊥) → AtItem text w
at_item text w token h there never = record {
  before_end = h;
  no_alternative = λ other e k. never (ap (λ (t : Token). t.kind) (some_same token other (sym there ∙ e)) ∙ k);
}

-- a token of a plain byte before the end of the innermost part belongs to an item
pub plain_item : (text : List ℕ) (w : Walk) (token : Token) → w.at < w.end → slice_get (tokens_of (tree_of text)) w.at ≡ Some token
    → token.kind ≡ kinds.Plain → AtItem text w
plain_item text w token h there plain = at_item text w token h there (λ k. let z : kinds.Plain ≡ kinds.Alternative = sym plain ∙ k in cc)

-- `AtItem` with another name for the same text
pub item_in : (text other : List ℕ) (w : Walk) → other ≡ text → AtItem text w → AtItem other w
item_in text other w e item = subst (λ (t : List ℕ). AtItem t w) (sym e) item

-- the item that is reached is a token of the list
pub at_place : (text : List ℕ) (w : Walk) → Lain text w → AtItem text w → w.at < length (tokens_of (tree_of text))
at_place text w lain item = place_in text w.at lain.rest w.end item.before_end lain.lies

-- the walk has reached an item, with this token
module _ (text : List ℕ) (w : Walk) (item : AtItem text w) (token : Token)
    (there : slice_get (tokens_of (tree_of text)) w.at ≡ Some token) where
  -- the parts inside the item that is reached are whole parts
  pub inner_there : Lain text w → Spans text (w.at + 1) token.next
  inner_there lain =
      let r = reached text w.at lain.rest w.end item.before_end item.no_alternative lain.lies in
      record {
        nodes = inner_nodes r.item;
        stands = subst (λ (k : ℕ). Stands text (w.at + 1) (inner_nodes r.item) k)
            (sym (next_at text w.at token (kind_of r.item) (label_of r.item) r.next there r.part)) r.within;
      }

  -- the end of the item that is reached is after its beginning
  pub inner_later : Lain text w → w.at + 1 ≤ token.next
  inner_later lain = let inner = inner_there lain in stand_grows _ _ (w.at + 1) inner.nodes token.next inner.stands

  -- what is left of the walk gives `given`
  module _ (F : Facts) (C : Context) (s : Machine) (given : Answer (Unit {0} × Machine)) (left : Left F C text w s given) where
    -- the item that is reached, and what `Left` says is left after it
    pub front : Reached text w.at left.rest w.end
    front = reached text w.at left.rest w.end item.before_end item.no_alternative left.lies

    -- where the item can't be counted (the text has too many) the text gives that refusal
    pub turn_uncounted : (fault : MachineFault) → (fault ≡ Memory) ⊎ (run F C s counted ≡ Is (Err fault))
        → (fault ≡ Memory) ⊎ (given ≡ Is (Err fault))
    turn_uncounted fault stopped = count_stops F C text w s given left front fault stopped

    -- the item was counted
    module _ (u : Machine) (e : run F C s counted ≡ Is (Ok (tt, u))) where
      -- once the item is counted, it and then what is left after it give what the walk gave before
      pub counted_item : Following F C text w token.next (λ levels star. item_step F C front.item levels star) u given
      counted_item =
          subst (λ (k : ℕ). Following F C text w k (λ levels star. item_step F C front.item levels star) u given)
          (sym (next_at text w.at token (kind_of front.item) (label_of front.item) front.next there front.part))
          (after_item F C text w s given left front u e)

      -- an item that opens no part was processed, or refused, by its token's kind: the walk goes on after it
      pub turn_item : (result : Result (Unit {0}) MachineFault) (t : Machine)
          → ((levels : Levels) (inner : Step (Unit {0})) → Means F C text token.kind (w.at + 1) token.next levels (star_of C w.star) inner
          → GivesKnown Memory (λ x. (tt, t)) result (run F C u
          (kind_step F C token.kind (label_at (tree_of text) w.at) (star_of C w.star) inner)))
          → Went F C text (record w { at = token.next }) t given result
      turn_item result t worked =
          let levels = levels_in F C counted_item.arounds in
          leaf F C text w u given token.next (λ levels star. item_step F C front.item levels star) counted_item result t
          (subst (λ step. GivesKnown Memory (λ x. (tt, t)) result (run F C u step))
          (step_there F C text w.at front.next (levels_in F C counted_item.arounds)
          (star_of C w.star) front.item front.part front.within token there)
          (worked (levels_in F C counted_item.arounds) (inner_step F C front.item (levels_in F C counted_item.arounds) (star_of C w.star))
          (means_there F C text w.at front.next (levels_in F C counted_item.arounds)
          (star_of C w.star) front.item front.part front.within token there)))

      -- a plain byte was put, or refused: the walk goes on after it
      pub turn_plain : token.kind ≡ kinds.Plain → (word : List ℕ) → word ≡ (label_at (tree_of text) w.at).word
          → (result : Result (Unit {0}) MachineFault) (t : Machine)
          → GivesKnown Memory (λ x. (tt, t)) result (run F C u (bytes word)) → Went F C text (record w { at = token.next }) t given result
      turn_plain k word is result t put =
          turn_item result t
          (λ levels inner means. subst (λ (kind : TokenKind). GivesKnown Memory (λ x. (tt, t)) result
          (run F C u (kind_step F C kind (label_at (tree_of text) w.at) (star_of C w.star) inner))) (sym k)
          (subst (λ (n : List ℕ). GivesKnown Memory (λ x. (tt, t)) result (run F C u (bytes n))) is put))

      -- an item that is a named text opens the text of its name, and then what is left follows: `same_step` puts the text in the place of
      -- the item, and `after_in` moves the walk behind the token
      text_after : (name : List ℕ) → name ≡ (label_at (tree_of text) w.at).word
          → item_step F C front.item (levels_in F C counted_item.arounds) (star_of C w.star)
          ≡ named F C (tree_named F C (label_at (tree_of text) w.at).word) (levels_in F C counted_item.arounds)
          → Following F C text (record w { at = token.next }) token.next (λ levels star. named F C (tree_named F C name) levels) u given
      text_after name is step =
          subst (λ (n : List ℕ). Following F C text (record w { at = token.next }) token.next
          (λ levels star. named F C (tree_named F C n) levels) u given) (sym is)
          (after_in F C text w (record w { at = token.next }) token.next
          (λ levels star. named F C (tree_named F C (label_at (tree_of text) w.at).word) levels) u given refl refl refl
          (same_step F C text w u given token.next (λ levels star. item_step F C front.item levels star) counted_item
          (λ levels star. named F C (tree_named F C (label_at (tree_of text) w.at).word) levels) u (ap (run F C u) step)))

      -- an item whose token says so is `%(NAME)`: the text of the name is opened
      pub turn_text : token.kind ≡ kinds.NamedText → (name : List ℕ) → name ≡ (label_at (tree_of text) w.at).word
          → Following F C text (record w { at = token.next }) token.next (λ levels star. named F C (tree_named F C name) levels) u given
      turn_text k name is =
          text_after name is (text_there F C text w.at front.next (levels_in F C counted_item.arounds)
          (star_of C w.star) front.item front.part front.within token there k)

      -- an item whose token says so is a letter such as %a: the text of its name is opened
      pub turn_builtin : token.kind ≡ kinds.BuiltinText → (name : List ℕ) → name ≡ (label_at (tree_of text) w.at).word
          → Following F C text (record w { at = token.next }) token.next (λ levels star. named F C (tree_named F C name) levels) u given
      turn_builtin k name is =
          text_after name is (builtin_there F C text w.at front.next (levels_in F C counted_item.arounds)
          (star_of C w.star) front.item front.part front.within token there k)

      -- the parts inside the item are its braces, tests or items, up to the end of its token
      inside_there : Stands text (w.at + 1) (inner_nodes front.item) token.next
      inside_there =
          subst (λ (k : ℕ). Stands text (w.at + 1) (inner_nodes front.item) k)
          (sym (next_at text w.at token (kind_of front.item) (label_of front.item) front.next there front.part)) front.within

      -- the kind of the token is the item's
      item_kind : token.kind ≡ kind_of front.item
      item_kind = kind_there F C text w.at front.next (levels_in F C counted_item.arounds)
          (star_of C w.star) front.item front.part front.within token there

      -- the items that open a part, by the kind of the token: a %W. P is what the caller proves from the braces of the item and what
      -- follows it
      pub turn_failure : token.kind ≡ kinds.FailureFile → (P : Type 0)
          → ((brace : Brace) → Stands text (w.at + 1) (brace_nodes brace) token.next
          → Following F C text w token.next (λ levels star. item_step F C (tree.FailureFile brace) levels star) u given → P) → P
      turn_failure k P opening =
          let f = failure_item front.item (sym item_kind ∙ k) in
          opening f.0 (subst (λ (x : Item). Stands text (w.at + 1) (inner_nodes x) token.next) f.1 inside_there)
          (subst (λ (x : Item). Following F C text w token.next (λ levels star. item_step F C x levels star) u given) f.1 counted_item)

      -- a %@: P is what the caller proves from the braces of the item and what follows it
      pub turn_filed : token.kind ≡ kinds.ArgumentsFile → (P : Type 0)
          → ((brace : Brace) → Stands text (w.at + 1) (brace_nodes brace) token.next
          → Following F C text w token.next (λ levels star. item_step F C (tree.ArgumentsFile brace) levels star) u given → P) → P
      turn_filed k P opening =
          let f = filed_item front.item (sym item_kind ∙ k) in
          opening f.0 (subst (λ (x : Item). Stands text (w.at + 1) (inner_nodes x) token.next) f.1 inside_there)
          (subst (λ (x : Item). Following F C text w token.next (λ levels star. item_step F C x levels star) u given) f.1 counted_item)

      -- a function: P is what the caller proves from its arguments and what follows it
      pub turn_function : token.kind ≡ kinds.Function → (P : Type 0)
          → ((name : List ℕ) (items : Items) → (label_at (tree_of text) w.at).word ≡ name
          → Stands text (w.at + 1) (nodes_of items) token.next
          → Following F C text w token.next (λ levels star. item_step F C (tree.Function name items) levels star) u given → P) → P
      turn_function k P opening =
          let f = function_item front.item (sym item_kind ∙ k) in
          opening f.0 f.1 (ap (λ (l : Label). l.word) front.part.label_is ∙ ap (λ (x : Item). (label_of x).word) f.2)
          (subst (λ (x : Item). Stands text (w.at + 1) (inner_nodes x) token.next) f.2 inside_there)
          (subst (λ (x : Item). Following F C text w token.next (λ levels star. item_step F C x levels star) u given) f.2 counted_item)

      -- a brace with alternatives: P is what the caller proves from them and what follows the brace
      pub turn_choose : token.kind ≡ kinds.Choose → (P : Type 0)
          → ((choices : Choices) → Stands text (w.at + 1) (choice_nodes choices) token.next
          → Following F C text w token.next (λ levels star. choices_step F C choices levels star) u given → P) → P
      turn_choose k P chosen =
          let ch = choices_there F C text w.at front.next (levels_in F C counted_item.arounds)
          (star_of C w.star) front.item front.part front.within token there k in
          chosen ch.0 ch.1
          (same_step F C text w u given token.next (λ levels star. item_step F C front.item levels star) counted_item
          (λ levels star. choices_step F C ch.0 levels star) u (ap (run F C u) ch.2))

-- the innermost part has ended, and its frame was taken from the stack
module _ (text : List ℕ) (w : Walk) (h : w.end ≤ w.at) (frame : Frame) (outer : List Frame)
    (popped_is : w.frames ≡ outer ++ frame ∷ []) where
  -- what is left of the walk gives `given`
  module _ (F : Facts) (C : Context) (s : Machine) (given : Answer (Unit {0} × Machine)) (left : Left F C text w s given) where
    -- the frame that was taken belongs to the innermost part
    inner : Popped text C left.arounds frame outer
    inner = popped text C w.frames left.arounds outer frame left.framed popped_is

    -- the text has what the innermost part was opened for
    abbrev opened_fits : OpenedFits text C frame.opened inner.around.pattern inner.around.items inner.around.kept
    opened_fits = subst (λ (x : Frame). OpenedFits text C x.opened inner.around.pattern inner.around.items inner.around.kept) inner.frame_is
        inner.fits.opened

    -- the frame was opened for something that is in the text, which `close` requires
    pub can_close : (p : Pattern) × (items : Items) × (kept : Kept) × OpenedFits text C frame.opened p items kept
    can_close = (inner.around.pattern, inner.around.items, inner.around.kept, opened_fits)

    -- what follows the end of the part, in the part around it: P is what the caller proves from it
    pub closed : (v : Walk) → v.end ≡ frame.end → v.star ≡ frame.star → v.frames ≡ outer → (P : Type 0)
        → ((p : Pattern) (items : Items) (kept : Kept) → OpenedFits text C frame.opened p items kept
        → After F C (text_around text frame.opened) v (back_of frame.opened)
        (λ levels star t. closing F C levels star frame.opened p items kept t) s given → P) → P
    closed v e f g P following =
        following inner.around.pattern inner.around.items inner.around.kept opened_fits
        (closes F C text w s given left h frame outer inner v e f g)

-- a walk at the end of the whole text, with no part open, gives its state
pub walk_ended : (F : Facts) (C : Context) (text : List ℕ) (w : Walk) (s : Machine) (given : Answer (Unit {0} × Machine)) → w.end ≤ w.at
    → length w.frames ≡ 0 → Left F C text w s given → given ≡ Is (Ok (tt, s))
walk_ended F C text w s given h n left =
    sym (part_ended F C text w s given left h) ∙ ap (λ list. ends F C list s) (none_open text C w.frames left.arounds left.framed n)

-- `settle` requires only that items and frames lie in the text: so the rest of the walk gives something (`given_of`)
module _ (F : Facts) (C : Context) (text : List ℕ) (w : Walk) (s : Machine) where
  -- what the rest of the walk gives, by the items and open parts that are left
  abbrev pub given_of : Lain text w → HasFrames C text w → Answer (Unit {0} × Machine)
  given_of lain framed = onward F C w.star lain.rest framed.arounds s

  -- items and frames that lie in the text are what is left of a walk that gives `given_of`
  pub as_left : (lain : Lain text w) (framed : HasFrames C text w) → Left F C text w s (given_of lain framed)
  as_left lain framed = record { rest = lain.rest; arounds = framed.arounds; lies = lain.lies; framed = framed.framed; same = refl }

  -- what is left of a walk lies in the text: its items
  pub lain_of : (given : Answer (Unit {0} × Machine)) → Left F C text w s given → Lain text w
  lain_of given left = record { rest = left.rest; lies = left.lies }

  -- what is left of a walk fits its text: its open parts
  pub framed_of : (given : Answer (Unit {0} × Machine)) → Left F C text w s given → HasFrames C text w
  framed_of given left = record { arounds = left.arounds; framed = left.framed }

  -- nothing follows a whole text
  nothing_after : (a : Answer (Unit {0} × Machine)) → (a >>- λ r. Is (Ok (tt, r.1))) ≡ a
  nothing_after (Is (Ok r)) = refl
  nothing_after (Is (Err fault)) = refl
  nothing_after Unasked = refl

  -- at the start of a whole text, what is left is the whole text
  pub started : (items : Items) (end : ℕ) → Stands text 0 (nodes_of items) end → w.at ≡ 0 → w.end ≡ end → w.star ≡ None → w.frames ≡ []
      → Left F C text w s (run F C s (items_step F C items (levels_left F C most_open) []))
  started items end stands at_is end_is star_is frames_is = record {
    rest = items;
    arounds = [];
    lies = subst (λ (k : ℕ). Lies text k items w.end) (sym at_is)
        (subst (λ (k : ℕ). Lies text 0 items k) (sym end_is) (lies_alone text items 0 end stands));
    framed = frames_is;
    same = ap (λ star. onward F C star items [] s) star_is
        ∙ nothing_after (run F C s (items_step F C items (levels_left F C most_open) []));
  }

-- where the stack gives no frame, it has none: the walk is that of a whole text
pub none_popped : (result : Option Frame) (n : ℕ) → (IsSome result ↔ (0 < n)) → result ≡ None → n ≡ 0
none_popped result zero v e = refl
none_popped result (suc n) v e = let some : IsSome {T = Frame} None = subst (λ (o : Option Frame). IsSome o) e (v.1 (omega arith)) in
    absurd (false≢true some)
