use Rattle.drv_machine.proofs.ItemKinds.{item_no_alternative}
use Rattle.drv_machine.proofs.Standing.{next_at, some_same, stand_grows}
use Rattle.drv_machine.specs.Code.Standing.{PartAt, Stands}
use Rattle.drv_machine.specs.Code.Walking.{Lies, Skips}
use Rattle.drv_syntax.specs.Labels.{Label, alternative_label, choice_nodes, inner_nodes, label_of, labels_of, nodes_of}
use Rattle.drv_syntax.specs.Parsed.{tree_of}
use Rattle.drv_syntax.specs.Tokens.{kind_of, tokens_of}
use Rattle.drv_syntax.specs.Tree as tree
use Rattle.drv_syntax.specs.Tree.{Choices, Item, Items, Span}
use Rattle.drv_syntax.specs.declared.token.Token.{Token}
use Rattle.drv_syntax.specs.declared.token.TokenKind.TheVariants as kinds
use Rattle.std.proofs.Common.{◌≡◌, ◌<◌, ◌≤◌, ◌+◌, ◌∙◌, List, Some, ap, arith, length, refl, slice_get, subst, sym, ℕ}
use Rattle.std.proofs.lemmas.Option.{slice_get_within}

-- For the walk in a brace: the items of an open part that are left. After an alternative's X the walk passes over the other alternatives of
-- its brace (`Skips`), so `Lies` has such alternatives before each item and after the last.
-- Names: `at`, `end`, `start`, `next`, `middle`: places in the text's list of parts. `rest`: the items that are left of the part. `b`: a
-- byte. `tree_of`: the tree of a text. `tokens_of`: the tokens of a tree. `choice_nodes`: the parts that alternatives are. `Stands`: these
-- parts go from one place of a text's flat list up to another. `PartAt tokens labels at kind label next`: at this place is a part of this
-- kind with this label. `alternative_label`: the label of an alternative with these items as its X. `labels_of`: the labels of a tree, in
-- the order of its tokens. `xs`: the items, or alternatives, before the others.

-- some alternatives, and others after them: they are passed over together
abbrev choices_joined : Choices → Choices → Choices
choices_joined tree.no_choice ys = ys
choices_joined (tree.choice span tests items xs) ys = tree.choice span tests items (choices_joined xs ys)

-- alternatives that lie one after the other are passed over together
skips_join : (text : List ℕ) (xs ys : Choices) (a b c : ℕ) → Stands text a (choice_nodes xs) b → Stands text b (choice_nodes ys) c
    → Stands text a (choice_nodes (choices_joined xs ys)) c
skips_join text tree.no_choice ys a b c e s = subst (λ (k : ℕ). Stands text k (choice_nodes ys) c) (sym e) s
skips_join text (tree.choice span tests items xs) ys a b c (next, part, within, following) s =
    (next, part, within, skips_join text xs ys next b c following s)

-- no alternatives lie between a place and itself
pub no_skip : (text : List ℕ) (at : ℕ) → Skips text at at
no_skip text at = (tree.no_choice, refl)

-- alternatives before what is left are passed over
pub lies_after : (text : List ℕ) (a b : ℕ) (rest : Items) (end : ℕ) → Skips text a b → Lies text b rest end → Lies text a rest end
lies_after text a b tree.none end s l = (choices_joined s.0 l.0, skips_join text s.0 l.0 a b end s.1 l.1)
lies_after text a b (tree.more span item items) end s (start, next, skips, part, within, following) =
    (start, next, (choices_joined s.0 skips.0, skips_join text s.0 skips.0 a b start s.1 skips.1), part, within, following)

-- some items, and others after them: an X, and what follows its brace
abbrev pub joined : Items → Items → Items
joined tree.none ys = ys
joined (tree.more span item xs) ys = tree.more span item (joined xs ys)

-- items that end where what is left begins are left with it
pub lies_joined : (text : List ℕ) (xs rest : Items) (at middle end : ℕ) → Stands text at (nodes_of xs) middle → Lies text middle rest end
    → Lies text at (joined xs rest) end
lies_joined text tree.none rest at middle end e l = subst (λ (k : ℕ). Lies text k rest end) (sym e) l
lies_joined text (tree.more span item xs) rest at middle end (next, part, within, following) l =
    (at, next, no_skip text at, part, within, lies_joined text xs rest next middle end following l)

-- items that go up to the end of a part are left of it
pub lies_alone : (text : List ℕ) (xs : Items) (at end : ℕ) → Stands text at (nodes_of xs) end → Lies text at xs end
lies_alone text tree.none at end e = (tree.no_choice, e)
lies_alone text (tree.more span item xs) at end (next, part, within, following) =
    (at, next, no_skip text at, part, within, lies_alone text xs next end following)

-- what is left ends at or after the place reached
pub lies_grows : (text : List ℕ) (at : ℕ) (rest : Items) (end : ℕ) → Lies text at rest end → at ≤ end
lies_grows text at tree.none end s = stand_grows _ _ at (choice_nodes s.0) end s.1
lies_grows text at (tree.more span item items) end (start, next, skips, part, within, following) =
    omega (arith, stand_grows _ _ at (choice_nodes skips.0) start skips.1, part.later, lies_grows text next items end following)

-- where the walk has reached the end of a part, no item of it is left
pub nothing_left : (text : List ℕ) (at : ℕ) (rest : Items) (end : ℕ) → end ≤ at → Lies text at rest end → rest ≡ tree.none
nothing_left text at tree.none end h l = refl
nothing_left text at (tree.more span item items) end h (start, next, skips, part, within, following) =
    absurd (omega (arith, h, stand_grows _ _ at (choice_nodes skips.0) start skips.1, part.later, lies_grows text next items end following))

-- a place before the end of what is left is one of the list of tokens
pub place_in : (text : List ℕ) (at : ℕ) (rest : Items) (end : ℕ) → at < end → Lies text at rest end → at < length (tokens_of (tree_of text))
place_in text at tree.none end h (tree.no_choice, e) = absurd (omega (arith, h, e))
place_in text at tree.none end h (tree.choice span tests items others, (next, part, within, following)) =
    slice_get_within (tokens_of (tree_of text)) at part.token part.there
place_in text at (tree.more span item items) end h (start, next, (tree.no_choice, e), part, within, following) =
    subst (λ (k : ℕ). k < length (tokens_of (tree_of text))) (sym e)
    (slice_get_within (tokens_of (tree_of text)) start part.token part.there)
place_in text at (tree.more span item items) end h (start, next, (tree.choice s tests xs others, (n, part, within, following)), p, w, b) =
    slice_get_within (tokens_of (tree_of text)) at part.token part.there

-- the item at the place reached, and the items after it
pub record Reached (text : List ℕ) (at : ℕ) (rest : Items) (end : ℕ) : Type 0 where
  pub span : Span
  pub item : Item
  pub others : Items
  pub is : rest ≡ tree.more span item others
  pub next : ℕ
  pub part : PartAt (tokens_of (tree_of text)) (labels_of (tree_of text)) at (kind_of item) (label_of item) next
  pub within : Stands text (at + 1) (inner_nodes item) next
  pub following : Lies text next others end

-- before the end, at no alternative, an item is reached
pub reached : (text : List ℕ) (at : ℕ) (rest : Items) (end : ℕ) → at < end
    → ((token : Token) → slice_get (tokens_of (tree_of text)) at ≡ Some token → token.kind ≡ kinds.Alternative → ⊥) → Lies text at rest end
    → Reached text at rest end
reached text at tree.none end h never (tree.no_choice, e) = absurd (omega (arith, h, e))
reached text at tree.none end h never (tree.choice span tests items others, (next, part, within, following)) =
    absurd (never part.token part.there part.kind_is)
reached text at (tree.more span item items) end h never (start, next, (tree.no_choice, e), part, within, following) = record {
  span = span;
  item = item;
  others = items;
  is = refl;
  next = next;
  part = subst (λ (k : ℕ). PartAt (tokens_of (tree_of text)) (labels_of (tree_of text)) k (kind_of item) (label_of item) next) (sym e) part;
  within = subst (λ (k : ℕ). Stands text (k + 1) (inner_nodes item) next) (sym e) within;
  following = following;
}
reached text at (tree.more span item items) end h never
    (start, next, (tree.choice s tests xs others, (n, part, within, following)), p, w, b) =
    absurd (never part.token part.there part.kind_is)

-- the token reached is an alternative: no item is there, and it is passed over
module _ (text : List ℕ) (at : ℕ) (token : Token) (there : slice_get (tokens_of (tree_of text)) at ≡ Some token)
    (alternative : token.kind ≡ kinds.Alternative) where
  -- no item has an alternative's token
  no_item : (item : Item) (next start : ℕ) → at ≡ start
      → PartAt (tokens_of (tree_of text)) (labels_of (tree_of text)) start (kind_of item) (label_of item) next → ⊥
  no_item item next start e part =
      let same = some_same part.token token (sym part.there ∙ ap (slice_get (tokens_of (tree_of text))) (sym e) ∙ there) in
      item_no_alternative item (sym part.kind_is ∙ ap (λ (t : Token). t.kind) same ∙ alternative)

  -- alternatives may be passed over up to the end of this one
  past : (label : Label) (choices : Choices) (next end : ℕ)
      → PartAt (tokens_of (tree_of text)) (labels_of (tree_of text)) at kinds.Alternative label next
      → Stands text next (choice_nodes choices) end → Skips text token.next end
  past label choices next end part following = (
    choices,
    subst (λ (k : ℕ). Stands text k (choice_nodes choices) end)
        (sym (next_at text at token kinds.Alternative label next there part)) following,
  )

  -- after an alternative that is passed over the same items are left
  pub lies_past : (rest : Items) (end : ℕ) → at < end → Lies text at rest end → Lies text token.next rest end
  lies_past tree.none end h (tree.no_choice, e) = absurd (omega (arith, h, e))
  lies_past tree.none end h (tree.choice span tests items others, (next, part, within, following)) =
      past (alternative_label items) others next end part following
  lies_past (tree.more span item items) end h (start, next, (tree.no_choice, e), part, within, following) =
      absurd (no_item item next start e part)
  lies_past (tree.more span item items) end h (start, next, (tree.choice s tests xs others, (n, part, within, following)), p, w, b) =
      (start, next, past (alternative_label xs) others n start part following, p, w, b)

  -- an alternative that is passed over ends after the place reached
  pub past_later : (rest : Items) (end : ℕ) → at < end → Lies text at rest end → at < token.next
  past_later tree.none end h (tree.no_choice, e) = absurd (omega (arith, h, e))
  past_later tree.none end h (tree.choice span tests items others, (next, part, within, following)) =
      omega (arith, part.later, next_at text at token kinds.Alternative (alternative_label items) next there part)
  past_later (tree.more span item items) end h (start, next, (tree.no_choice, e), part, within, following) =
      absurd (no_item item next start e part)
  past_later (tree.more span item items) end h (start, next, (tree.choice s tests xs others, (n, part, within, following)), p, w, b) =
      omega (arith, part.later, next_at text at token kinds.Alternative (alternative_label xs) n there part)
