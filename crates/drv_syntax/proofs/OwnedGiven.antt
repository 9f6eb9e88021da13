use Rattle.drv_syntax.proofs.TrimmedItems.{kept_is, kept_white, trim_star}
use Rattle.drv_syntax.proofs.Wrote.{closed_is, list_wrote, wrote_both, wrote_none}
use Rattle.drv_syntax.specs.Code.Lists.{choice_written, is_white_item, list_written, owned_at, tail_after, tail_on, unheld}
use Rattle.drv_syntax.specs.Code.Tests.{is_starred, opened, test_added, tests_on}
use Rattle.drv_syntax.specs.Code.Tokens.{whole_token}
use Rattle.drv_syntax.specs.Code.Writing.{Parts, flat, item_written, wrote}
use Rattle.drv_syntax.specs.Contexts.{all_starred}
use Rattle.drv_syntax.specs.Labels.{Label, Nodes, alternative_label, asked_nodes, both, inner_nodes, label_of, labels, no_label, no_node}
use Rattle.drv_syntax.specs.Labels.{node, nodes_of, star_label, test_label, test_nodes}
use Rattle.drv_syntax.specs.Spelling.{span}
use Rattle.drv_syntax.specs.Stars.{asked_has_star, has_star, tests_have_star}
use Rattle.drv_syntax.specs.Tokens.{kind_of}
use Rattle.drv_syntax.specs.Tree.{Asked, HasLanguage, HasResult, HasSuffix, HasSwitch, Items, Span, Tests, last_place, more, no_test}
use Rattle.drv_syntax.specs.Tree.{none, pattern, test, trimmed}
use Rattle.drv_syntax.specs.declared.descent.parts.Choice.{Choice}
use Rattle.drv_syntax.specs.declared.descent.simple.Tail.{Tail}
use Rattle.drv_syntax.specs.declared.token.Token.{Token}
use Rattle.drv_syntax.specs.declared.token.TokenKind.TheVariants as kinds
use Rattle.std.proofs.Common.{◌≡◌, ◌∙◌, ◌++◌, ◌||◌, Bool, false, true, if◌then◌else◌, List, [], ◌∷◌, ap, append-nil, append_assoc, length}
use Rattle.std.proofs.Common.{refl, set, subst, sym, take, ℕ}
use Rattle.std.proofs.Math.Seq.{set-append_seam, take-append_seam}
use Rattle.std.specs.Prelude.{◌&&◌}

-- What is written of an alternative: its token, its tests, and its X without the white space at the X's end. It serves the clauses of the
-- reader's `x` and `choices`. The code opens the token, writes all items, and cuts the white space off at the end. The lemmas show that
-- this is the alternative of specs/Labels, written at once (`wrote`). A `Tail` is where a list ends without that white space. A `Choice` is
-- an alternative whose token is open. Owned is what an alternative has written when it ends at its tail (`owned_at`).
-- Names: `z`: the parts so far. `a`, `b`, `t`: a test's value, so that `by` can go by both cases. `tail`: where a list ends. `negated`:
-- whether the test has a `!`. `a`: what a test asks. `place`: a place in the text. `trimmed`: items without the white space at their end,
-- of which an X has none (this project's profile). `unheld`: the parts as an X begins. `list_written`: writes the parts of items, one after
-- another. `labels`: the labels of parts, in the order of their tokens. `tests_have_star`: tests hold a %* of the X around their braces.
-- `tail_on`: what a list ends with after these items. `test_nodes`: the parts that the tests of an alternative are. `item_written`: writes
-- an item with all that is inside it. `all_starred`: each test asks for a switch by a starred pattern, without a !.

-- tests

-- tests written one after another are the tests written at once
pub tests_wrote : (ts : Tests) (x : Choice × Parts) → (tests_on x ts).1 ≡ wrote (test_nodes ts) (tests_have_star ts) x.1
tests_wrote no_test x = sym (wrote_none x.1)
tests_wrote (test s negated a ts) x =
    tests_wrote ts (test_added x s negated a)
    ∙ sym (wrote_both (node kinds.Test (test_label negated a) s (asked_nodes a) no_node) (test_nodes ts) (asked_has_star a)
    (tests_have_star ts) x.1)

-- b and true is b
and_true : (b : Bool) → (b && true) ≡ b
and_true true = refl
and_true false = refl

-- three conditions joined by and are the same in either grouping
and_assoc : (a b c : Bool) → ((a && b) && c) ≡ (a && (b && c))
and_assoc true b c = refl
and_assoc false b c = refl

-- all tests are starred patterns without a `!` if the first is and all others are
starred_more : (s : Span) (negated : Bool) (a : Asked) (ts : Tests) → (is_starred negated a && all_starred ts)
    ≡ all_starred (test s negated a ts)
starred_more s false (HasSwitch (pattern word true)) ts = refl
starred_more s false (HasSwitch (pattern word false)) ts = refl
starred_more s false (HasSuffix word) ts = refl
starred_more s false (HasLanguage word) ts = refl
starred_more s false (HasResult name arguments) ts = refl
starred_more s true a ts = refl

-- the open alternative, with or without starred tests
abbrev with_starred : Choice → Bool → Choice
with_starred c starred = record { part = c.part; label = c.label; starred = starred }

-- after its tests, an alternative is starred if it was before and all of them are starred patterns without a `!`
pub tests_choice : (ts : Tests) (x : Choice × Parts) → (tests_on x ts).0 ≡ with_starred x.0 (x.0.starred && all_starred ts)
tests_choice no_test x = ap (λ b. with_starred x.0 b) (sym (and_true x.0.starred))
tests_choice (test s negated a ts) x =
    tests_choice ts (test_added x s negated a)
    ∙ ap (λ b. with_starred x.0 b) (and_assoc x.0.starred (is_starred negated a) (all_starred ts)
    ∙ ap (λ b. x.0.starred && b) (starred_more s negated a ts))

-- white space at the end of a list

-- the second parts are the first and more after them
record More (a b : Parts) : Type 0 where
  pub tokens : List Token
  pub tokens_are : b.tokens ≡ a.tokens ++ tokens
  pub labels : List Label
  pub labels_are : b.labels ≡ a.labels ++ labels

-- a list written whole is the list without the white space at its end, and more after that
trims : (items : Items) (z : Parts) → More (list_written (trimmed items) z) (list_written items z)
trims none z = record { tokens = []; tokens_are = sym (append-nil z.tokens); labels = []; labels_are = sym (append-nil z.labels) }
trims (more s item items) z =
    subst (λ (x : Items). More (list_written x z) (list_written items next)) (sym (kept_is s item (trimmed items)))
    (by (is_white_item item) (trimmed items) (trims items next))
  where
    next : Parts
    next = item_written s.start item s.end z

    one : Nodes
    one = node (kind_of item) (label_of item) (span s.start s.end) (inner_nodes item) no_node

    -- Plan: by whether the item is white. If not, it stays; else the items after it decide.
    by : (t : Bool) (x : Items) → More (list_written x next) (list_written items next)
        → More (list_written (if t then kept_white s item x else more s item x) z) (list_written items next)
    by false x h = h
    by true (more r other x) h = h
    by true none h = record {
      tokens = flat (length z.tokens) one ++ h.tokens;
      tokens_are = h.tokens_are ∙ append_assoc z.tokens (flat (length z.tokens) one) h.tokens;
      labels = labels one ++ h.labels;
      labels_are = h.labels_are ∙ append_assoc z.labels (labels one) h.labels;
    }

-- the tail of a list at its last item
abbrev ended_by : Tail → Items → Parts → Tail
ended_by tail none z = tail
ended_by tail (more s item items) z = record {
  kept = last_place items s.end;
  tokens = length (list_written items (item_written s.start item s.end z)).tokens;
  labels = length (list_written items (item_written s.start item s.end z)).labels;
  end = 0;
}

-- the tail that the code keeps while it reads a list is the end of the list without the white space at its end
ended_is : (items : Items) (tail : Tail) (z : Parts) → tail_on tail items z ≡ ended_by tail (trimmed items) z
ended_is none tail z = refl
ended_is (more s item items) tail z =
    cc (ended_is items (tail_after item tail s.end next) next, by (is_white_item item) (trimmed items), kept_is s item (trimmed items))
  where
    -- Plan: by whether the item is white and nothing follows it but white space.
    next : Parts
    next = item_written s.start item s.end z

    by : (t : Bool) (x : Items)
        → ended_by (if t then tail else record { kept = s.end; tokens = length next.tokens; labels = length next.labels; end = 0 }) x next
        ≡ ended_by tail (if t then kept_white s item x else more s item x) z
    by true none = refl
    by true (more r other x) = refl
    by false none = refl
    by false (more r other x) = refl

-- an alternative, from its first test or its colon on

-- an alternative that begins at `start` after the parts z, with its tests and its X; the X begins at `place`
module _ (z : Parts) (start place : ℕ) (ts : Tests) (items : Items) where
  -- the parts with the alternative open, before its tests and X are written
  abbrev front : Parts
  front = opened kinds.Alternative no_label start z

  -- the parts with its tests written too
  abbrev asked : Parts
  asked = wrote (test_nodes ts) (tests_have_star ts) front

  -- the tail of its X before any item
  abbrev begun : Tail
  begun = record { kept = place; tokens = length asked.tokens; labels = length asked.labels; end = 0 }

  -- the parts with its X written, without the white space at its end
  abbrev list : Parts
  list = list_written (trimmed items) (unheld asked)

  -- the parts with its X written, with that white space
  abbrev whole : Parts
  whole = list_written items (unheld asked)

  -- the tests of the alternative and its X as one list of parts
  abbrev inner : Nodes
  inner = both (test_nodes ts) (nodes_of (trimmed items))

  -- the tail of a list counts the tokens up to its end
  size_of : (x : Items) → (ended_by begun x (unheld asked)).tokens ≡ length (list_written x (unheld asked)).tokens
  size_of none = refl
  size_of (more s item x) = refl

  -- the tail of a list counts the labels up to its end
  labels_of : (x : Items) → (ended_by begun x (unheld asked)).labels ≡ length (list_written x (unheld asked)).labels
  labels_of none = refl
  labels_of (more s item x) = refl

  -- the tail of a list has the place of its end
  end_of : (x : Items) → (ended_by begun x (unheld asked)).kept ≡ last_place x place
  end_of none = refl
  end_of (more s item x) = refl

  -- the first items of a list that begins with a, as many as a has, are a
  cut : {X : Type 0} (a b c : List X) → b ≡ a ++ c → take (length a) b ≡ a
  cut a b c e = ap (λ xs. take (length a) xs) e ∙ take-append_seam a c

  -- the code's tail is that of the X without the white space at its end
  tail_is : tail_on begun items (unheld asked) ≡ ended_by begun (trimmed items) (unheld asked)
  tail_is = ended_is items begun (unheld asked)

  -- the tokens that the code keeps are those without the white space at the end
  kept_tokens : take (tail_on begun items (unheld asked)).tokens whole.tokens ≡ list.tokens
  kept_tokens =
      ap (λ (t : Tail). take t.tokens whole.tokens) tail_is
      ∙ ap (λ (n : ℕ). take n whole.tokens) (size_of (trimmed items))
      ∙ cut list.tokens whole.tokens (trims items (unheld asked)).tokens (trims items (unheld asked)).tokens_are

  -- the labels that the code keeps are those without the white space at the end
  kept_labels : take (tail_on begun items (unheld asked)).labels whole.labels ≡ list.labels
  kept_labels =
      ap (λ (t : Tail). take t.labels whole.labels) tail_is
      ∙ ap (λ (n : ℕ). take n whole.labels) (labels_of (trimmed items))
      ∙ cut list.labels whole.labels (trims items (unheld asked)).labels (trims items (unheld asked)).labels_are

  -- the tests and the list are one list of parts
  list_is : list ≡ wrote (nodes_of (trimmed items)) (has_star (trimmed items)) (unheld asked)
  list_is = list_wrote (trimmed items) (unheld asked)

  -- the tests and then the X, written one after the other, are both written at once
  one_list : wrote inner (tests_have_star ts) front ≡ wrote (nodes_of (trimmed items)) false asked
  one_list = cc (none_more (tests_have_star ts), wrote_both (test_nodes ts) (nodes_of (trimmed items)) (tests_have_star ts) false front)
    where
      none_more : (h : Bool) → (h || false) ≡ h
      none_more true = refl
      none_more false = refl

  -- the tokens of the tests and then of the X are those of both at once
  tokens_is : list.tokens ≡ (wrote inner (tests_have_star ts) front).tokens
  tokens_is = ap (λ (y : Parts). y.tokens) list_is ∙ sym (ap (λ (y : Parts). y.tokens) one_list)

  -- the labels of the tests and then of the X are those of both at once
  labels_is : list.labels ≡ (wrote inner (tests_have_star ts) front).labels
  labels_is = ap (λ (y : Parts). y.labels) list_is ∙ sym (ap (λ (y : Parts). y.labels) one_list)

  -- the label of the alternative says that its X has a %* if one was read in it
  label_is : star_label whole.holds ≡ alternative_label (trimmed items)
  label_is = ap (λ (h : Bool). star_label h) (ap (λ (y : Parts). y.holds) (list_wrote items (unheld asked)) ∙ sym (trim_star items))

  -- the place where the X ends without the white space at its end
  abbrev end : ℕ
  end = last_place (trimmed items) place

  -- with the alternative closed, the tokens are those of the tree's alternative
  closed_tokens : set list.tokens (length z.tokens) (whole_token kinds.Alternative start end (length list.tokens))
      ≡ (choice_written (span start end) ts (trimmed items) z).tokens
  closed_tokens =
      ap (λ xs. set xs (length z.tokens) (whole_token kinds.Alternative start end (length xs))) tokens_is
      ∙ ap (λ (y : Parts). y.tokens) (closed_is kinds.Alternative kinds.Alternative no_label start end inner (tests_have_star ts) z)

  -- with its label set, the labels are those of the tree's alternative
  closed_labels : (l : Label) → l ≡ alternative_label (trimmed items) → set list.labels (length z.labels) l
      ≡ (choice_written (span start end) ts (trimmed items) z).labels
  closed_labels l e =
      ap (λ xs. set xs (length z.labels) l) (labels_is ∙ append_assoc z.labels (no_label ∷ []) (labels inner))
      ∙ set-append_seam z.labels no_label (labels inner) l
      ∙ ap (λ (x : Label). z.labels ++ x ∷ labels inner) e
      ∙ ap (λ xs. z.labels ++ alternative_label (trimmed items) ∷ xs) (sym (append-nil (labels inner)))

  -- an alternative that the code opens, fills and cuts at its tail is the alternative of the tree, written at once
  pub choice_owned : (starred : Bool)
      → owned_at (record { part = record { token = length z.tokens; start = start }; label = length z.labels; starred = starred })
      (tail_on begun items (unheld asked)) asked.holds whole
      ≡ choice_written (span start end) ts (trimmed items) z
  choice_owned starred =
      cc (tail_is, end_of (trimmed items), kept_tokens, closed_tokens, kept_labels, closed_labels (star_label whole.holds) label_is)
    where
      tail : Tail
      tail = tail_on begun items (unheld asked)
