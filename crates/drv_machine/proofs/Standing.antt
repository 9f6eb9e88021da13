use Rattle.drv_machine.specs.Code.Standing.{PartAt, Spans, Stand, Stands, after_tests, is_test, tests_in}
use Rattle.drv_syntax.proofs.FlatNodes.{items_flat}
use Rattle.drv_syntax.specs.Code.Writing.{flat}
use Rattle.drv_syntax.specs.Labels.{Label, Nodes, both, labels, labels_of, no_label, no_node, node, nodes_of}
use Rattle.drv_syntax.specs.Parsed.{tree_of}
use Rattle.drv_syntax.specs.Tokens.{tokens_of}
use Rattle.drv_syntax.specs.Tree.{Span}
use Rattle.drv_syntax.specs.declared.token.Token.{Token}
use Rattle.drv_syntax.specs.declared.token.TokenKind.TheVariants as kinds
use Rattle.drv_syntax.specs.declared.token.TokenKind.{TokenKind}
use Rattle.std.proofs.Common.{◌≡◌, ◌<◌, ◌≤◌, ◌+◌, ◌-◌, ◌++◌, ◌∙◌, ◌∷◌, List, [], Option, Some, ap, append-nil, append_assoc, arith, false}
use Rattle.std.proofs.Common.{get_or, if◌then◌else◌, length, length-append, refl, slice_get, subst, sym, true, unwrap_or, ℕ}
use Rattle.std.proofs.lemmas.Option.{slice_get_within}
use Rattle.std.proofs.Math.Seq.{get_or-append_seam}

-- For the walk over a text (`walk.rt`, `turns.rt`): where the parts of a tree are in the flat list of tokens that the code goes over. A
-- place is an index of that list. `Stands` says that these parts are the tokens from one place up to another, `Spans` that some whole parts
-- are, and `Passed` is the invariant of the loop over the tests of an alternative.
-- Names: `at`, `end`, `start`, `next`: places in the text's list of parts. `X`, `A`: any type. `flat`: the tokens of parts, from the place
-- n of the list on. `tree_of`: the tree of a text. `labels`: the labels of parts, in the order of their tokens. `tokens_of`: the tokens of
-- a tree. `tests_in`: the tests that parts begin with. `Stand`: these parts go from one place of the flat list up to another.
-- `after_tests`: what follows the tests that these parts begin with. `PartAt tokens labels at kind label next`: at this place is a part of
-- this kind with this label. `is_test`: the part is a test. `nodes_of`: the parts that items are, each with those inside it. `xs`, `ys`:
-- parts, and those after them.

-- the item after a list is at the place that is the list's length
slice_seam : {A : Type 0} (xs : List A) (y : A) (ys : List A) → slice_get (xs ++ y ∷ ys) (length xs) ≡ Some y
slice_seam [] y ys = refl
slice_seam (x ∷ xs) y ys = slice_seam xs y ys

-- a tree has as many labels as its flat list has tokens
same_size : (nodes : Nodes) (n : ℕ) → length (labels nodes) ≡ length (flat n nodes)
same_size no_node n = refl
same_size (node kind label span inner others) n =
    let i : length (labels inner) ≡ length (flat (n + 1) inner) = same_size inner (n + 1) in
    let o : length (labels others) ≡ length (flat (n + 1 + length (flat (n + 1) inner)) others) =
    same_size others (n + 1 + length (flat (n + 1) inner)) in
    omega (
      arith,
      i,
      o,
      length-append (labels inner) (labels others),
      length-append (flat (n + 1) inner) (flat (n + 1 + length (flat (n + 1) inner)) others),
    )

-- in any list of tokens, with its labels
module _ (tokens : List Token) (marks : List Label) where
  -- the first token of a flat list, put between others, is the part at its place
  first_part : (n : ℕ) (here : Token) (label : Label) (ts before following : List Token) (ls front back : List Label)
      → tokens ≡ before ++ (here ∷ (ts ++ following)) → marks ≡ front ++ (label ∷ (ls ++ back))
      → length before ≡ n → length front ≡ n → n < here.next → PartAt tokens marks n here.kind label here.next
  first_part n here label ts before following ls front back t l b f g = record {
    token = here;
    there = ap (λ xs. slice_get xs n) t ∙ subst (λ (k : ℕ). slice_get (before ++ (here ∷ (ts ++ following))) k ≡ Some here) b
        (slice_seam before here (ts ++ following));
    kind_is = refl;
    next_is = refl;
    label_is = ap (λ xs. get_or xs n no_label) l ∙ subst (λ (k : ℕ). get_or (front ++ (label ∷ (ls ++ back))) k no_label ≡ label) f
        (get_or-append_seam front label (ls ++ back) no_label);
    later = g;
  }

  -- the flat list of a tree, put between other tokens, has the tree's parts at its own place (`whole_stands` takes the whole list)
  pub stand : (n : ℕ) (nodes : Nodes) (before following : List Token) (front back : List Label)
      → tokens ≡ before ++ (flat n nodes ++ following) → marks ≡ front ++ (labels nodes ++ back)
      → length before ≡ n → length front ≡ n → Stand tokens marks n nodes (n + length (flat n nodes))
  stand n no_node before following front back t l b f = omega arith
  stand n (node kind label span inner others) before following front back t l b f =
      let next : ℕ = n + 1 + length (flat (n + 1) inner) in
      let here : Token = record { kind = kind; start = span.start; end = span.end; next = n + 1 + length (flat (n + 1) inner) } in
      let size : n + length (flat n (node kind label span inner others)) ≡ next + length (flat next others) =
      omega (arith, length-append (flat (n + 1) inner) (flat next others)) in (
        next,
        first_part n here label (flat (n + 1) inner ++ flat next others) before following (labels inner ++ labels others) front back t l b f
            (omega arith),
        stand (n + 1) inner (before ++ (here ∷ [])) (flat next others ++ following) (front ++ (label ∷ [])) (labels others ++ back)
            (t ∙ ap (λ zs. before ++ (here ∷ zs)) (append_assoc (flat (n + 1) inner) (flat next others) following)
            ∙ sym (append_assoc before (here ∷ []) (flat (n + 1) inner ++ (flat next others ++ following))))
            (l ∙ ap (λ zs. front ++ (label ∷ zs)) (append_assoc (labels inner) (labels others) back)
            ∙ sym (append_assoc front (label ∷ []) (labels inner ++ (labels others ++ back))))
            (omega (arith, b, length-append before (here ∷ [])))
            (omega (arith, f, length-append front (label ∷ []))),
        subst (λ (k : ℕ). Stand tokens marks next others k) (sym size)
            (stand next others (before ++ (here ∷ flat (n + 1) inner)) following (front ++ (label ∷ labels inner)) back
            (t ∙ ap (λ zs. before ++ (here ∷ zs)) (append_assoc (flat (n + 1) inner) (flat next others) following)
            ∙ sym (append_assoc before (here ∷ flat (n + 1) inner) (flat next others ++ following)))
            (l ∙ ap (λ zs. front ++ (label ∷ zs)) (append_assoc (labels inner) (labels others) back)
            ∙ sym (append_assoc front (label ∷ labels inner) (labels others ++ back)))
            (omega (arith, b, length-append before (here ∷ flat (n + 1) inner)))
            (omega (arith, f, same_size inner (n + 1), length-append front (label ∷ labels inner)))),
      )

  -- parts end at or after the place where they begin
  pub stand_grows : (at : ℕ) (nodes : Nodes) (end : ℕ) → Stand tokens marks at nodes end → at ≤ end
  stand_grows at no_node end e = omega (arith, e)
  stand_grows at (node kind label span inner others) end (next, part, within, rest) =
      omega (arith, part.later, stand_grows next others end rest)

  -- of two lists of parts, one after the other, the second begins where the first ends
  pub stand_both : (at : ℕ) (xs ys : Nodes) (end : ℕ) → Stand tokens marks at (both xs ys) end
      → (middle : ℕ) × Stand tokens marks at xs middle × Stand tokens marks middle ys end
  stand_both at no_node ys end s = (at, refl, s)
  stand_both at (node kind label span inner xs) ys end (next, part, within, rest) =
      let found = stand_both next xs ys end rest in
      (found.0, (next, part, within, found.1), found.2)

-- the parts of a text's whole tree are its tokens, from the first to the last
pub whole_stands : (text : List ℕ) → Stands text 0 (nodes_of (tree_of text)) (length (tokens_of (tree_of text)))
whole_stands text =
    subst (λ (k : ℕ). Stands text 0 (nodes_of (tree_of text)) k)
    (by (length (flat 0 (nodes_of (tree_of text)))) ∙ sym (ap (λ ts. length ts) (items_flat 0 (tree_of text))))
    (stand (tokens_of (tree_of text)) (labels_of (tree_of text)) 0 (nodes_of (tree_of text)) [] [] [] []
    (items_flat 0 (tree_of text) ∙ sym (append-nil _)) (sym (append-nil _)) refl refl)
  where
    by : (k : ℕ) → 0 + k ≡ k
    by k = omega arith

-- the invariant of the loop over an alternative's tests: the parts that are left at the place reached, that their tests complete those
-- since the start, and that the parts after the tests are the same
pub record Passed (text : List ℕ) (start at : ℕ) (nodes : Nodes) (end : ℕ) : Type 0 where
  pub rest : Nodes
  pub stands : Stands text at rest end
  pub joins : (x : ℕ) → Stands text at (tests_in rest) x → Stands text start (tests_in nodes) x
  pub same : after_tests rest ≡ after_tests nodes

-- two values are the same if `Some` of them are
pub some_same : {X : Type 0} (a b : X) → Some a ≡ Some b → a ≡ b
some_same {X = X} a b e = ap (λ (o : Option X). unwrap_or o a) e

-- the part at a place ends where its token says
pub next_at : (text : List ℕ) (at : ℕ) (token : Token) (kind : TokenKind) (label : Label) (next : ℕ)
    → slice_get (tokens_of (tree_of text)) at ≡ Some token
    → PartAt (tokens_of (tree_of text)) (labels_of (tree_of text)) at kind label next → token.next ≡ next
next_at text at token kind label next e part = ap (λ (t : Token). t.next) (some_same token part.token (sym e ∙ part.there)) ∙ part.next_is

-- the parts that are left at a place in a loop over parts, and what holds of them
pub record PartsLeft {X : Type 0} (nodes : X → Nodes) (text : List ℕ) (at end : ℕ) (Same : X → Type 0) : Type 0 where
  pub rest : X
  pub stands : Stands text at (nodes rest) end
  pub same : Same rest

-- a part at a place, with those in it, and the parts that follow it
pub record First (text : List ℕ) (at : ℕ) (kind : TokenKind) (label : Label) (inner others : Nodes) (end : ℕ) : Type 0 where
  pub next : ℕ
  pub part : PartAt (tokens_of (tree_of text)) (labels_of (tree_of text)) at kind label next
  pub within : Stands text (at + 1) inner next
  pub following : Stands text next others end

-- the tuple that `Stand` is for a first part, as a record
pub first_of : {text : List ℕ} {at : ℕ} {kind : TokenKind} {label : Label} {inner others : Nodes} {end : ℕ}
    → (next : ℕ) × PartAt (tokens_of (tree_of text)) (labels_of (tree_of text)) at kind label next × Stands text (at + 1) inner next
    × Stands text next others end → First text at kind label inner others end
first_of (next, part, within, following) = record { next = next; part = part; within = within; following = following }

-- the token at the place of a first part has the part's kind and end, its inner parts go up to that end, and the other parts follow
module _ {text : List ℕ} {at : ℕ} {kind : TokenKind} {label : Label} {inner others : Nodes} {end : ℕ}
    (f : First text at kind label inner others end) (token : Token) (there : slice_get (tokens_of (tree_of text)) at ≡ Some token) where
  -- the token at the place of a first part has the part's kind
  pub first_kind : token.kind ≡ kind
  first_kind = ap (λ (t : Token). t.kind) (some_same token f.part.token (sym there ∙ f.part.there)) ∙ f.part.kind_is

  -- the token at the place of a first part ends where the part does
  pub first_next : token.next ≡ f.next
  first_next = next_at text at token kind label f.next there f.part

  -- the parts inside a first part go up to the end of its token
  pub stands_within : Stands text (at + 1) inner token.next
  stands_within = subst (λ (k : ℕ). Stands text (at + 1) inner k) (sym first_next) f.within

  -- the parts after a first part go on from the end of its token
  pub stands_after : Stands text token.next others end
  stands_after = subst (λ (k : ℕ). Stands text k others end) (sym first_next) f.following

-- the token at the first place of parts that aren't at their end
pub record Front (text : List ℕ) (at : ℕ) (nodes : Nodes) (end : ℕ) : Type 0 where
  pub kind : TokenKind
  pub label : Label
  pub span : Span
  pub inner : Nodes
  pub others : Nodes
  pub is : nodes ≡ node kind label span inner others
  pub first : First text at kind label inner others end

-- parts that do not end at this place have a first part here
pub front : (text : List ℕ) (at : ℕ) (nodes : Nodes) (end : ℕ) → at < end → Stands text at nodes end → Front text at nodes end
front text at no_node end h e = absurd (omega (arith, h, e))
front text at (node kind label span inner others) end h s =
    record { kind = kind; label = label; span = span; inner = inner; others = others; is = refl; first = first_of s }

-- what is at a place before the end of parts, by the token there
pub record Here (text : List ℕ) (at : ℕ) (token : Token) (end : ℕ) : Type 0 where
  pub in_list : at < length (tokens_of (tree_of text))
  pub later : at < token.next
  pub in_parts : token.next ≤ end
  pub within : Spans text (at + 1) token.next
  pub following : Spans text token.next end

-- at a place before the end of some parts, with the token there
module _ (text : List ℕ) (at end : ℕ) (h : at < end) (token : Token) (e : slice_get (tokens_of (tree_of text)) at ≡ Some token) where
  -- at a place before the end of whole parts the token is in the list, and the parts in it and those after it are whole
  pub here : Spans text at end → Here text at token end
  here s =
      let f = front text at s.nodes end h s.stands in
      let n = first_next f.first token e in record {
        in_list = slice_get_within (tokens_of (tree_of text)) at token e;
        later = omega (arith, n, f.first.part.later);
        in_parts = omega (arith, n, stand_grows _ _ f.first.next f.others end f.first.following);
        within = record { nodes = f.inner; stands = stands_within f.first token e };
        following = record { nodes = f.others; stands = stands_after f.first token e };
      }

  -- the parts after a token are nearer to the end than the token, so the loop ends
  pub nearer : Spans text at end → end - token.next < end - at
  nearer s = let p = here s in omega (arith, p.later, p.in_parts)

  -- the loop over the tests of an alternative has reached that place
  module _ (start : ℕ) (nodes : Nodes) (p : Passed text start at nodes end) where
    -- a token that is a test: the loop goes on after it
    pub passed_step : is_test token.kind ≡ true → Passed text start token.next nodes end
    passed_step t =
        let f = front text at p.rest end h p.stands in
        let test : is_test f.kind ≡ true = ap is_test (sym (first_kind f.first token e)) ∙ t in
        let n = first_next f.first token e in record {
          rest = f.others;
          stands = stands_after f.first token e;
          joins = λ x s.
              p.joins x (subst (λ (xs : Nodes). Stands text at xs x)
              (sym (ap tests_in f.is ∙ ap (λ b. if b then node f.kind f.label f.span f.inner (tests_in f.others) else no_node) test))
              (f.first.next, f.first.part, f.first.within, subst (λ (k : ℕ). Stands text k (tests_in f.others) x) n s));
          same = sym (ap (λ b. if b then after_tests f.others else node f.kind f.label f.span f.inner f.others) test)
              ∙ sym (ap after_tests f.is) ∙ p.same;
        }

    -- a token that is no test: the tests end here, and what follows them begins
    pub passed_stop : is_test token.kind ≡ false → Stands text start (tests_in nodes) at × Stands text at (after_tests nodes) end
    passed_stop t =
        let f = front text at p.rest end h p.stands in
        let test : is_test f.kind ≡ false = ap is_test (sym (first_kind f.first token e)) ∙ t in (
          p.joins at (subst (λ (xs : Nodes). Stands text at xs at)
              (sym (ap tests_in f.is ∙ ap (λ b. if b then node f.kind f.label f.span f.inner (tests_in f.others) else no_node) test)) refl),
          subst (λ (xs : Nodes). Stands text at xs end)
              (f.is ∙ sym (ap (λ b. if b then after_tests f.others else node f.kind f.label f.span f.inner f.others) test)
              ∙ sym (ap after_tests f.is) ∙ p.same) p.stands,
        )

-- parts that go up to a place at or before their beginning are none
pub none_left : (text : List ℕ) (at end : ℕ) (nodes : Nodes) → end ≤ at → Stands text at nodes end → nodes ≡ no_node
none_left text at end no_node h s = refl
none_left text at end (node kind label span inner others) h (next, part, within, following) =
    absurd (omega (arith, h, part.later, stand_grows _ _ next others end following))

-- a kind that is not `Test` is none for `is_test`
pub not_test : (kind : TokenKind) → (kind ≡ kinds.Test → ⊥) → is_test kind ≡ false
not_test kinds.Test h = absurd (h refl)
not_test _ h = refl

-- a place before the end of whole parts is one of the list
pub front_in : (text : List ℕ) (at end : ℕ) → at < end → Spans text at end → at < length (tokens_of (tree_of text))
front_in text at end h s = let f = front text at s.nodes end h s.stands in
    slice_get_within (tokens_of (tree_of text)) at f.first.part.token f.first.part.there

-- parts that go from a place up to one at or before it end where they begin
at_end : (text : List ℕ) (at end : ℕ) (nodes : Nodes) → end ≤ at → Stands text at nodes end → at ≡ end
at_end text at end nodes h s = omega (arith, h, stand_grows _ _ at nodes end s)

-- where the loop has reached the end of the parts, the tests end there
pub passed_end : (text : List ℕ) (start at : ℕ) (nodes : Nodes) (end : ℕ) → end ≤ at → Passed text start at nodes end
    → Stands text start (tests_in nodes) at × Stands text at (after_tests nodes) end
passed_end text start at nodes end h p =
    let none = none_left text at end p.rest h p.stands in (
      p.joins at (subst (λ (xs : Nodes). Stands text at xs at) (sym (ap tests_in none)) refl),
      subst (λ (xs : Nodes). Stands text at xs end) (sym (ap after_tests none) ∙ p.same) (at_end text at end p.rest h p.stands),
    )

-- `whole_stands` with the number of tokens by another name
pub whole_there : (text : List ℕ) (end : ℕ) → end ≡ length (tokens_of (tree_of text)) → Stands text 0 (nodes_of (tree_of text)) end
whole_there text end e = subst (λ (k : ℕ). Stands text 0 (nodes_of (tree_of text)) k) (sym e) (whole_stands text)
