use Rattle.drv_syntax.specs.Code.Writing.{flat}
use Rattle.drv_syntax.specs.Labels.{Label, Nodes, asked_nodes, both, brace_nodes, choice_nodes, inner_nodes, label_of, labels, labels_of}
use Rattle.drv_syntax.specs.Labels.{no_node, node, nodes_of, pattern_nodes, test_nodes}
use Rattle.drv_syntax.specs.Tokens.{asked_tokens, brace_tokens, choice_tokens, inner_tokens, item_tokens, kind_of, pattern_tokens}
use Rattle.drv_syntax.specs.Tokens.{test_tokens, token, tokens_of}
use Rattle.drv_syntax.specs.Tree as tree
use Rattle.drv_syntax.specs.Tree.{Asked, Brace, Choices, Item, Items, Pattern, Span, Tests}
use Rattle.drv_syntax.specs.declared.token.Token.{Token}
use Rattle.drv_syntax.specs.declared.token.TokenKind.TheVariants as kinds
use Rattle.drv_syntax.specs.declared.token.TokenKind.{TokenKind}
use Rattle.std.proofs.Common.{◌≡◌, ℕ, ◌+◌, List, [], ◌∷◌, ◌++◌, length, refl, sym, ap, subst, ◌∙◌, arith, append_assoc, length-append}

-- The tokens of a tree are those of its parts, one after the other, with as many labels. It serves `SpecTree::tokens`, `word` and their
-- like, and what the reader writes.
-- Names: `flat`: the tokens of parts, from the place n of the list on. `nodes_of`: the parts that items are, each with those inside it.
-- `test_nodes`: the parts that the tests of an alternative are. `token`: a token, the tokens inside it, and what follows from the place
-- after these. `both`: these parts and then those, on one level. `labels`: the labels of parts, in the order of their tokens. `others`: the
-- tokens that follow from a place on. `inside`, `later`: what is in a part, and what follows it.

-- items and other items after them as one list
abbrev pub join : Items → Items → Items
join tree.none others = others
join (tree.more s item items) others = tree.more s item (join items others)

-- tokens with equal insides, and equal others after them, are equal
pub same_token : (n : ℕ) (kind : TokenKind) (place : Span) {xs ys : List Token} {others same_others : ℕ → List Token}
    → xs ≡ ys → ((m : ℕ) → others m ≡ same_others m) → token n kind place xs others ≡ token n kind place ys same_others
same_token n kind place {xs} {ys} {others} {same_others} e h =
    subst (λ (zs : List Token). token n kind place xs others ≡ token n kind place zs same_others) e
    (ap (λ zs. record { kind = kind; start = place.start; end = place.end; next = n + 1 + length xs } ∷ xs ++ zs) (h (n + 1 + length xs)))

-- the tokens of parts and of others after them are those of both, one after the other
pub flat_both : (n : ℕ) (xs ys : Nodes) → flat n (both xs ys) ≡ flat n xs ++ flat (n + length (flat n xs)) ys
flat_both n no_node ys = rw (by n) refl
  where
    by : (k : ℕ) → k + 0 ≡ k
    by k = omega arith
flat_both n (node kind label place inner xs) ys =
    let m : ℕ = n + 1 + length (flat (n + 1) inner) in
    let token : Token = record { kind = kind; start = place.start; end = place.end; next = m } in
    cc (flat_both m xs ys, joined token (flat (n + 1) inner) (flat m xs) n m refl (λ k. flat k ys))
  where
    -- a token, its parts and those after it, as one list
    joined : (token : Token) (inside later : List Token) (n m : ℕ)
        → m ≡ n + 1 + length inside → (others : ℕ → List Token) → token ∷ inside ++ (later ++ others (m + length later))
        ≡ (token ∷ inside ++ later) ++ others (n + length (token ∷ inside ++ later))
    joined token inside later n m e others =
        let k : n + length (token ∷ inside ++ later) ≡ m + length later = omega (arith, length-append (token ∷ inside) later) in
        rw k (sym (append_assoc (token ∷ inside) later (others (m + length later))))

-- there are as many labels as tokens
pub as_many : (n : ℕ) (xs : Nodes) → length (labels xs) ≡ length (flat n xs)
as_many n no_node = refl
as_many n (node kind label place inner xs) =
    let m : ℕ = n + 1 + length (flat (n + 1) inner) in
    counted label (record { kind = kind; start = place.start; end = place.end; next = m }) (labels inner) (labels xs) (flat (n + 1) inner)
    (flat m xs) (as_many (n + 1) inner) (as_many m xs)
  where
    -- a part counts as one on both sides, beside what is in it and what follows it
    counted : (label : Label) (token : Token) (inside later : List Label) (inside_tokens later_tokens : List Token)
        → length inside ≡ length inside_tokens
        → length later ≡ length later_tokens → length (label ∷ inside ++ later) ≡ length (token ∷ inside_tokens ++ later_tokens)
    counted label token inside later inside_tokens later_tokens e f =
        omega (arith, length-append inside later, length-append inside_tokens later_tokens)

-- the tokens of patterns are those of their parts
pub patterns_flat : (n : ℕ) (patterns : List (Span × Pattern)) → pattern_tokens n patterns ≡ flat n (pattern_nodes patterns)
patterns_flat n [] = refl
patterns_flat n (p ∷ patterns) = same_token n kinds.Pattern p.0 {xs = []} {ys = []} refl (λ m. patterns_flat m patterns)

mutual
  -- the tokens of a list of items are those of its parts
  pub items_flat : (n : ℕ) (items : Items) → item_tokens n items ≡ flat n (nodes_of items)
  items_flat n tree.none = refl
  items_flat n (tree.more s item items) = same_token n (kind_of item) s (inner_flat (n + 1) item) (λ m. items_flat m items)

  -- the tokens inside an item are those of the parts inside it
  inner_flat : (n : ℕ) (item : Item) → inner_tokens n item ≡ flat n (inner_nodes item)
  inner_flat n (tree.Plain b) = refl
  inner_flat n (tree.Escape b) = refl
  inner_flat n tree.Blank = refl
  inner_flat n tree.Newline = refl
  inner_flat n tree.Pipe = refl
  inner_flat n (tree.Leaf leaf) = refl
  inner_flat n (tree.TempName kind suffix) = refl
  inner_flat n (tree.Accumulate option) = refl
  inner_flat n (tree.UserError text) = refl
  inner_flat n (tree.Notice text) = refl
  inner_flat n (tree.NamedText name) = refl
  inner_flat n (tree.BuiltinText name) = refl
  inner_flat n (tree.Hide p) = refl
  inner_flat n (tree.Function name arguments) = items_flat n arguments
  inner_flat n (tree.Braces brace) = brace_flat n brace
  inner_flat n tree.Star = refl
  inner_flat n (tree.FailureFile brace) = brace_flat n brace
  inner_flat n (tree.ArgumentsFile brace) = brace_flat n brace

  -- the tokens of braces are those of the parts in them
  brace_flat : (n : ℕ) (brace : Brace) → brace_tokens n brace ≡ flat n (brace_nodes brace)
  brace_flat n (tree.Emit patterns) = patterns_flat n patterns
  brace_flat n (tree.Choose choices) = choices_flat n choices

  -- the tokens of alternatives are those of their parts
  choices_flat : (n : ℕ) (choices : Choices) → choice_tokens n choices ≡ flat n (choice_nodes choices)
  choices_flat n tree.no_choice = refl
  choices_flat n (tree.choice s tests items choices) =
      same_token n kinds.Alternative s
      (subst (λ (zs : List Token). zs ++ item_tokens (n + 1 + length zs) items ≡ flat (n + 1) (both (test_nodes tests) (nodes_of items)))
      (sym (tests_flat (n + 1) tests))
      (ap (λ zs. flat (n + 1) (test_nodes tests) ++ zs) (items_flat (n + 1 + length (flat (n + 1) (test_nodes tests))) items)
      ∙ sym (flat_both (n + 1) (test_nodes tests) (nodes_of items))))
      (λ m. choices_flat m choices)

  -- the tokens of tests are those of their parts
  tests_flat : (n : ℕ) (tests : Tests) → test_tokens n tests ≡ flat n (test_nodes tests)
  tests_flat n tree.no_test = refl
  tests_flat n (tree.test s negated asked tests) = same_token n kinds.Test s (asked_flat (n + 1) asked) (λ m. tests_flat m tests)

  -- the tokens of what a test asks are those of the parts in it
  asked_flat : (n : ℕ) (asked : Asked) → asked_tokens n asked ≡ flat n (asked_nodes asked)
  asked_flat n (tree.HasSwitch p) = refl
  asked_flat n (tree.HasSuffix word) = refl
  asked_flat n (tree.HasLanguage word) = refl
  asked_flat n (tree.HasResult name arguments) = items_flat n arguments

-- a tree has as many labels as tokens
pub as_many_of : (items : Items) → length (labels_of items) ≡ length (tokens_of items)
as_many_of items = as_many 0 (nodes_of items) ∙ ap (λ ts. length ts) (sym (items_flat 0 items))

-- the parts of two lists, one after the other, are those of both
pub items_join : (xs ys : Items) → nodes_of (join xs ys) ≡ both (nodes_of xs) (nodes_of ys)
items_join tree.none ys = refl
items_join (tree.more s item xs) ys = ap (λ n. node (kind_of item) (label_of item) s (inner_nodes item) n) (items_join xs ys)
