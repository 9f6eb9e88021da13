use Rattle.drv_syntax.proofs.FlatNodes.{as_many_of}
use Rattle.drv_syntax.specs.Labels.{Label, labels_of}
use Rattle.drv_syntax.specs.Outcome.{parsed}
use Rattle.drv_syntax.specs.Parsed.{listed, tree_in, tree_of}
use Rattle.drv_syntax.specs.Tokens.{tokens_of}
use Rattle.drv_syntax.specs.Tree.{Items}
use Rattle.drv_syntax.specs.declared.token.Token.{Token}
use Rattle.drv_syntax.specs.declared.fault.SyntaxFault.{SyntaxFault}
use Rattle.std.proofs.Common.{◌≡◌, ℕ, ◌<◌, List, [], length, subst, sym, ap, ◌∙◌}
use Rattle.std.specs.Prelude.{Result, Ok, Err}

-- The tokens and labels that are kept of a text are those of its tree. It serves `SpecTree::tokens`, `word` and their like.
-- Names: `tokens`: the flat list of parts. `parsed`: the tree of a text, or its fault. `listed`: the tokens of a tree and their labels, or
-- the fault in place of a tree. `labels_of`: the labels of a tree, in the order of its tokens. `tokens_of`: the tokens of a tree.

-- the tokens of a text, or none where it has a fault
abbrev tokens_in : Result (List Token × List Label) SyntaxFault → List Token
tokens_in (Ok p) = p.0
tokens_in (Err fault) = []

-- the labels of a text, or none where it has a fault
abbrev labels_in : Result (List Token × List Label) SyntaxFault → List Label
labels_in (Ok p) = p.1
labels_in (Err fault) = []

-- the tokens that are kept of a text that was read are those of its tree
pub listed_tokens : (text : List ℕ) (tokens : List Token) (labels : List Label) → listed (parsed text) ≡ Ok (tokens, labels)
    → tokens ≡ tokens_of (tree_of text)
listed_tokens text tokens labels h = by (parsed text) h
  where
    by : (r : Result Items SyntaxFault) → listed r ≡ Ok (tokens, labels) → tokens ≡ tokens_of (tree_in r)
    by (Ok items) e = sym (ap (λ r. tokens_in r) e)
    by (Err fault) e = absurd cc

-- the labels that are kept of a text that was read are those of its tree
pub listed_labels : (text : List ℕ) (tokens : List Token) (labels : List Label) → listed (parsed text) ≡ Ok (tokens, labels)
    → labels ≡ labels_of (tree_of text)
listed_labels text tokens labels h = by (parsed text) h
  where
    by : (r : Result Items SyntaxFault) → listed r ≡ Ok (tokens, labels) → labels ≡ labels_of (tree_in r)
    by (Ok items) e = sym (ap (λ r. labels_in r) e)
    by (Err fault) e = absurd cc

-- a place of a token is the place of a label
pub label_within : (items : Items) (place : ℕ) (labels : List Label) → labels ≡ labels_of items → place < length (tokens_of items)
    → place < length labels
label_within items place labels e h = subst (λ (n : ℕ). place < n) (sym (ap (λ ls. length ls) e ∙ as_many_of items)) h
