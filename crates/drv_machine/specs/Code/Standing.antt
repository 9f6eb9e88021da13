use Rattle.drv_syntax.specs.Labels.{Label, Nodes, labels_of, no_label, no_node, node}
use Rattle.drv_syntax.specs.Parsed.{tree_of}
use Rattle.drv_syntax.specs.Tokens.{tokens_of}
use Rattle.drv_syntax.specs.declared.token.Token.{Token}
use Rattle.drv_syntax.specs.declared.token.TokenKind.TheVariants as kinds
use Rattle.drv_syntax.specs.declared.token.TokenKind.{TokenKind}
use Rattle.std.specs.Prelude.{◌≡◌, ◌<◌, ◌+◌, Bool, List, Some, false, get_or, if◌then◌else◌, slice_get, true, ℕ}

-- Where the parts of a tree are in its flat list (this project's profile). For the clauses of the walk (src/turns.rt and what it calls),
-- which goes over that list by places.
-- Names: `at`, `end`, `next`: places in the text's list of parts.

-- at this place is a part of this kind with this label, and the next part that isn't inside it is at `next`
pub record PartAt (tokens : List Token) (labels : List Label) (at : ℕ) (kind : TokenKind) (label : Label) (next : ℕ) : Type 0 where
  pub token : Token
  pub there : slice_get tokens at ≡ Some token
  pub kind_is : token.kind ≡ kind
  pub next_is : token.next ≡ next
  pub label_is : get_or labels at no_label ≡ label
  pub later : at < next

-- these parts go from one place of the flat list up to another
abbrev pub Stand : List Token → List Label → ℕ → Nodes → ℕ → Type 0
Stand tokens labels at no_node end = at ≡ end
Stand tokens labels at (node kind label span inner others) end =
    (next : ℕ) × PartAt tokens labels at kind label next × Stand tokens labels (at + 1) inner next × Stand tokens labels next others end

-- these parts go from one place of a text's flat list up to another
abbrev pub Stands : List ℕ → ℕ → Nodes → ℕ → Type 0
Stands text at nodes end = Stand (tokens_of (tree_of text)) (labels_of (tree_of text)) at nodes end

-- whole parts go from one place up to another
pub record Spans (text : List ℕ) (at end : ℕ) : Type 0 where
  pub nodes : Nodes
  pub stands : Stands text at nodes end

-- the part is a test
abbrev pub is_test : TokenKind → Bool
is_test kinds.Test = true
is_test _ = false

-- the tests that parts begin with
abbrev pub tests_in : Nodes → Nodes
tests_in no_node = no_node
tests_in (node kind label span inner others) = if is_test kind then node kind label span inner (tests_in others) else no_node

-- what follows the tests that these parts begin with
abbrev pub after_tests : Nodes → Nodes
after_tests no_node = no_node
after_tests (node kind label span inner others) = if is_test kind then after_tests others else node kind label span inner others
