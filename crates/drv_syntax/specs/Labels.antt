use Rattle.drv_syntax.specs.Stars.{has_star}
use Rattle.drv_syntax.specs.Tokens.{kind_of}
use Rattle.drv_syntax.specs.Tree as tree
use Rattle.drv_syntax.specs.Tree.{Asked, Brace, Choices, Item, Items, Pattern, Span, Tests}
use Rattle.drv_syntax.specs.declared.token.TestKind.TheVariants as asking
use Rattle.drv_syntax.specs.declared.token.TestKind.{TestKind}
use Rattle.drv_syntax.specs.declared.token.TokenKind.TheVariants as kinds
use Rattle.drv_syntax.specs.declared.token.TokenKind.{TokenKind}
use Rattle.std.specs.Prelude.{Bool, false, List, [], ◌∷◌, ◌++◌, get_or, ℕ}

-- What each part of a tree names, beside the flat list of its parts (this project's profile): the label at a place is that of the token at
-- the same place. An X is what an alternative has after its colon.

-- what a part names beside its place: its word, and what a test or an alternative asks
pub record Label : Type 0 where
  pub word : List ℕ  -- what it names, without escapes
  pub starred : Bool  -- a star stands after the word
  pub negated : Bool  -- a ! stands before it
  pub asks : TestKind  -- what a test asks
  pub holds_star : Bool  -- the X of an alternative has a %* of its own

-- the label of any part but an alternative
abbrev pub part_label : List ℕ → Bool → Bool → TestKind → Label
part_label word starred negated asks = record { word = word; starred = starred; negated = negated; asks = asks; holds_star = false }

-- the label of a part that names a word alone
abbrev pub word_label : List ℕ → Label
word_label word = part_label word false false asking.Switch

-- the label of a part that names nothing
abbrev pub no_label : Label
no_label = word_label []

-- the label of an alternative, whose X holds a %* of its own or not
abbrev pub star_label : Bool → Label
star_label holds = record { word = []; starred = false; negated = false; asks = asking.Switch; holds_star = holds }

-- the label of an alternative with these items as its X
abbrev pub alternative_label : Items → Label
alternative_label items = star_label (has_star items)

-- the label of a pattern: its word and its star
abbrev pub pattern_label : Pattern → Label
pattern_label (tree.pattern word starred) = part_label word starred false asking.Switch

-- the label of a test, with a ! or without: its word (a function's name for a result) and what it asks
abbrev pub test_label : Bool → Asked → Label
test_label negated (tree.HasSwitch (tree.pattern word starred)) = part_label word starred negated asking.Switch
test_label negated (tree.HasSuffix word) = part_label word false negated asking.Suffix
test_label negated (tree.HasLanguage word) = part_label word false negated asking.Language
test_label negated (tree.HasResult name arguments) = part_label name false negated asking.Result

-- the label of an item: the bytes that it names without escapes, or nothing
abbrev pub label_of : Item → Label
label_of (tree.Plain b) = word_label (b ∷ [])
label_of (tree.Escape b) = word_label (b ∷ [])
label_of (tree.TempName kind suffix) = word_label suffix
label_of (tree.Accumulate option) = word_label option
label_of (tree.UserError text) = word_label text
label_of (tree.Notice text) = word_label text
label_of (tree.NamedText name) = word_label name
label_of (tree.BuiltinText name) = word_label name
label_of (tree.Hide p) = pattern_label p
label_of (tree.Function name arguments) = word_label name
label_of _ = no_label

-- a tree as its parts alone: each with what it is, its label, its place, the parts inside it and those after it
pub data Nodes : Type 0 where
  no_node : Nodes
  node : TokenKind → Label → Span → Nodes → Nodes → Nodes

-- these parts and then those, on one level
abbrev pub both : Nodes → Nodes → Nodes
both no_node ys = ys
both (node kind label s inner xs) ys = node kind label s inner (both xs ys)

-- the parts that the patterns of braces are
abbrev pub pattern_nodes : List (Span × Pattern) → Nodes
pattern_nodes [] = no_node
pattern_nodes (p ∷ patterns) = node kinds.Pattern (pattern_label p.1) p.0 no_node (pattern_nodes patterns)

abbrev mutual
  -- the parts that items are, each with those inside it
  pub nodes_of : Items → Nodes
  nodes_of tree.none = no_node
  nodes_of (tree.more s item items) = node (kind_of item) (label_of item) s (inner_nodes item) (nodes_of items)

  -- the parts inside an item: of a function its arguments, and of braces what they hold
  pub inner_nodes : Item → Nodes
  inner_nodes (tree.Function name arguments) = nodes_of arguments
  inner_nodes (tree.Braces brace) = brace_nodes brace
  inner_nodes (tree.FailureFile brace) = brace_nodes brace
  inner_nodes (tree.ArgumentsFile brace) = brace_nodes brace
  inner_nodes _ = no_node

  -- the parts inside braces: patterns or alternatives
  pub brace_nodes : Brace → Nodes
  brace_nodes (tree.Emit patterns) = pattern_nodes patterns
  brace_nodes (tree.Choose choices) = choice_nodes choices

  -- the parts that alternatives are; in each its tests are before its X
  pub choice_nodes : Choices → Nodes
  choice_nodes tree.no_choice = no_node
  choice_nodes (tree.choice s tests items choices) = node kinds.Alternative (alternative_label items) s
      (both (test_nodes tests) (nodes_of items)) (choice_nodes choices)

  -- the parts that the tests of an alternative are
  pub test_nodes : Tests → Nodes
  test_nodes tree.no_test = no_node
  test_nodes (tree.test s negated asked tests) = node kinds.Test (test_label negated asked) s (asked_nodes asked) (test_nodes tests)

  -- the parts inside a test: of a function's result the arguments
  pub asked_nodes : Asked → Nodes
  asked_nodes (tree.HasResult name arguments) = nodes_of arguments
  asked_nodes _ = no_node

-- the labels of parts, in the order of their tokens
abbrev pub labels : Nodes → List Label
labels no_node = []
labels (node kind label s inner others) = label ∷ labels inner ++ labels others

-- the labels of a tree, in the order of its tokens
abbrev pub labels_of : Items → List Label
labels_of items = labels (nodes_of items)

-- the label of the part at this place of the list
abbrev pub label_at : Items → ℕ → Label
label_at items place = get_or (labels_of items) place no_label
