use Rattle.drv_syntax.specs.Tree as tree
use Rattle.drv_syntax.specs.Tree.{Asked, Brace, Choices, Item, Items, Pattern, Span, Tests}
use Rattle.drv_syntax.specs.declared.token.Token.{Token}
use Rattle.drv_syntax.specs.declared.token.TokenKind.TheVariants as kinds
use Rattle.drv_syntax.specs.declared.token.TokenKind.{TokenKind}
use Rattle.std.specs.Prelude.{◌+◌, List, [], ◌∷◌, ◌++◌, length, ℕ}

-- A tree as a flat list of its items, alternatives, tests and patterns of braces, by their start, outer ones first
-- (this project's profile).

-- what an item is, without what it names
abbrev pub kind_of : Item → TokenKind
kind_of (tree.Plain b) = kinds.Plain
kind_of (tree.Escape b) = kinds.Escape
kind_of tree.Blank = kinds.Blank
kind_of tree.Newline = kinds.Newline
kind_of tree.Pipe = kinds.Pipe
kind_of (tree.Leaf leaf) = kinds.Leaf leaf
kind_of (tree.TempName kind suffix) = kinds.TempName kind
kind_of (tree.Accumulate option) = kinds.Accumulate
kind_of (tree.UserError text) = kinds.UserError
kind_of (tree.Notice text) = kinds.Notice
kind_of (tree.NamedText name) = kinds.NamedText
kind_of (tree.BuiltinText name) = kinds.BuiltinText
kind_of (tree.Hide p) = kinds.Hide
kind_of (tree.Function name arguments) = kinds.Function
kind_of (tree.Braces (tree.Emit patterns)) = kinds.Emit
kind_of (tree.Braces (tree.Choose choices)) = kinds.Choose
kind_of tree.Star = kinds.Star
kind_of (tree.FailureFile brace) = kinds.FailureFile
kind_of (tree.ArgumentsFile brace) = kinds.ArgumentsFile

-- a token, the tokens inside it, and what follows from the place after these; the token has the place n in the list
abbrev pub token : ℕ → TokenKind → Span → List Token → (ℕ → List Token) → List Token
token n kind span inner others =
    record { kind = kind; start = span.start; end = span.end; next = n + 1 + length inner } ∷ inner ++ others (n + 1 + length inner)

-- the tokens of the patterns of braces, from the place n of the whole list on
abbrev pub pattern_tokens : ℕ → List (Span × Pattern) → List Token
pattern_tokens n [] = []
pattern_tokens n (p ∷ patterns) = token n kinds.Pattern p.0 [] (λ m. pattern_tokens m patterns)

-- each list from the place n on in the whole list
abbrev mutual
  -- the tokens of items, from the place n of the whole list on; in what follows n means that too
  pub item_tokens : ℕ → Items → List Token
  item_tokens n tree.none = []
  item_tokens n (tree.more span item items) = token n (kind_of item) span (inner_tokens (n + 1) item) (λ m. item_tokens m items)

  -- the tokens inside an item: of a function its arguments, and of braces what they hold
  pub inner_tokens : ℕ → Item → List Token
  inner_tokens n (tree.Function name arguments) = item_tokens n arguments
  inner_tokens n (tree.Braces brace) = brace_tokens n brace
  inner_tokens n (tree.FailureFile brace) = brace_tokens n brace
  inner_tokens n (tree.ArgumentsFile brace) = brace_tokens n brace
  inner_tokens n _ = []

  -- the tokens inside braces: patterns or alternatives
  pub brace_tokens : ℕ → Brace → List Token
  brace_tokens n (tree.Emit patterns) = pattern_tokens n patterns
  brace_tokens n (tree.Choose choices) = choice_tokens n choices

  -- the tokens of alternatives; in each its tests are before its X
  pub choice_tokens : ℕ → Choices → List Token
  choice_tokens n tree.no_choice = []
  choice_tokens n (tree.choice span tests items choices) =
      token n kinds.Alternative span (test_tokens (n + 1) tests ++ item_tokens (n + 1 + length (test_tokens (n + 1) tests)) items)
      (λ m. choice_tokens m choices)

  -- the tokens of the tests of an alternative
  pub test_tokens : ℕ → Tests → List Token
  test_tokens n tree.no_test = []
  test_tokens n (tree.test span negated asked tests) = token n kinds.Test span (asked_tokens (n + 1) asked) (λ m. test_tokens m tests)

  -- the tokens inside a test: of a function's result the arguments
  pub asked_tokens : ℕ → Asked → List Token
  asked_tokens n (tree.HasResult name arguments) = item_tokens n arguments
  asked_tokens n _ = []

-- the tokens of a tree, each with its place in the text and the place of the next token that isn't inside it
abbrev pub tokens_of : Items → List Token
tokens_of items = item_tokens 0 items
