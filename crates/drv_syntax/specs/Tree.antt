use Rattle.drv_syntax.specs.declared.token.Leaf as leaf
use Rattle.drv_syntax.specs.declared.token.TempKind.{TempKind}
use Rattle.std.specs.Prelude.{ℕ, ◌+◌, Bool, List}

-- The tree of a spec text: what is in it, and where (GCC manual, "Spec Files"; places and the cut of trailing white space are this
-- project's profile).

-- the bytes of a text from one place up to another
pub record Span : Type 0 where
  pub start : ℕ
  pub end : ℕ

-- a word, and whether a star follows it
pub data Pattern : Type 0 where
  pattern : List ℕ → Bool → Pattern

mutual
  -- one part of a list: a byte, an escape or a directive, with what it holds
  pub data Item : Type 0 where
    Plain : ℕ → Item  -- a byte that stands for itself
    Escape : ℕ → Item  -- a backslash and this byte
    Blank : Item  -- a space or a tab
    Newline : Item
    Pipe : Item  -- |
    Leaf : leaf.Leaf → Item  -- a directive that is whole with its byte
    TempName : TempKind → List ℕ → Item  -- %g, %u, %U, %| or %m and a suffix
    Accumulate : List ℕ → Item  -- %x{..}
    UserError : List ℕ → Item  -- %e and a text
    Notice : List ℕ → Item  -- %n and a text
    NamedText : List ℕ → Item  -- %(..)
    BuiltinText : List ℕ → Item  -- %a, %A, .., by the name of the text
    Hide : Pattern → Item  -- %< or %> and a pattern
    Function : List ℕ → Items → Item  -- %:name(..)
    Braces : Brace → Item  -- %{..}
    Star : Item  -- %*
    FailureFile : Brace → Item  -- %W{..}
    ArgumentsFile : Brace → Item  -- %@{..}

  -- items, each with the bytes that it takes
  pub data Items : Type 0 where
    none : Items
    more : Span → Item → Items → Items

  -- the inside of braces: patterns, or alternatives
  pub data Brace : Type 0 where
    Emit : List (Span × Pattern) → Brace  -- patterns, joined by &
    Choose : Choices → Brace  -- alternatives, joined by ;

  -- alternatives; one without a test is the default
  pub data Choices : Type 0 where
    no_choice : Choices
    choice : Span → Tests → Items → Choices → Choices

  -- tests of an alternative, joined by |; each with a ! or without
  pub data Tests : Type 0 where
    no_test : Tests
    test : Span → Bool → Asked → Tests → Tests

  -- what a test asks: for a switch, the input's suffix or language, or whether a function has a value
  pub data Asked : Type 0 where
    HasSwitch : Pattern → Asked
    HasSuffix : List ℕ → Asked  -- .word
    HasLanguage : List ℕ → Asked  -- ,word
    HasResult : List ℕ → Items → Asked  -- %:name(..)

-- items without the white space at their end
abbrev pub kept : Span → Item → Items → Items
kept span Blank none = none
kept span Newline none = none
kept span item items = more span item items

-- items without the white space at their end, of which an X has none (this project's profile)
abbrev pub trimmed : Items → Items
trimmed none = none
trimmed (more span item items) = kept span item (trimmed items)

-- where an alternative begins: at its first test, or else at its colon
abbrev pub first_place : Tests → ℕ → ℕ
first_place no_test colon = colon
first_place (test span negated asked tests) colon = span.start

-- where items end that begin at this place
abbrev pub last_place : Items → ℕ → ℕ
last_place none place = place
last_place (more span item items) place = last_place items span.end

-- the alternative of these tests and items with its colon at this place, and the alternatives after it
abbrev pub alternative : ℕ → Tests → Items → Choices → Choices
alternative colon tests items others =
    choice (record { start = first_place tests colon; end = last_place (trimmed items) (colon + 1) }) tests (trimmed items) others
