use Rattle.drv_words.specs.Bytes as ascii
use Rattle.drv_syntax.specs.Bytes.{is_of}
use Rattle.drv_syntax.specs.Tree.{Blank, Item, HasLanguage, Newline, Pipe, Plain, HasResult, HasSuffix, HasSwitch, Tests, no_test, pattern}
use Rattle.drv_syntax.specs.Tree.{test}
use Rattle.std.specs.Prelude.{◌-◌, ◌==◌, Bool, false, true, if◌then◌else◌, [], ◌∷◌, codes, ℕ}

-- Where a list of items is, and what that means for its bytes and directives (this project's profile). Spelling, Fronts, Refusals and
-- Descent carry it as `c`.

-- where a list of items is, by which byte ends it and what a newline and a bar mean in it
pub data Kind : Type 0 where
  Top : Kind  -- a whole text
  InX : Kind  -- the X of an alternative
  InArguments : Kind  -- a function's arguments

-- which X a %* belongs to, by what is around it; only in the last case it has a value
pub data Owner : Type 0 where
  Nobody : Owner  -- no X
  Mixed : Owner  -- an X without tests, or with one that is no starred pattern
  Starred : Owner  -- an X whose tests are starred patterns without !

-- what the bytes of a list and its directives depend on: where the list is, and what is around it
pub record ListContext : Type 0 where
  pub kind : Kind
  pub in_arguments : Bool  -- in arguments at any depth
  pub owner : Owner
  pub levels : ℕ  -- so many more braces and arguments may stand in one another

-- the list that a whole text is: nothing is around it, and 64 levels of braces and arguments may be in it
abbrev pub top : ListContext
top = record { kind = Top; in_arguments = false; owner = Nobody; levels = 64 }

-- the context in the braces of a list, before the colon of an alternative: one level deeper
abbrev pub in_braces : ListContext → ListContext
in_braces c = record { kind = c.kind; in_arguments = c.in_arguments; owner = c.owner; levels = c.levels - 1 }

-- the context in the arguments of a function of a list: one level deeper, and in arguments for all that is inside
abbrev pub in_arguments : ListContext → ListContext
in_arguments c = record { kind = InArguments; in_arguments = true; owner = c.owner; levels = c.levels - 1 }

-- each test asks for a switch by a starred pattern, without a !; so %* has a value wherever one of them is true
abbrev pub all_starred : Tests → Bool
all_starred no_test = true
all_starred (test span false (HasSwitch (pattern word true)) tests) = all_starred tests
all_starred (test span false (HasSwitch (pattern word false)) tests) = false
all_starred (test span false (HasSuffix word) tests) = false
all_starred (test span false (HasLanguage word) tests) = false
all_starred (test span false (HasResult name arguments) tests) = false
all_starred (test span true asked tests) = false

-- what %* finds in the X of an alternative with these tests
abbrev pub owner_of : Tests → Owner
owner_of no_test = Mixed
owner_of (test span negated asked tests) = if all_starred (test span negated asked tests) then Starred else Mixed

-- the context in the X of an alternative with these tests; braces have counted its level (`in_braces`)
abbrev pub in_x : ListContext → Tests → ListContext
in_x c tests = record { kind = InX; in_arguments = c.in_arguments; owner = owner_of tests; levels = c.levels }

-- the byte ends a list: in an X a semicolon or a brace, in arguments a bracket
abbrev pub is_end : Kind → ℕ → Bool
is_end Top b = false
is_end InX b = is_of (codes ";}") b
is_end InArguments b = b == ascii.closing_parenthesis

-- the byte belongs to the text of %e and %n: up to a newline, and in an X up to its end
abbrev pub is_said : Kind → ℕ → Bool
is_said Top b = if b == ascii.newline then false else true
is_said InX b = if is_of (ascii.newline ∷ ascii.semicolon ∷ ascii.closing_brace ∷ []) b then false else true
is_said InArguments b = if b == ascii.newline then false else true

-- what a newline is in a list: in arguments a blank
abbrev pub newline_in : Bool → Item
newline_in in_arguments = if in_arguments then Blank else Newline

-- what | is in a list: in arguments a plain byte
abbrev pub bar_in : Bool → Item
bar_in in_arguments = if in_arguments then Plain ascii.bar else Pipe
