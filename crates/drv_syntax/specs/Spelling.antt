use Rattle.drv_words.specs.Bytes as ascii
use Rattle.drv_syntax.specs.Bytes.{is_blank, is_function, is_mark, is_name_byte, is_option, is_plain, is_white, is_suffix, is_word}
use Rattle.drv_syntax.specs.Directives.{braced, directive_of, is_allowed, said, text_of}
use Rattle.drv_syntax.specs.declared.directives.BraceKind.{BraceKind}
use Rattle.drv_syntax.specs.declared.directives.BraceKind.TheVariants.{InPlace}
use Rattle.drv_syntax.specs.declared.directives.Directive.{Directive}
use Rattle.drv_syntax.specs.declared.directives.Directive.TheVariants.{Named, OfStar, Whole, WithBraces, WithCall, WithMarkedBraces}
use Rattle.drv_syntax.specs.declared.directives.Directive.TheVariants.{WithName, WithOption, WithPattern, WithSaying, WithSuffix}
use Rattle.drv_syntax.specs.declared.directives.SayKind.{SayKind}
use Rattle.drv_syntax.specs.Contexts.{ListContext, Kind, Starred, Top, bar_in, in_arguments, in_braces, in_x, is_end, is_said, newline_in}
use Rattle.drv_syntax.specs.Contexts.{top}
use Rattle.drv_syntax.specs.Tree.{Accumulate, Asked, Blank, Brace, BuiltinText, Choices, Choose, Emit, Escape, Function, HasLanguage}
use Rattle.drv_syntax.specs.Tree.{HasResult, HasSuffix, HasSwitch, Hide, Item, Items, Leaf, NamedText, Pattern, Plain, Span, Star, TempName}
use Rattle.drv_syntax.specs.Tree.{Tests, alternative, more, no_choice, no_test, none, pattern, test}
use Rattle.drv_syntax.specs.declared.directives.BuiltinName.{BuiltinName}
use Rattle.drv_syntax.specs.declared.token.Leaf as leaf
use Rattle.drv_syntax.specs.declared.token.TempKind.{TempKind}
use Rattle.std.specs.Prelude.{◌≡◌, ◌≤◌, ◌+◌, ◌==◌, Bool, false, true, List, [], ◌∷◌, ◌++◌, length, codes, ℕ}

-- The grammar of spec texts (GCC manual, "Spec Files"; what that leaves open is this project's profile). A family says of a text what its
-- front is, and what is left after it: the first list is the text, and the last one what is left. `size` is the length of the whole text,
-- by which `At` gives places; letters such as t u v w are the text and what is left of it, part by part.

-- the text doesn't begin with a byte of the class f
pub data Stops (f : ℕ → Bool) : List ℕ → Type 0 where
  at_end : Stops f []
  at_byte : {b : ℕ} {rest : List ℕ} → f b ≡ false → Stops f (b ∷ rest)

-- the longest run of bytes of the class f, and what is left after it
pub data IsRun (f : ℕ → Bool) : List ℕ → List ℕ → List ℕ → Type 0 where
  run_ends : {rest : List ℕ} → Stops f rest → IsRun f rest [] rest
  run_goes : {b : ℕ} {text run rest : List ℕ} → f b ≡ true → IsRun f text run rest → IsRun f (b ∷ text) (b ∷ run) rest

-- the longest run of bytes of the class f and of escapes, where a backslash makes the next byte plain
pub data IsQuoted (f : ℕ → Bool) : List ℕ → List ℕ → List ℕ → Type 0 where
  quoted_end : IsQuoted f [] [] []
  quoted_stop : {b : ℕ} {rest : List ℕ} → (b == ascii.backslash) ≡ false → f b ≡ false → IsQuoted f (b ∷ rest) [] (b ∷ rest)
  quoted_escape : {b : ℕ} {text run rest : List ℕ} → IsQuoted f text run rest → IsQuoted f (ascii.backslash ∷ b ∷ text) (b ∷ run) rest
  quoted_byte : {b : ℕ} {text run rest : List ℕ} → (b == ascii.backslash) ≡ false → f b ≡ true → IsQuoted f text run rest
      → IsQuoted f (b ∷ text) (b ∷ run) rest

-- a pattern: a word, a word with a star, or a star alone
pub data IsPattern : List ℕ → Pattern → List ℕ → Type 0 where
  unstarred : {b : ℕ} {text word rest : List ℕ} → IsQuoted is_word text (b ∷ word) rest → Stops (λ c. c == ascii.asterisk) rest
      → IsPattern text (pattern (b ∷ word) false) rest
  starred : {text word rest : List ℕ} → IsQuoted is_word text word (ascii.asterisk ∷ rest) → IsPattern text (pattern word true) rest

-- the text begins with white space, or with none; not all of it need be taken here
pub data AreSpaces : List ℕ → List ℕ → Type 0 where
  no_space : {rest : List ℕ} → AreSpaces rest rest
  space : {b : ℕ} {text rest : List ℕ} → is_white b ≡ true → AreSpaces text rest → AreSpaces (b ∷ text) rest

-- a suffix: the longest run of letters and periods, or %O for .o, or none
pub data IsSuffix : List ℕ → List ℕ → List ℕ → Type 0 where
  suffix_run : {b : ℕ} {text run rest : List ℕ} → IsRun is_suffix text (b ∷ run) rest → IsSuffix text (b ∷ run) rest
  suffix_object : {rest : List ℕ} → IsSuffix (ascii.percent ∷ ascii.capital_o ∷ rest) (codes ".o") rest
  suffix_none : IsSuffix [] [] []
  suffix_other : {b : ℕ} {rest : List ℕ} → is_suffix b ≡ false → (b == ascii.percent) ≡ false → IsSuffix (b ∷ rest) [] (b ∷ rest)
  suffix_directive : {b : ℕ} {rest : List ℕ} → (b == ascii.capital_o) ≡ false
      → IsSuffix (ascii.percent ∷ b ∷ rest) [] (ascii.percent ∷ b ∷ rest)

-- what ends the text of %e and %n: a newline, which belongs to it, or else a byte that doesn't
pub data EndsSaying : List ℕ → List ℕ → Type 0 where
  by_newline : {rest : List ℕ} → EndsSaying (ascii.newline ∷ rest) rest
  by_other : {rest : List ℕ} → Stops (λ b. b == ascii.newline) rest → EndsSaying rest rest

-- a list of this kind ends here: a whole text at its end, and another before the byte that ends it
pub data EndsList : Kind → List ℕ → Type 0 where
  text_ends : EndsList Top []
  list_ends : {kind : Kind} {b : ℕ} {rest : List ℕ} → is_end kind b ≡ true → EndsList kind (b ∷ rest)

-- a test's ! and the white space after it, or none: whether the test is negated
pub data IsSign : List ℕ → Bool → List ℕ → Type 0 where
  plain_sign : {rest : List ℕ} → Stops (λ b. b == ascii.exclamation_mark) rest → IsSign rest false rest
  not_sign : {text rest : List ℕ} → AreSpaces text rest → IsSign (ascii.exclamation_mark ∷ text) true rest

-- in a text of this size the rest begins at this place
abbrev pub At : ℕ → ℕ → List ℕ → Type 0
At size place rest = place + length rest ≡ size

-- the bytes from the place start up to the place end
abbrev pub span : ℕ → ℕ → Span
span start end = record { start = start; end = end }

-- patterns, up to the brace that closes them
pub data ArePatterns (size : ℕ) : List ℕ → List (Span × Pattern) → List ℕ → Type 0 where
  last_pattern : {n m : ℕ} {t u v rest : List ℕ} {p : Pattern} → AreSpaces t u → At size n u → IsPattern u p v → At size m v
      → AreSpaces v (ascii.closing_brace ∷ rest)
      → ArePatterns size t ((span n m, p) ∷ []) rest
  next_pattern : {n m : ℕ} {t u v w rest : List ℕ} {p : Pattern} {ps : List (Span × Pattern)} → AreSpaces t u → At size n u
      → IsPattern u p v → At size m v → AreSpaces v (ascii.ampersand ∷ w)
      → ArePatterns size w ps rest → ArePatterns size t ((span n m, p) ∷ ps) rest

mutual
  -- the items of a list with this context, up to what ends the list; each has the places where it begins and ends
  pub data AreItems (size : ℕ) : ListContext → List ℕ → Items → List ℕ → Type 0 where
    no_item : {c : ListContext} {rest : List ℕ} → EndsList c.kind rest → AreItems size c rest none rest
    next_item : {c : ListContext} {n m : ℕ} {text mid rest : List ℕ} {item : Item} {items : Items} → At size n text
        → IsItem size c text item mid → At size m mid
        → AreItems size c mid items rest → AreItems size c text (more (span n m) item items) rest

  -- one item of a list with this context, by its first byte
  pub data IsItem (size : ℕ) : ListContext → List ℕ → Item → List ℕ → Type 0 where
    plain : {c : ListContext} {b : ℕ} {rest : List ℕ} → is_plain b ≡ true → is_end c.kind b ≡ false
        → IsItem size c (b ∷ rest) (Plain b) rest
    escape : {c : ListContext} {b : ℕ} {rest : List ℕ} → IsItem size c (ascii.backslash ∷ b ∷ rest) (Escape b) rest
    blank : {c : ListContext} {b : ℕ} {rest : List ℕ} → is_blank b ≡ true → IsItem size c (b ∷ rest) Blank rest
    newline : {c : ListContext} {rest : List ℕ} → IsItem size c (ascii.newline ∷ rest) (newline_in c.in_arguments) rest
    pipe : {c : ListContext} {rest : List ℕ} → IsItem size c (ascii.bar ∷ rest) (bar_in c.in_arguments) rest
    directive : {c : ListContext} {b : ℕ} {text rest : List ℕ} {item : Item} → is_allowed c.in_arguments b ≡ true
        → IsDirective size c (directive_of b) text item rest
        → IsItem size c (ascii.percent ∷ b ∷ text) item rest

  -- a directive as this item, by what follows its byte
  pub data IsDirective (size : ℕ) : ListContext → Directive → List ℕ → Item → List ℕ → Type 0 where
    whole : {c : ListContext} {rest : List ℕ} {leaf : leaf.Leaf} → IsDirective size c (Whole leaf) rest (Leaf leaf) rest
    named : {c : ListContext} {rest : List ℕ} {name : BuiltinName} → IsDirective size c (Named name) rest (BuiltinText (text_of name)) rest
    temp_name : {c : ListContext} {kind : TempKind} {text suffix rest : List ℕ} → IsSuffix text suffix rest
        → IsDirective size c (WithSuffix kind) text (TempName kind suffix) rest
    accumulate : {c : ListContext} {b : ℕ} {text option rest : List ℕ} → IsQuoted is_option text (b ∷ option) (ascii.closing_brace ∷ rest)
        → IsDirective size c WithOption (ascii.opening_brace ∷ text) (Accumulate (b ∷ option)) rest
    saying : {c : ListContext} {kind : SayKind} {text words mid rest : List ℕ} → IsQuoted (is_said c.kind) text words mid
        → EndsSaying mid rest
        → IsDirective size c (WithSaying kind) text (said kind words) rest
    named_text : {c : ListContext} {b : ℕ} {text name rest : List ℕ} → IsRun is_name_byte text (b ∷ name) (ascii.closing_parenthesis ∷ rest)
        → length (b ∷ name) ≤ 255
        → IsDirective size c WithName text (NamedText (b ∷ name)) rest
    hide : {c : ListContext} {text rest : List ℕ} {p : Pattern} → IsPattern text p rest → IsDirective size c WithPattern text (Hide p) rest
    star : {c : ListContext} {rest : List ℕ} → c.owner ≡ Starred → IsDirective size c OfStar rest Star rest
    function : {c : ListContext} {text name rest : List ℕ} {arguments : Items} → IsCall size c text name arguments rest
        → IsDirective size c WithCall text (Function name arguments) rest
    braces : {c : ListContext} {text rest : List ℕ} {brace : Brace} → IsBrace size c text brace rest
        → IsDirective size c WithBraces text (braced InPlace brace) rest
    marked_braces : {c : ListContext} {kind : BraceKind} {text rest : List ℕ} {brace : Brace} → IsBrace size c text brace rest
        → IsDirective size c (WithMarkedBraces kind) (ascii.opening_brace ∷ text) (braced kind brace) rest

  -- a function's name and its arguments, with both parentheses
  pub data IsCall (size : ℕ) : ListContext → List ℕ → List ℕ → Items → List ℕ → Type 0 where
    call : {c : ListContext} {text name rest : List ℕ} {arguments : Items} → (c.levels == 0) ≡ false → is_function name ≡ true
        → AreItems size (in_arguments c) text arguments (ascii.closing_parenthesis ∷ rest)
        → IsCall size c (name ++ ascii.opening_parenthesis ∷ text) name arguments rest

  -- the inside of braces, as patterns or alternatives, and the brace that closes them
  pub data IsBrace (size : ℕ) : ListContext → List ℕ → Brace → List ℕ → Type 0 where
    emits : {c : ListContext} {text rest : List ℕ} {ps : List (Span × Pattern)} → (c.levels == 0) ≡ false → ArePatterns size text ps rest
        → IsBrace size c text (Emit ps) rest
    chooses : {c : ListContext} {text rest : List ℕ} {choices : Choices} → (c.levels == 0) ≡ false
        → AreChoices size (in_braces c) text choices rest
        → IsBrace size c text (Choose choices) rest

  -- alternatives of braces: tests, a colon and an X for each, with a semicolon between them and the brace that closes them
  pub data AreChoices (size : ℕ) : ListContext → List ℕ → Choices → List ℕ → Type 0 where
    last_choice : {c : ListContext} (colon : ℕ) {text mid rest : List ℕ} {tests : Tests} {items : Items}
        → AreTests size c text tests (ascii.colon ∷ mid) → At size colon (ascii.colon ∷ mid)
        → AreItems size (in_x c tests) mid items (ascii.closing_brace ∷ rest)
        → AreChoices size c text (alternative colon tests items no_choice) rest
    next_choice : {c : ListContext} (colon : ℕ) {text mid next rest : List ℕ} {tests : Tests} {items : Items} {choices : Choices}
        → AreTests size c text tests (ascii.colon ∷ mid)
        → At size colon (ascii.colon ∷ mid) → AreItems size (in_x c tests) mid items (ascii.semicolon ∷ next)
        → AreLater size c next choices rest
        → AreChoices size c text (alternative colon tests items choices) rest

  -- alternatives after the first, of which the last may be the default
  pub data AreLater (size : ℕ) : ListContext → List ℕ → Choices → List ℕ → Type 0 where
    with_tests : {c : ListContext} {text rest : List ℕ} {choices : Choices} → AreChoices size c text choices rest
        → AreLater size c text choices rest
    default : {c : ListContext} (colon : ℕ) {text mid rest : List ℕ} {items : Items} → AreSpaces text (ascii.colon ∷ mid)
        → At size colon (ascii.colon ∷ mid)
        → AreItems size (in_x c no_test) mid items (ascii.closing_brace ∷ rest)
        → AreLater size c text (alternative colon no_test items no_choice) rest

  -- the tests of an alternative, with a bar between them, up to their colon
  pub data AreTests (size : ℕ) : ListContext → List ℕ → Tests → List ℕ → Type 0 where
    last_test : {c : ListContext} {n m : ℕ} {t u v w rest : List ℕ} {negated : Bool} {asked : Asked} → AreSpaces t u → At size n u
        → IsSign u negated v → IsAsked size c v asked w
        → At size m w → AreSpaces w (ascii.colon ∷ rest) → AreTests size c t (test (span n m) negated asked no_test) (ascii.colon ∷ rest)
    next_test : {c : ListContext} {n m : ℕ} {t u v w x rest : List ℕ} {negated : Bool} {asked : Asked} {tests : Tests} → AreSpaces t u
        → At size n u → IsSign u negated v
        → IsAsked size c v asked w → At size m w → AreSpaces w (ascii.bar ∷ x) → AreTests size c x tests rest
        → AreTests size c t (test (span n m) negated asked tests) rest

  -- what a test asks: of a switch, a suffix, a language or a function's result
  pub data IsAsked (size : ℕ) : ListContext → List ℕ → Asked → List ℕ → Type 0 where
    switch : {c : ListContext} {text rest : List ℕ} {p : Pattern} → Stops is_mark text → IsPattern text p rest
        → IsAsked size c text (HasSwitch p) rest
    suffix : {c : ListContext} {b : ℕ} {text word rest : List ℕ} → IsQuoted is_word text (b ∷ word) rest
        → IsAsked size c (ascii.period ∷ text) (HasSuffix (b ∷ word)) rest
    language : {c : ListContext} {b : ℕ} {text word rest : List ℕ} → IsQuoted is_word text (b ∷ word) rest
        → IsAsked size c (ascii.comma ∷ text) (HasLanguage (b ∷ word)) rest
    result : {c : ListContext} {text name rest : List ℕ} {arguments : Items} → IsCall size c text name arguments rest
        → IsAsked size c (ascii.percent ∷ ascii.colon ∷ text) (HasResult name arguments) rest

-- a text has this tree: its items go up to its end
abbrev pub Spells : List ℕ → Items → Type 0
Spells text items = AreItems (length text) top text items []
