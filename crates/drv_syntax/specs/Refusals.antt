use Rattle.drv_words.specs.Bytes as ascii
use Rattle.drv_syntax.specs.Bytes.{is_function, is_function_front, is_mark, is_name_byte, is_of, is_white, is_word}
use Rattle.drv_syntax.specs.Directives.{directive_of, is_allowed}
use Rattle.drv_syntax.specs.declared.directives.BraceKind.{BraceKind}
use Rattle.drv_syntax.specs.declared.directives.Directive.{Directive}
use Rattle.drv_syntax.specs.declared.directives.Directive.TheVariants.{Nowhere, OfStar, WithBraces, WithCall, WithMarkedBraces, WithName}
use Rattle.drv_syntax.specs.declared.directives.Directive.TheVariants.{WithOption, WithPattern}
use Rattle.drv_syntax.specs.declared.fault.SyntaxFault.{SyntaxFault}
use Rattle.drv_syntax.specs.declared.fault.SyntaxFault.TheVariants.{BadDirective, EmptyTest, MixedStar, StarOutside, TooNested}
use Rattle.drv_syntax.specs.declared.fault.SyntaxFault.TheVariants.{UnknownFunction}
use Rattle.drv_syntax.specs.Contexts.{ListContext, Mixed, Nobody, in_arguments, in_braces, in_x, top}
use Rattle.drv_syntax.specs.Spelling.{AreItems, AreSpaces, AreTests, At, IsAsked, IsItem, IsPattern, IsQuoted, IsRun, IsSign, Stops}
use Rattle.drv_syntax.specs.Tree.{Asked, HasResult, Item, Items, Pattern, Tests, no_test, pattern}
use Rattle.std.specs.Prelude.{◌≡◌, ◌≤◌, ◌==◌, Bool, false, true, List, [], ◌∷◌, ◌++◌, codes, length, ℕ}

-- Which fault a text is refused for, by the place of its last byte in the grammar. All is over the shortest prefix that is no front: it
-- ends in the byte that no longer fits (GCC manual, "Spec Files"; this project's profile). `Reaches` and its like lead from the text's
-- front to its last place, where something is due (`Due`); `Refuses` says with which byte that fails. `size` is the length of the whole
-- text.

-- the place of a test in braces
pub data Order : Type 0 where
  AtFront : Order  -- at their front: they may be patterns
  AtNext : Order  -- at the front of a later alternative, which may be the default
  AtBar : Order  -- after a bar

-- whether the braces may still be patterns at a test in this place, with a ! or without
abbrev pub may_emit : Order → Bool → Bool
may_emit AtFront false = true
may_emit AtFront true = false
may_emit AtNext negated = false
may_emit AtBar negated = false

-- whether the byte is the colon of a default, where a test would begin
abbrev pub is_default : Order → Bool → ℕ → Bool
is_default AtFront negated b = false
is_default AtNext false b = b == ascii.colon
is_default AtNext true b = false
is_default AtBar negated b = false

-- what is due where a text is open; a number is the place of the % of the braces that are open
pub data Due : Type 0 where
  AnItem : ListContext → Due  -- an item, in a list with this context
  ATest : ListContext → ℕ → Order → Bool → Due  -- what a test asks, with a ! or without; this is the context inside the braces
  AWord : ℕ → Due  -- the word after the . or , of a test
  APattern : ℕ → Due  -- a pattern, after &
  AnEnd : ℕ → List ℕ → Due  -- one of these bytes, after a test or a pattern
  AfterMark : ℕ → Due  -- right after a . or , that may be a pattern
  PastMark : ℕ → Due  -- after such a mark and white space
  NoMore : ℕ → Due  -- the end of the braces, after the X of a default

-- the bytes that may follow a test
abbrev pub ends_test : List ℕ
ends_test = codes ":|"

-- the bytes that may follow a pattern
abbrev pub ends_pattern : List ℕ
ends_pattern = codes "}&"

-- the bytes that may follow what may be a test or a pattern
abbrev pub ends_either : List ℕ
ends_either = codes ":|}&"

-- patterns after an ampersand, in braces whose % has the place n, lead to a place where this is due
pub data ReachesPatterns (n : ℕ) : List ℕ → Due → List ℕ → Type 0 where
  pattern_due : {text rest : List ℕ} → AreSpaces text rest → ReachesPatterns n text (APattern n) rest
  pattern_ends : {t u v rest : List ℕ} {p : Pattern} → AreSpaces t u → IsPattern u p v → AreSpaces v rest
      → ReachesPatterns n t (AnEnd n ends_pattern) rest
  after_and : {t u v w rest : List ℕ} {p : Pattern} {due : Due} → AreSpaces t u → IsPattern u p v → AreSpaces v (ascii.ampersand ∷ w)
      → ReachesPatterns n w due rest → ReachesPatterns n t due rest

-- braces that are patterns, or are not alternatives yet, lead to a place where this is due
pub data ReachesEmits (n : ℕ) : List ℕ → Due → List ℕ → Type 0 where
  starred_ends : {mark : ℕ} {t u v word rest : List ℕ} → AreSpaces t (mark ∷ u) → is_mark mark ≡ true
      → IsPattern (mark ∷ u) (pattern word true) v → AreSpaces v rest
      → ReachesEmits n t (AnEnd n ends_pattern) rest
  after_mark : {mark : ℕ} {t rest : List ℕ} → AreSpaces t (mark ∷ rest) → is_mark mark ≡ true
      → IsPattern (mark ∷ rest) (pattern (mark ∷ []) false) rest → ReachesEmits n t (AfterMark n) rest
  past_mark : {mark b : ℕ} {t u rest : List ℕ} → AreSpaces t (mark ∷ b ∷ u) → is_mark mark ≡ true → is_white b ≡ true → AreSpaces u rest
      → ReachesEmits n t (PastMark n) rest
  after_first : {t u v w rest : List ℕ} {p : Pattern} {due : Due} → AreSpaces t u → IsPattern u p v → AreSpaces v (ascii.ampersand ∷ w)
      → ReachesPatterns n w due rest → ReachesEmits n t due rest

mutual
  -- a list leads to a place where this is due, and to the rest of the text there
  pub data Reaches (size : ℕ) : ListContext → List ℕ → Due → List ℕ → Type 0 where
    item_due : {c : ListContext} {rest : List ℕ} → Reaches size c rest (AnItem c) rest
    after_item : {c : ListContext} {text mid rest : List ℕ} {item : Item} {due : Due} → IsItem size c text item mid
        → Reaches size c mid due rest → Reaches size c text due rest
    in_directive : {c : ListContext} {n b : ℕ} {text rest : List ℕ} {due : Due} → At size n (ascii.percent ∷ b ∷ text)
        → is_allowed c.in_arguments b ≡ true → ReachesIn size c n (directive_of b) text due rest
        → Reaches size c (ascii.percent ∷ b ∷ text) due rest

  -- a directive, whose % has this place, leads after its byte to a place where this is due
  pub data ReachesIn (size : ℕ) : ListContext → ℕ → Directive → List ℕ → Due → List ℕ → Type 0 where
    in_call : {c : ListContext} {n : ℕ} {text rest : List ℕ} {due : Due} (name : List ℕ) → (c.levels == 0) ≡ false → is_function name ≡ true
        → Reaches size (in_arguments c) text due rest
        → ReachesIn size c n WithCall (name ++ ascii.opening_parenthesis ∷ text) due rest
    in_place : {c : ListContext} {n : ℕ} {text rest : List ℕ} {due : Due} → (c.levels == 0) ≡ false
        → ReachesBrace size (in_braces c) n text due rest → ReachesIn size c n WithBraces text due rest
    in_marked : {c : ListContext} {n : ℕ} {kind : BraceKind} {text rest : List ℕ} {due : Due} → (c.levels == 0) ≡ false
        → ReachesBrace size (in_braces c) n text due rest
        → ReachesIn size c n (WithMarkedBraces kind) (ascii.opening_brace ∷ text) due rest

  -- the inside of braces leads to a place where this is due
  pub data ReachesBrace (size : ℕ) : ListContext → ℕ → List ℕ → Due → List ℕ → Type 0 where
    in_emits : {c : ListContext} {n : ℕ} {text rest : List ℕ} {due : Due} → ReachesEmits n text due rest
        → ReachesBrace size c n text due rest
    in_choices : {c : ListContext} {n : ℕ} {text rest : List ℕ} {due : Due} → ReachesChoices size c n AtFront text due rest
        → ReachesBrace size c n text due rest

  -- alternatives lead from the first of them to a place where this is due
  pub data ReachesChoices (size : ℕ) : ListContext → ℕ → Order → List ℕ → Due → List ℕ → Type 0 where
    to_tests : {c : ListContext} {n : ℕ} {order : Order} {text rest : List ℕ} {due : Due} → ReachesTests size c n order text due rest
        → ReachesChoices size c n order text due rest
    to_x : {c : ListContext} {n : ℕ} {order : Order} {text mid rest : List ℕ} {tests : Tests} {due : Due}
        → AreTests size c text tests (ascii.colon ∷ mid) → Reaches size (in_x c tests) mid due rest
        → ReachesChoices size c n order text due rest
    after_x : {c : ListContext} {n : ℕ} {order : Order} {text mid next rest : List ℕ} {tests : Tests} {items : Items} {due : Due}
        → AreTests size c text tests (ascii.colon ∷ mid)
        → AreItems size (in_x c tests) mid items (ascii.semicolon ∷ next) → ReachesLater size c n next due rest
        → ReachesChoices size c n order text due rest

  -- alternatives after the first lead to a place where this is due
  pub data ReachesLater (size : ℕ) : ListContext → ℕ → List ℕ → Due → List ℕ → Type 0 where
    to_next : {c : ListContext} {n : ℕ} {text rest : List ℕ} {due : Due} → ReachesChoices size c n AtNext text due rest
        → ReachesLater size c n text due rest
    to_default : {c : ListContext} {n : ℕ} {text mid rest : List ℕ} {due : Due} → AreSpaces text (ascii.colon ∷ mid)
        → Reaches size (in_x c no_test) mid due rest → ReachesLater size c n text due rest
    after_default : {c : ListContext} {n : ℕ} {text mid rest : List ℕ} {items : Items} → AreSpaces text (ascii.colon ∷ mid)
        → AreItems size (in_x c no_test) mid items (ascii.semicolon ∷ rest)
        → ReachesLater size c n text (NoMore n) (ascii.semicolon ∷ rest)

  -- tests of an alternative lead from the first of them to a place where this is due
  pub data ReachesTests (size : ℕ) : ListContext → ℕ → Order → List ℕ → Due → List ℕ → Type 0 where
    in_test : {c : ListContext} {n : ℕ} {order : Order} {t u v rest : List ℕ} {negated : Bool} {due : Due} → AreSpaces t u
        → IsSign u negated v → ReachesAsked size c n order negated v due rest
        → ReachesTests size c n order t due rest
    after_bar : {c : ListContext} {n : ℕ} {order : Order} {t u v w x rest : List ℕ} {negated : Bool} {asked : Asked} {due : Due}
        → AreSpaces t u → IsSign u negated v → IsAsked size c v asked w
        → AreSpaces w (ascii.bar ∷ x) → ReachesTests size c n AtBar x due rest → ReachesTests size c n order t due rest

  -- a test leads from what it asks to a place where this is due
  pub data ReachesAsked (size : ℕ) : ListContext → ℕ → Order → Bool → List ℕ → Due → List ℕ → Type 0 where
    asked_due : {c : ListContext} {n : ℕ} {order : Order} {negated : Bool} {rest : List ℕ}
        → ReachesAsked size c n order negated rest (ATest c n order negated) rest
    word_due : {c : ListContext} {n mark : ℕ} {order : Order} {negated : Bool} {rest : List ℕ} → may_emit order negated ≡ false
        → is_mark mark ≡ true
        → ReachesAsked size c n order negated (mark ∷ rest) (AWord n) rest
    in_function : {c : ListContext} {n : ℕ} {order : Order} {negated : Bool} {text rest : List ℕ} {due : Due} (name : List ℕ)
        → (c.levels == 0) ≡ false → is_function name ≡ true
        → Reaches size (in_arguments c) text due rest → ReachesAsked size c n order negated
        (ascii.percent ∷ ascii.colon ∷ name ++ ascii.opening_parenthesis ∷ text) due rest
    test_ends : {c : ListContext} {n : ℕ} {order : Order} {negated : Bool} {text mid rest : List ℕ} {asked : Asked}
        → may_emit order negated ≡ false → IsAsked size c text asked mid → AreSpaces mid rest
        → ReachesAsked size c n order negated text (AnEnd n ends_test) rest
    call_ends : {c : ListContext} {n : ℕ} {order : Order} {negated : Bool} {text mid name rest : List ℕ} {arguments : Items}
        → IsAsked size c text (HasResult name arguments) mid → AreSpaces mid rest
        → ReachesAsked size c n order negated text (AnEnd n ends_test) rest
    switch_ends : {c : ListContext} {n : ℕ} {text mid rest : List ℕ} {p : Pattern} → Stops is_mark text → IsPattern text p mid
        → AreSpaces mid rest
        → ReachesAsked size c n AtFront false text (AnEnd n ends_either) rest
    marked_ends : {c : ListContext} {n mark b : ℕ} {text mid word rest : List ℕ} → is_mark mark ≡ true
        → IsQuoted is_word text (b ∷ word) mid → Stops (λ x. x == ascii.asterisk) mid → AreSpaces mid rest
        → ReachesAsked size c n AtFront false (mark ∷ text) (AnEnd n ends_either) rest

-- the directive opens braces or arguments
abbrev pub nests : Directive → Bool
nests WithCall = true
nests WithBraces = true
nests (WithMarkedBraces kind) = true
nests _ = false

-- the byte begins no pattern: it is neither a byte of a word, nor an escape, nor a star
abbrev pub Empty : ℕ → Type 0
Empty b = ((b == ascii.backslash) ≡ false) × (is_word b ≡ false) × ((b == ascii.asterisk) ≡ false)

-- after %: the front of a function's name and a byte that it can't go on with, or a ( after a front that is no name
pub data IsNoFunction : List ℕ → Type 0 where
  not_a_front : (name : List ℕ) (b : ℕ) → is_function_front name ≡ true → is_function_front (name ++ b ∷ []) ≡ false
      → (b == ascii.opening_parenthesis) ≡ false → IsNoFunction (name ++ b ∷ [])
  not_a_name : (name : List ℕ) → is_function_front name ≡ true → is_function name ≡ false
      → IsNoFunction (name ++ ascii.opening_parenthesis ∷ [])

-- after the byte of a directive, up to a byte with which it can't be whole any more
pub data Breaks : ListContext → Directive → List ℕ → Type 0 where
  no_option : {c : ListContext} {b : ℕ} → (b == ascii.opening_brace) ≡ false → Breaks c WithOption (b ∷ [])
  empty_option : {c : ListContext} → Breaks c WithOption (codes "{}")
  no_name : {c : ListContext} {b : ℕ} → is_name_byte b ≡ false → Breaks c WithName (b ∷ [])
  open_name : {c : ListContext} {b : ℕ} {text name : List ℕ} → IsRun is_name_byte text name (b ∷ []) → length name ≤ 255
      → (b == ascii.closing_parenthesis) ≡ false → Breaks c WithName text
  long_name : {c : ListContext} {text name : List ℕ} → IsRun is_name_byte text name [] → length name ≡ 256 → Breaks c WithName text
  no_brace : {c : ListContext} {kind : BraceKind} {b : ℕ} → (c.levels == 0) ≡ false → (b == ascii.opening_brace) ≡ false
      → Breaks c (WithMarkedBraces kind) (b ∷ [])

-- where this is due, a text ends in the byte that no longer fits, and this is its fault
pub data Refuses (size : ℕ) : Due → List ℕ → SyntaxFault → Type 0 where
  -- %* in no X, and in an X without tests, or with a test that is no starred pattern or has a !
  star_outside : {c : ListContext} {n b : ℕ} → At size n (ascii.percent ∷ b ∷ []) → is_allowed c.in_arguments b ≡ true
      → directive_of b ≡ OfStar → c.owner ≡ Nobody
      → Refuses size (AnItem c) (ascii.percent ∷ b ∷ []) (StarOutside n)
  mixed_star : {c : ListContext} {n b : ℕ} → At size n (ascii.percent ∷ b ∷ []) → is_allowed c.in_arguments b ≡ true
      → directive_of b ≡ OfStar → c.owner ≡ Mixed
      → Refuses size (AnItem c) (ascii.percent ∷ b ∷ []) (MixedStar n)
  -- braces or arguments within 64 others: the {, W, @ or : after a %, where that is allowed, or the % of a test
  item_within_all : {c : ListContext} {n b : ℕ} → At size n (ascii.percent ∷ b ∷ []) → is_allowed c.in_arguments b ≡ true
      → nests (directive_of b) ≡ true → (c.levels == 0) ≡ true
      → Refuses size (AnItem c) (ascii.percent ∷ b ∷ []) (TooNested n)
  test_within_all : {c : ListContext} {at n : ℕ} {order : Order} {negated : Bool} → At size n (ascii.percent ∷ []) → (c.levels == 0) ≡ true
      → Refuses size (ATest c at order negated) (ascii.percent ∷ []) (TooNested n)
  -- the name of no function
  item_no_function : {c : ListContext} {n b : ℕ} {last : List ℕ} → At size n (ascii.percent ∷ b ∷ last) → is_allowed c.in_arguments b ≡ true
      → directive_of b ≡ WithCall → (c.levels == 0) ≡ false
      → IsNoFunction last → Refuses size (AnItem c) (ascii.percent ∷ b ∷ last) (UnknownFunction n)
  test_no_function : {c : ListContext} {at n : ℕ} {order : Order} {negated : Bool} {last : List ℕ}
      → At size n (ascii.percent ∷ ascii.colon ∷ last) → (c.levels == 0) ≡ false → IsNoFunction last
      → Refuses size (ATest c at order negated) (ascii.percent ∷ ascii.colon ∷ last) (UnknownFunction n)
  -- a pattern or a test without a word and a star: after %< and %>, in braces, after a . or , and after &
  hides_nothing : {c : ListContext} {n b x : ℕ} → At size n (ascii.percent ∷ b ∷ x ∷ []) → is_allowed c.in_arguments b ≡ true
      → directive_of b ≡ WithPattern → Empty x
      → Refuses size (AnItem c) (ascii.percent ∷ b ∷ x ∷ []) (EmptyTest n)
  no_test_there : {c : ListContext} {at b : ℕ} {order : Order} {negated : Bool} → Empty b → is_white b ≡ false
      → (b == ascii.percent) ≡ false → is_default order negated b ≡ false
      → Refuses size (ATest c at order negated) (b ∷ []) (EmptyTest at)
  no_word : {at b : ℕ} → (b == ascii.backslash) ≡ false → is_word b ≡ false → Refuses size (AWord at) (b ∷ []) (EmptyTest at)
  no_pattern : {at b : ℕ} → Empty b → is_white b ≡ false → Refuses size (APattern at) (b ∷ []) (EmptyTest at)
  mark_alone : {at b : ℕ} → is_white b ≡ false → is_of ends_pattern b ≡ false → Refuses size (AfterMark at) (b ∷ []) (EmptyTest at)
  mark_is_no_test : {at b : ℕ} → is_of ends_test b ≡ true → Refuses size (PastMark at) (b ∷ []) (EmptyTest at)
  -- a default that is not last
  default_goes_on : {at : ℕ} → Refuses size (NoMore at) (ascii.semicolon ∷ []) (EmptyTest at)
  -- no such directive, or not allowed at its place; inside one; after the % of a test no colon; after a test or a pattern
  not_allowed : {c : ListContext} {n b : ℕ} → At size n (ascii.percent ∷ b ∷ []) → is_allowed c.in_arguments b ≡ false
      → Refuses size (AnItem c) (ascii.percent ∷ b ∷ []) (BadDirective n)
  no_directive : {c : ListContext} {n b : ℕ} → At size n (ascii.percent ∷ b ∷ []) → is_allowed c.in_arguments b ≡ true
      → directive_of b ≡ Nowhere
      → Refuses size (AnItem c) (ascii.percent ∷ b ∷ []) (BadDirective n)
  breaks_off : {c : ListContext} {n b : ℕ} {last : List ℕ} → At size n (ascii.percent ∷ b ∷ last) → is_allowed c.in_arguments b ≡ true
      → Breaks c (directive_of b) last
      → Refuses size (AnItem c) (ascii.percent ∷ b ∷ last) (BadDirective n)
  no_call : {c : ListContext} {at n b : ℕ} {order : Order} {negated : Bool} → At size n (ascii.percent ∷ b ∷ []) → (c.levels == 0) ≡ false
      → (b == ascii.colon) ≡ false
      → Refuses size (ATest c at order negated) (ascii.percent ∷ b ∷ []) (BadDirective n)
  no_end : {at b : ℕ} {ends : List ℕ} → is_white b ≡ false → is_of ends b ≡ false → Refuses size (AnEnd at ends) (b ∷ []) (BadDirective at)
  no_end_past_mark : {at b : ℕ} → is_white b ≡ false → is_of ends_either b ≡ false → Refuses size (PastMark at) (b ∷ []) (BadDirective at)

-- a text ends in the byte that no longer fits, and this is its fault
pub record IsRefused (text : List ℕ) (fault : SyntaxFault) : Type 0 where
  pub due : Due
  pub last : List ℕ
  pub reached : Reaches (length text) top text due last
  pub refused : Refuses (length text) due last fault
