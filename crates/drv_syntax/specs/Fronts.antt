use Rattle.drv_words.specs.Bytes as ascii
use Rattle.drv_syntax.specs.Bytes.{is_function, is_function_front, is_mark, is_name_byte, is_option, is_word}
use Rattle.drv_syntax.specs.Directives.{directive_of, is_allowed}
use Rattle.drv_syntax.specs.declared.directives.BraceKind.{BraceKind}
use Rattle.drv_syntax.specs.declared.directives.Directive.{Directive}
use Rattle.drv_syntax.specs.declared.directives.Directive.TheVariants.{WithBraces, WithCall, WithMarkedBraces, WithName, WithOption}
use Rattle.drv_syntax.specs.declared.directives.Directive.TheVariants.{WithPattern, WithSaying, WithSuffix}
use Rattle.drv_syntax.specs.declared.directives.SayKind.{SayKind}
use Rattle.drv_syntax.specs.Contexts.{ListContext, in_arguments, in_braces, in_x, is_said, top}
use Rattle.drv_syntax.specs.Spelling.{AreItems, AreSpaces, AreTests, IsAsked, IsItem, IsPattern, IsRun, IsSign, Stops}
use Rattle.drv_syntax.specs.Tree.{Asked, Item, Items, Pattern, Tests, no_test}
use Rattle.drv_syntax.specs.declared.token.TempKind.{TempKind}
use Rattle.std.specs.Prelude.{◌≡◌, ◌≤◌, ◌==◌, Bool, false, true, List, [], ◌∷◌, ◌++◌, length, ℕ}

-- The fronts of spec texts: the cases of the grammar, each with its last part whole or cut short at any byte (GCC manual,
-- "Spec Files"; this project's profile). A family says of a text that it is a front of its case up to its end. Nothing is said
-- of texts that could follow.

-- bytes of the class f and escapes up to the end of the text; the last backslash may lack its byte
pub data RunsOut (f : ℕ → Bool) : List ℕ → Type 0 where
  out_end : RunsOut f []
  out_backslash : RunsOut f (ascii.backslash ∷ [])
  out_escape : {b : ℕ} {text : List ℕ} → RunsOut f text → RunsOut f (ascii.backslash ∷ b ∷ text)
  out_byte : {b : ℕ} {text : List ℕ} → (b == ascii.backslash) ≡ false → f b ≡ true → RunsOut f text → RunsOut f (b ∷ text)

-- patterns that are cut short: the text ends in one, after one, or in those after an ampersand
pub data CutsPatterns : List ℕ → Type 0 where
  in_pattern : {t u : List ℕ} → AreSpaces t u → RunsOut is_word u → CutsPatterns t
  after_pattern : {t u v : List ℕ} {p : Pattern} → AreSpaces t u → IsPattern u p v → AreSpaces v [] → CutsPatterns t
  after_and : {t u v w : List ℕ} {p : Pattern} → AreSpaces t u → IsPattern u p v → AreSpaces v (ascii.ampersand ∷ w) → CutsPatterns w
      → CutsPatterns t

mutual
  -- the items of a list that are cut short: all are whole, or the text ends in the last one
  pub data AreFrontItems (size : ℕ) : ListContext → List ℕ → Type 0 where
    items_end : {c : ListContext} → AreFrontItems size c []
    whole_item : {c : ListContext} {text rest : List ℕ} {item : Item} → IsItem size c text item rest → AreFrontItems size c rest
        → AreFrontItems size c text
    cut_item : {c : ListContext} {text : List ℕ} → CutsItem size c text → AreFrontItems size c text

  -- an item that is cut short: a backslash or a % alone, or a directive
  pub data CutsItem (size : ℕ) : ListContext → List ℕ → Type 0 where
    cut_escape : {c : ListContext} → CutsItem size c (ascii.backslash ∷ [])
    cut_percent : {c : ListContext} → CutsItem size c (ascii.percent ∷ [])
    cut_directive : {c : ListContext} {b : ℕ} {text : List ℕ} → is_allowed c.in_arguments b ≡ true
        → CutsDirective size c (directive_of b) text → CutsItem size c (ascii.percent ∷ b ∷ text)

  -- a directive that is cut short after its byte
  pub data CutsDirective (size : ℕ) : ListContext → Directive → List ℕ → Type 0 where
    cut_suffix : {c : ListContext} {kind : TempKind} → CutsDirective size c (WithSuffix kind) (ascii.percent ∷ [])
    cut_option : {c : ListContext} → CutsDirective size c WithOption []
    cut_option_text : {c : ListContext} {text : List ℕ} → RunsOut is_option text
        → CutsDirective size c WithOption (ascii.opening_brace ∷ text)
    cut_saying : {c : ListContext} {kind : SayKind} {text : List ℕ} → RunsOut (is_said c.kind) text
        → CutsDirective size c (WithSaying kind) text
    cut_name : {c : ListContext} {text name : List ℕ} → IsRun is_name_byte text name [] → length name ≤ 255
        → CutsDirective size c WithName text
    cut_hide : {c : ListContext} {text : List ℕ} → RunsOut is_word text → CutsDirective size c WithPattern text
    cut_function : {c : ListContext} {text : List ℕ} → CutsCall size c text → CutsDirective size c WithCall text
    cut_braces : {c : ListContext} {text : List ℕ} → CutsBrace size c text → CutsDirective size c WithBraces text
    cut_mark : {c : ListContext} {kind : BraceKind} → (c.levels == 0) ≡ false → CutsDirective size c (WithMarkedBraces kind) []
    cut_marked_braces : {c : ListContext} {kind : BraceKind} {text : List ℕ} → CutsBrace size c text
        → CutsDirective size c (WithMarkedBraces kind) (ascii.opening_brace ∷ text)

  -- a function that is cut short: the text ends in its name, or in its arguments
  pub data CutsCall (size : ℕ) : ListContext → List ℕ → Type 0 where
    in_function : {c : ListContext} {text : List ℕ} → (c.levels == 0) ≡ false → is_function_front text ≡ true → CutsCall size c text
    in_function_arguments : {c : ListContext} {text : List ℕ} (name : List ℕ) → (c.levels == 0) ≡ false → is_function name ≡ true
        → AreFrontItems size (in_arguments c) text
        → CutsCall size c (name ++ ascii.opening_parenthesis ∷ text)

  -- braces that are cut short after the opening one: the text ends in patterns, or in alternatives
  pub data CutsBrace (size : ℕ) : ListContext → List ℕ → Type 0 where
    cut_emits : {c : ListContext} {text : List ℕ} → (c.levels == 0) ≡ false → CutsPatterns text → CutsBrace size c text
    cut_chooses : {c : ListContext} {text : List ℕ} → (c.levels == 0) ≡ false → CutsChoices size (in_braces c) text → CutsBrace size c text

  -- alternatives that are cut short: the text ends in the tests or the X of the first, or in those after it
  pub data CutsChoices (size : ℕ) : ListContext → List ℕ → Type 0 where
    in_tests : {c : ListContext} {text : List ℕ} → CutsTests size c text → CutsChoices size c text
    in_choice : {c : ListContext} {text mid : List ℕ} {tests : Tests} → AreTests size c text tests (ascii.colon ∷ mid)
        → AreFrontItems size (in_x c tests) mid → CutsChoices size c text
    in_others : {c : ListContext} {text mid next : List ℕ} {tests : Tests} {items : Items} → AreTests size c text tests (ascii.colon ∷ mid)
        → AreItems size (in_x c tests) mid items (ascii.semicolon ∷ next) → CutsLater size c next → CutsChoices size c text

  -- alternatives after the first that are cut short, of which the last may be the default
  pub data CutsLater (size : ℕ) : ListContext → List ℕ → Type 0 where
    in_next : {c : ListContext} {text : List ℕ} → CutsChoices size c text → CutsLater size c text
    in_default : {c : ListContext} {text mid : List ℕ} → AreSpaces text (ascii.colon ∷ mid) → AreFrontItems size (in_x c no_test) mid
        → CutsLater size c text

  -- tests that are cut short before their colon: the text ends in what the last one asks, or after it
  pub data CutsTests (size : ℕ) : ListContext → List ℕ → Type 0 where
    in_asked : {c : ListContext} {t u v : List ℕ} {negated : Bool} → AreSpaces t u → IsSign u negated v → CutsAsked size c v
        → CutsTests size c t
    after_asked : {c : ListContext} {t u v w : List ℕ} {negated : Bool} {asked : Asked} → AreSpaces t u → IsSign u negated v
        → IsAsked size c v asked w → AreSpaces w [] → CutsTests size c t
    after_bar : {c : ListContext} {t u v w x : List ℕ} {negated : Bool} {asked : Asked} → AreSpaces t u → IsSign u negated v
        → IsAsked size c v asked w → AreSpaces w (ascii.bar ∷ x)
        → CutsTests size c x → CutsTests size c t

  -- what a test asks, cut short: a word, or a function
  pub data CutsAsked (size : ℕ) : ListContext → List ℕ → Type 0 where
    cut_switch : {c : ListContext} {text : List ℕ} → Stops is_mark text → RunsOut is_word text → CutsAsked size c text
    cut_marked : {c : ListContext} {b : ℕ} {text : List ℕ} → is_mark b ≡ true → RunsOut is_word text → CutsAsked size c (b ∷ text)
    cut_call : {c : ListContext} → (c.levels == 0) ≡ false → CutsAsked size c (ascii.percent ∷ [])
    cut_result : {c : ListContext} {text : List ℕ} → CutsCall size c text → CutsAsked size c (ascii.percent ∷ ascii.colon ∷ text)

-- the text is a front of a spec text: whole items, of which the last may be cut short
abbrev pub Front : List ℕ → Type 0
Front text = AreFrontItems (length text) top text
