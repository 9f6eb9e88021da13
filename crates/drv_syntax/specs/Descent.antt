use Rattle.drv_words.specs.Bytes as ascii
use Rattle.drv_syntax.specs.Bytes.{is_blank, is_function, is_function_front, is_mark, is_name_byte, is_option, is_suffix, is_white, is_word}
use Rattle.drv_syntax.specs.Contexts.{InArguments, InX, Kind, ListContext, Mixed, Nobody, Owner, Starred, Top, bar_in, in_arguments}
use Rattle.drv_syntax.specs.Contexts.{in_braces, in_x, is_end, is_said, newline_in}
use Rattle.drv_syntax.specs.Directives.{braced, directive_of, is_allowed, said, text_of}
use Rattle.drv_syntax.specs.Refusals.{AtBar, AtFront, AtNext, Order, may_emit}
use Rattle.drv_syntax.specs.Rest.{Left, after, begins_with, by_byte, first_of, past_byte, past_white, second_of}
use Rattle.drv_syntax.specs.Spelling.{span}
use Rattle.drv_syntax.specs.Tree.{Accumulate, Asked, Blank, Brace, BuiltinText, Choices, Choose, Emit, Escape, Function, HasLanguage}
use Rattle.drv_syntax.specs.Tree.{HasResult}
use Rattle.drv_syntax.specs.Tree.{HasSuffix, HasSwitch, Hide, Item, Items, Leaf, NamedText, Pattern, Plain, Span, Star, TempName, Tests}
use Rattle.drv_syntax.specs.Tree.{alternative, more, no_choice, no_test, none, pattern, test}
use Rattle.drv_syntax.specs.declared.directives.BraceKind.TheVariants.{InPlace}
use Rattle.drv_syntax.specs.declared.directives.BraceKind.{BraceKind}
use Rattle.drv_syntax.specs.declared.directives.Directive.TheVariants.{Named, Nowhere, OfStar, Whole, WithBraces, WithCall}
use Rattle.drv_syntax.specs.declared.directives.Directive.TheVariants.{WithMarkedBraces, WithName, WithOption, WithPattern, WithSaying}
use Rattle.drv_syntax.specs.declared.directives.Directive.TheVariants.{WithSuffix}
use Rattle.drv_syntax.specs.declared.directives.Directive.{Directive}
use Rattle.drv_syntax.specs.declared.directives.SayKind.{SayKind}
use Rattle.drv_syntax.specs.declared.fault.SyntaxFault.TheVariants.{BadDirective, EmptyTest, MixedStar, StarOutside, TooNested}
use Rattle.drv_syntax.specs.declared.fault.SyntaxFault.TheVariants.{UnknownFunction}
use Rattle.drv_syntax.specs.declared.fault.SyntaxFault.{SyntaxFault}
use Rattle.drv_syntax.specs.declared.token.TempKind.{TempKind}
use Rattle.std.specs.List.{prefix_len}
use Rattle.std.specs.Prelude.{◌+◌, ◌-◌, ◌==◌, ◌&&◌, ◌||◌, Bool, false, true, if◌then◌else◌, List, [], ◌∷◌, ◌++◌, nat_le, take, Option}
use Rattle.std.specs.Prelude.{None, Some}
use Rattle.std.specs.Prelude.{codes, suc, zero, ℕ}

-- What each part of a spec text gives: the grammar as functions, each on what is left of the text from its part on (GCC manual, "Spec
-- Files"; this project's profile). The last function, levels, gives what reads the list that a whole text is.
--
-- A text is a list of items (items). An item is an escape, a directive, a blank, a newline, a bar or a plain byte (item). A directive may
-- go on with a suffix, an option, a text, a name or a pattern, or with a list in arguments (call) or in braces (braces). Braces hold
-- patterns, or alternatives (choices): tests (tests), a colon and a list.
--
-- `at` is the place of the % of the directive that a part belongs to. `lists` reads the lists that are one level deeper, and `deep` those
-- that are two levels deeper.

-- a part is read, and this is left of the text; or the text ends in a part that isn't closed, whose % or backslash has this place; or the
-- byte at this place doesn't fit
pub data Read (X : Type 0) : Type 0 where
  Took : X → Left → Read X
  Ends : ℕ → Read X
  Stops : ℕ → SyntaxFault → Read X

-- goes on with what was read and with what is left, unless the text ends there or a byte doesn't fit
abbrev pub then_read : {X Y : Type 0} → Read X → (X → Left → Read Y) → Read Y
then_read (Took x rest) goes = goes x rest
then_read (Ends at) goes = Ends at
then_read (Stops n fault) goes = Stops n fault

-- what was read, as this function of it
abbrev pub mapped : {X Y : Type 0} → (X → Y) → Read X → Read Y
mapped f read = then_read read (λ x rest. Took (f x) rest)

-- reads a list inside a directive whose % has this place: where the text ends in the list, the directive is what isn't closed
abbrev pub within : {X : Type 0} → ℕ → Read X → Read X
within at (Took x rest) = Took x rest
within at (Ends inner) = Ends at
within at (Stops n fault) = Stops n fault

-- what one turn of a loop gives: the last part, or a part before those that follow
pub data Turn (X : Type 0) : Type 0 where
  Last : X → Turn X
  More : (X → X) → Turn X

-- goes on after a turn, unless it was the last
abbrev pub after_turn : {X : Type 0} → (Left → Read X) → Turn X → Left → Read X
after_turn goes (Last x) rest = Took x rest
after_turn goes (More f) rest = mapped f (goes rest)

-- as many turns as there are bytes at most, since each takes one of them
abbrev pub turns : {X : Type 0} → (Left → Read (Turn X)) → List ℕ → Left → Read X
turns step [] rest = then_read (step rest) (after_turn (λ end. Ends end.at))
turns step (b ∷ bytes) rest = then_read (step rest) (after_turn (turns step bytes))

-- one turn after another, up to the last
abbrev pub repeat : {X : Type 0} → (Left → Read (Turn X)) → Left → Read X
repeat step rest = turns step rest.bytes rest

-- words

-- a run of bytes and of escapes: its bytes, or none where the text ends in an escape, and what is left from there on
pub record Run : Type 0 where
  pub word : Option (List ℕ)
  pub rest : Left

-- a run that ends here, without a byte
abbrev pub run_ends : ℕ → List ℕ → Run
run_ends n text = record { word = Some []; rest = record { at = n; bytes = text } }

-- one more byte before a word, if there is one
abbrev pub longer : ℕ → Option (List ℕ) → Option (List ℕ)
longer b None = None
longer b (Some word) = Some (b ∷ word)

-- one more byte before a run
abbrev pub with_byte : ℕ → Run → Run
with_byte b run = record { word = longer b run.word; rest = run.rest }

-- the longest run of bytes of the class f and of escapes, where a backslash makes the next byte plain; the text begins at the place n
abbrev pub quoted_at : (ℕ → Bool) → ℕ → List ℕ → Run
quoted_at f n [] = run_ends n []
quoted_at f n (b ∷ []) =
    if b == ascii.backslash then record { word = None; rest = record { at = n; bytes = b ∷ [] } }
    else if f b then with_byte b (run_ends (n + 1) [])
    else run_ends n (b ∷ [])
quoted_at f n (b ∷ c ∷ text) =
    if b == ascii.backslash then with_byte c (quoted_at f (n + 2) text)
    else if f b then with_byte b (quoted_at f (n + 1) (c ∷ text))
    else run_ends n (b ∷ c ∷ text)

-- the longest run of bytes of the class f and of escapes
abbrev pub quoted : (ℕ → Bool) → Left → Run
quoted f rest = quoted_at f rest.at rest.bytes

-- goes on after a run with its word; or, where the text ends in an escape, with what `hangs` makes of that
abbrev pub word_then : {X : Type 0} → Option (List ℕ) → Left → (Left → Read X) → (List ℕ → Left → Read X) → Read X
word_then None rest hangs goes = hangs rest
word_then (Some word) rest hangs goes = goes word rest

-- goes on after a run with its word; or, where the text ends in an escape, with what `hangs` makes of that
abbrev pub by_word : {X : Type 0} → Run → (Left → Read X) → (List ℕ → Left → Read X) → Read X
by_word run hangs goes = word_then run.word run.rest hangs goes

-- the word has no bytes
abbrev pub is_empty : List ℕ → Bool
is_empty [] = true
is_empty (b ∷ word) = false

-- directives without an inside

-- %g or its like without a suffix of its own: %O for the suffix of objects, or none
abbrev pub suffix_object : TempKind → Left → List ℕ → Read Item
suffix_object kind rest [] = Took (TempName kind []) rest
suffix_object kind rest (b ∷ []) = if b == ascii.percent then Ends rest.at else Took (TempName kind []) rest
suffix_object kind rest (b ∷ c ∷ text) =
    if (b == ascii.percent) && (c == ascii.capital_o) then Took (TempName kind (codes ".o")) (after 2 rest)
    else Took (TempName kind []) rest

-- %g and its like with a suffix of so many bytes
abbrev pub suffix_of : TempKind → ℕ → Left → Read Item
suffix_of kind size rest =
    if size == 0 then suffix_object kind rest rest.bytes else Took (TempName kind (take size rest.bytes)) (after size rest)

-- %g and its like: the longest suffix, or %O for .o, or none
abbrev pub suffix : TempKind → Left → Read Item
suffix kind rest = suffix_of kind (prefix_len is_suffix rest.bytes) rest

-- the brace that closes %x{OPTION}, after this word: an option without bytes doesn't fit
abbrev pub option_end : ℕ → List ℕ → Left → Read Item
option_end at word rest = by_byte (first_of rest.bytes) (Ends at) (λ b.
    if is_empty word then Stops rest.at (BadDirective at) else Took (Accumulate word) (after 1 rest))

-- %x{OPTION} after its x: both braces, and the option's bytes and escapes between them
abbrev pub option : ℕ → Left → Read Item
option at rest = by_byte (first_of rest.bytes) (Ends at) (λ b.
    if b == ascii.opening_brace then by_word (quoted is_option (after 1 rest)) (λ end. Ends at) (λ word end. option_end at word end)
    else Stops rest.at (BadDirective at))

-- %eTEXT and %nTEXT, up to the end of the line or of the X; the newline belongs to them, and a backslash that the text ends in isn't closed
abbrev pub saying : Kind → SayKind → Left → Read Item
saying list kind rest = by_word (quoted (is_said list) rest) (λ end. Ends end.at) (λ word end.
    Took (said kind word) (past_byte ascii.newline end))

-- the parenthesis that closes %(NAME), after a name of so many bytes: a name without bytes doesn't fit, nor does another byte
abbrev pub name_end : ℕ → ℕ → List ℕ → Left → Read Item
name_end at size name rest = by_byte (first_of rest.bytes) (Ends at) (λ b.
    if size == 0 then Stops rest.at (BadDirective at)
    else if b == ascii.closing_parenthesis then Took (NamedText name) (after 1 rest)
    else Stops rest.at (BadDirective at))

-- %(NAME) with a name of so many bytes, of which at most 255 fit
abbrev pub named_of : ℕ → ℕ → Left → Read Item
named_of at size rest =
    if nat_le size 255 then name_end at size (take size rest.bytes) (after size rest) else Stops (rest.at + 255) (BadDirective at)

-- %(NAME): the longest run of bytes of a name, and what ends it
abbrev pub named : ℕ → Left → Read Item
named at rest = named_of at (prefix_len is_name_byte rest.bytes) rest

-- the star of a pattern, or none, after this word: a pattern without word and star doesn't fit
abbrev pub pattern_end : ℕ → List ℕ → Left → Read Pattern
pattern_end at word rest =
    if begins_with ascii.asterisk rest.bytes then Took (pattern word true) (after 1 rest)
    else if is_empty word then by_byte (first_of rest.bytes) (Ends at) (λ b. Stops rest.at (EmptyTest at))
    else Took (pattern word false) rest

-- a pattern: a word, a word with a star, or a star alone
abbrev pub pattern_at : ℕ → Left → Read Pattern
pattern_at at rest = by_word (quoted is_word rest) (λ end. Ends at) (λ word end. pattern_end at word end)

-- %<PATTERN and %>PATTERN
abbrev pub hide : ℕ → Left → Read Item
hide at rest = mapped (λ p. Hide p) (pattern_at at rest)

-- %* in a list: it fits only in an X whose tests are all starred patterns; n is the place of its star
abbrev pub star : ℕ → ℕ → Owner → Left → Read Item
star at n Nobody rest = Stops n (StarOutside at)
star at n Mixed rest = Stops n (MixedStar at)
star at n Starred rest = Took Star rest

-- functions

-- what reads a list in braces or arguments, up to the byte that ends it, which isn't taken: its items and that byte
abbrev pub Lists : Type 0
Lists = ListContext → Left → Read (Items × ℕ)

-- how many bytes of a text go on with a function's name, after so much of it
abbrev pub front_size : List ℕ → List ℕ → ℕ
front_size name [] = 0
front_size name (b ∷ text) = if is_function_front (name ++ b ∷ []) then 1 + front_size (name ++ b ∷ []) text else 0

-- after what could be a function's name: its parenthesis, if it is one
abbrev pub function_end : ℕ → List ℕ → Left → Read (List ℕ)
function_end at name rest = by_byte (first_of rest.bytes) (Ends at) (λ b.
    if (b == ascii.opening_parenthesis) && is_function name then Took name (after 1 rest) else Stops rest.at (UnknownFunction at))

-- a function's name of so many bytes, and its parenthesis
abbrev pub function_of : ℕ → ℕ → Left → Read (List ℕ)
function_of at size rest = function_end at (take size rest.bytes) (after size rest)

-- a function's name, as far as the text goes on with one, and its parenthesis
abbrev pub function : ℕ → Left → Read (List ℕ)
function at rest = function_of at (front_size [] rest.bytes) rest

-- a function's name and its arguments, with both parentheses, with what `make` makes of them; `at` is the place of the directive that isn't
-- closed where the text ends in them, and n that of the function's own %
abbrev pub call_as : {X : Type 0} → (List ℕ → Items → X) → Lists → ListContext → ℕ → ℕ → Left → Read X
call_as make lists c at n rest = within at (then_read (function n rest) (λ name inner.
    then_read (lists (in_arguments c) inner) (λ list end. Took (make name list.0) (after 1 end))))

-- %:NAME(ARGUMENTS) after its colon, as an item
abbrev pub call : Lists → ListContext → ℕ → Left → Read Item
call lists c at rest = call_as Function lists c at at rest

-- tests and patterns

-- what a test may be: a pattern, a test, or the . or , of a test alone
pub record Operand : Type 0 where
  pub as_pattern : Option Pattern
  pub as_test : Option Asked
  pub bare : Bool

-- a pattern p before the byte that decides: as a pattern of the braces it is p, as a test it asks for a switch that p hits
abbrev pub switch_operand : Pattern → Operand
switch_operand p = record { as_pattern = Some p; as_test = Some (HasSwitch p); bare = false }

-- a word after the mark of a test: . asks for a suffix of the input's name, and , for its language
abbrev pub marked : ℕ → List ℕ → Asked
marked mark word = if mark == ascii.period then HasSuffix word else HasLanguage word

-- a mark and a word: as a pattern the word has the mark as its first byte, and as a test it asks for the suffix or the language
abbrev pub marked_operand : ℕ → List ℕ → Operand
marked_operand mark word = record { as_pattern = Some (pattern (mark ∷ word) false); as_test = Some (marked mark word); bare = false }

-- a mark, a word and a star, which make a pattern alone: no suffix and no language has a star
abbrev pub starred_operand : ℕ → List ℕ → Operand
starred_operand mark word = record { as_pattern = Some (pattern (mark ∷ word) true); as_test = None; bare = false }

-- a mark alone, which makes a pattern of one byte; as a test it is empty (`bare` names that fault)
abbrev pub bare_operand : ℕ → Operand
bare_operand mark = record { as_pattern = Some (pattern (mark ∷ []) false); as_test = None; bare = true }

-- a test of what a function gives, with its arguments: a test alone, and no pattern
abbrev pub result_operand : List ℕ → Items → Operand
result_operand name items = record { as_pattern = None; as_test = Some (HasResult name items); bare = false }

-- what may follow a mark alone, if that is a pattern
abbrev pub ends_bare : ℕ → Bool
ends_bare b = (b == ascii.closing_brace) || (b == ascii.ampersand) || is_white b

-- after a mark without a word, at the byte b: a star, or what may follow the mark, where the braces may still be patterns (`emits`)
abbrev pub bare_end : ℕ → Bool → ℕ → Left → ℕ → Read Operand
bare_end at emits mark rest b =
    if emits && (b == ascii.asterisk) then Took (starred_operand mark []) (after 1 rest)
    else if emits && ends_bare b then Took (bare_operand mark) rest
    else Stops rest.at (EmptyTest at)

-- after a mark and a word: a star, where the braces may still be patterns, or whatever follows
abbrev pub marked_end : ℕ → Bool → ℕ → List ℕ → Left → Read Operand
marked_end at emits mark word rest =
    if begins_with ascii.asterisk rest.bytes
    then (if emits then Took (starred_operand mark word) (after 1 rest) else Stops rest.at (BadDirective at))
    else Took (marked_operand mark word) rest

-- what follows the mark of a test: a word, with its escapes, or none, and a star
abbrev pub mark_text : ℕ → Bool → ℕ → Left → Read Operand
mark_text at emits mark rest = by_word (quoted is_word rest) (λ end. Ends at) (λ word end.
    if is_empty word then by_byte (first_of end.bytes) (Ends at) (λ b. bare_end at emits mark end b) else marked_end at emits mark word end)

-- a test %:NAME(ARGUMENTS) after its %, which has the place n; the colon must be there
abbrev pub result : Lists → ListContext → ℕ → ℕ → Left → Read Operand
result deep c at n rest = by_byte (first_of rest.bytes) (Ends at) (λ b.
    if b == ascii.colon then call_as result_operand deep (in_braces c) at n (after 1 rest) else Stops rest.at (BadDirective n))

-- what a test asks, in braces in a list with this context whose % has the place at, which may still be patterns
abbrev pub asked : Lists → ListContext → ℕ → Bool → Left → Read Operand
asked deep c at emits rest = by_byte (first_of rest.bytes) (Ends at) (λ b.
    if is_mark b then mark_text at emits b (after 1 rest)
    else if b == ascii.percent
    then (if c.levels - 1 == 0 then Stops rest.at (TooNested rest.at) else result deep c at rest.at (after 1 rest))
    else mapped switch_operand (pattern_at at rest))

-- a test and the byte after it and white space, which isn't taken
pub record Tried : Type 0 where
  pub place : Span
  pub negated : Bool
  pub operand : Operand
  pub byte : ℕ

-- the byte after a test and white space: it decides what the test is, so the text must not end there
abbrev pub ended : ℕ → Span → Bool → Operand → Left → Read Tried
ended at place negated operand rest = by_byte (first_of rest.bytes) (Ends at) (λ b.
    Took (record { place = place; negated = negated; operand = operand; byte = b }) rest)

-- what a test asks and the byte after it, where the sign (if any) has been read
abbrev pub asked_from : Lists → ListContext → ℕ → Order → ℕ → Bool → Left → Read Tried
asked_from deep c at order start negated rest = then_read (asked deep c at (may_emit order negated) rest) (λ operand end.
    ended at (span start end.at) negated operand (past_white end))

-- a ! and white space, or nothing, what a test asks, and the byte after it
abbrev pub signed : Lists → ListContext → ℕ → Order → Left → Read Tried
signed deep c at order rest =
    if begins_with ascii.exclamation_mark rest.bytes then asked_from deep c at order rest.at true (past_white (after 1 rest))
    else asked_from deep c at order rest.at false rest

-- white space before a test, the test with its sign, and the byte after it
abbrev pub one_test : Lists → ListContext → ℕ → Order → Left → Read Tried
one_test deep c at order rest = signed deep c at order (past_white rest)

-- what the byte after a pattern says: } ends the patterns, & goes on with others, and another doesn't fit
abbrev pub pattern_turn : ℕ → Span × Pattern → Left → Read (Turn (List (Span × Pattern)))
pattern_turn at p rest = by_byte (first_of rest.bytes) (Ends at) (λ b.
    if b == ascii.closing_brace then Took (Last (p ∷ [])) rest
    else if b == ascii.ampersand then Took (More (λ ps. p ∷ ps)) (after 1 rest)
    else Stops rest.at (BadDirective at))

-- white space, a pattern after an ampersand that begins here, white space and what the byte after it says
abbrev pub pattern_from : ℕ → Left → Read (Turn (List (Span × Pattern)))
pattern_from at rest = then_read (pattern_at at rest) (λ p end. pattern_turn at (span rest.at end.at, p) (past_white end))

-- patterns after an ampersand, up to the brace that closes them, which isn't taken
abbrev pub patterns : ℕ → Left → Read (List (Span × Pattern))
patterns at rest = repeat (λ mid. pattern_from at (past_white mid)) rest

-- what the byte after a test makes of it
pub data After : Type 0 where
  Emits : Span × Pattern → After
  Joins : Span × Pattern → After
  Asks : Span → Bool → Asked → After
  Bars : Span → Bool → Asked → After
  Fails : SyntaxFault → After

-- what was read counts as a pattern, where the braces may be patterns still and it can be one; else the directive is at fault
abbrev pub as_pattern : ℕ → Span → Bool → Option Pattern → (Span × Pattern → After) → After
as_pattern at place true (Some p) goes = goes (place, p)
as_pattern at place true None goes = Fails (BadDirective at)
as_pattern at place false p goes = Fails (BadDirective at)

-- what was read counts as a test, if it can be one; a mark alone is an empty test, anything else a fault of the directive
abbrev pub as_test : ℕ → Bool → Option Asked → (Asked → After) → After
as_test at bare (Some a) goes = goes a
as_test at bare None goes = Fails (if bare then EmptyTest at else BadDirective at)

-- what the byte after a test decides: } ends patterns, & goes on with them, : ends an alternative's tests, | goes on with tests
abbrev pub decided : ℕ → Order → Tried → After
decided at order t =
    if t.byte == ascii.closing_brace then as_pattern at t.place (may_emit order t.negated) t.operand.as_pattern Emits
    else if t.byte == ascii.ampersand then as_pattern at t.place (may_emit order t.negated) t.operand.as_pattern Joins
    else if t.byte == ascii.colon then as_test at t.operand.bare t.operand.as_test (Asks t.place t.negated)
    else if t.byte == ascii.bar then as_test at t.operand.bare t.operand.as_test (Bars t.place t.negated)
    else Fails (BadDirective at)

-- what a test after a bar makes of the tests of its alternative; patterns can't be there (`may_emit`)
abbrev pub test_turn : ℕ → After → Left → Read (Turn Tests)
test_turn at (Emits p) rest = Stops rest.at (BadDirective at)
test_turn at (Joins p) rest = Stops rest.at (BadDirective at)
test_turn at (Asks place negated a) rest = Took (Last (test place negated a no_test)) rest
test_turn at (Bars place negated a) rest = Took (More (λ others. test place negated a others)) (after 1 rest)
test_turn at (Fails fault) rest = Stops rest.at fault

-- the tests after a bar, up to the colon, which isn't taken
abbrev pub more_tests : Lists → ListContext → ℕ → Left → Read Tests
more_tests deep c at rest =
    repeat (λ mid. then_read (one_test deep c at AtBar mid) (λ t end. test_turn at (decided at AtBar t) end)) rest

-- what braces begin with: patterns, up to the brace that closes them, or the tests of an alternative, up to the colon; neither is taken
pub data Form : Type 0 where
  Patterns : List (Span × Pattern) → Form
  Alternative : Tests → Form

-- goes on by what the byte after the first test decided: with the patterns or the tests after it, or with neither
abbrev pub form_by : Lists → ListContext → ℕ → After → Left → Read Form
form_by deep c at (Emits p) rest = Took (Patterns (p ∷ [])) rest
form_by deep c at (Joins p) rest = mapped (λ ps. Patterns (p ∷ ps)) (patterns at (after 1 rest))
form_by deep c at (Asks place negated a) rest = Took (Alternative (test place negated a no_test)) rest
form_by deep c at (Bars place negated a) rest = mapped (λ ts. Alternative (test place negated a ts)) (more_tests deep c at (after 1 rest))
form_by deep c at (Fails fault) rest = Stops rest.at fault

-- what braces or an alternative begin with
abbrev pub form : Lists → ListContext → ℕ → Order → Left → Read Form
form deep c at order rest = then_read (one_test deep c at order rest) (λ t end. form_by deep c at (decided at order t) end)

-- braces

-- the X of an alternative after these tests, whose colon comes next, and the byte that ends it, which isn't taken
abbrev pub x_of : Lists → ListContext → ℕ → Tests → Left → Read (Items × ℕ)
x_of lists c at tests rest = within at (lists (in_x (in_braces c) tests) (after 1 rest))

-- by the byte after the X of an alternative: it is the last one of its braces, or others follow
abbrev pub choice_turn : ℕ → Tests → Items × ℕ → Left → Read (Turn Choices)
choice_turn colon tests x end =
    if x.1 == ascii.closing_brace then Took (Last (alternative colon tests x.0 no_choice)) (after 1 end)
    else Took (More (λ others. alternative colon tests x.0 others)) (after 1 end)

-- an alternative without tests, whose colon comes next: only the closing brace may follow its X
abbrev pub default : Lists → ListContext → ℕ → Left → Read (Turn Choices)
default lists c at rest = then_read (x_of lists c at no_test rest) (λ x end.
    if x.1 == ascii.closing_brace then Took (Last (alternative rest.at no_test x.0 no_choice)) (after 1 end)
    else Stops end.at (EmptyTest at))

-- an alternative with tests; patterns can't be there (`may_emit`)
abbrev pub later_by : Lists → ListContext → ℕ → Form → Left → Read (Turn Choices)
later_by lists c at (Patterns ps) rest = Stops rest.at (BadDirective at)
later_by lists c at (Alternative tests) rest = then_read (x_of lists c at tests rest) (λ x end. choice_turn rest.at tests x end)

-- alternatives after the first, with the brace that closes them
abbrev pub later : Lists → Lists → ListContext → ℕ → Left → Read Choices
later lists deep c at rest = repeat (λ mid.
    if begins_with ascii.colon (past_white mid).bytes then default lists c at (past_white mid)
    else then_read (form deep c at AtNext mid) (λ f end. later_by lists c at f end)) rest

-- the inside of braces, after what they begin with: patterns, or the first alternative and those after it
abbrev pub choices_by : Lists → Lists → ListContext → ℕ → Form → Left → Read Brace
choices_by lists deep c at (Patterns ps) rest = Took (Emit ps) (after 1 rest)
choices_by lists deep c at (Alternative tests) rest = then_read (x_of lists c at tests rest) (λ x end.
    mapped Choose (then_read (choice_turn rest.at tests x end) (after_turn (later lists deep c at))))

-- the inside of braces, with the brace that closes them
abbrev pub choices : Lists → Lists → ListContext → ℕ → Left → Read Brace
choices lists deep c at rest = then_read (form deep c at AtFront rest) (λ f end. choices_by lists deep c at f end)

-- %{..} after its opening brace, as an item of this kind
abbrev pub braces : Lists → Lists → ListContext → ℕ → BraceKind → Left → Read Item
braces lists deep c at kind rest = mapped (braced kind) (choices lists deep c at rest)

-- %W or %@ with its braces, after its letter: an opening brace must come first
abbrev pub marked_braces : Lists → Lists → ListContext → ℕ → BraceKind → Left → Read Item
marked_braces lists deep c at kind rest = by_byte (first_of rest.bytes) (Ends at) (λ b.
    if b == ascii.opening_brace then braces lists deep c at kind (after 1 rest) else Stops rest.at (BadDirective at))

-- items

-- a directive that holds a list fits only where the text may nest one level more; n is the place of its byte
abbrev pub nested : ℕ → ℕ → ℕ → Read Item → Read Item
nested levels at n inside = if levels == 0 then Stops n (TooNested at) else inside

-- what follows a directive's byte, which has the place n, by what that byte says
abbrev pub directive_by : Lists → Lists → ListContext → ℕ → ℕ → Directive → Left → Read Item
directive_by lists deep c at n Nowhere rest = Stops n (BadDirective at)
directive_by lists deep c at n (Whole leaf) rest = Took (Leaf leaf) rest
directive_by lists deep c at n (Named letter) rest = Took (BuiltinText (text_of letter)) rest
directive_by lists deep c at n (WithSuffix kind) rest = suffix kind rest
directive_by lists deep c at n WithOption rest = option at rest
directive_by lists deep c at n (WithSaying kind) rest = saying c.kind kind rest
directive_by lists deep c at n WithName rest = named at rest
directive_by lists deep c at n WithPattern rest = hide at rest
directive_by lists deep c at n OfStar rest = star at n c.owner rest
directive_by lists deep c at n WithCall rest = nested c.levels at n (call lists c at rest)
directive_by lists deep c at n WithBraces rest = nested c.levels at n (braces lists deep c at InPlace rest)
directive_by lists deep c at n (WithMarkedBraces kind) rest = nested c.levels at n (marked_braces lists deep c at kind rest)

-- what follows the % of an item, which has the place at: a byte that the list allows, and the rest of the directive
abbrev pub directive : Lists → Lists → ListContext → ℕ → Left → Read Item
directive lists deep c at rest = by_byte (first_of rest.bytes) (Ends at) (λ b.
    if is_allowed c.in_arguments b then directive_by lists deep c at rest.at (directive_of b) (after 1 rest)
    else Stops rest.at (BadDirective at))

-- a backslash and the byte after it, which is plain
abbrev pub escape : Left → Read Item
escape rest = by_byte (second_of rest.bytes) (Ends rest.at) (λ b. Took (Escape b) (after 2 rest))

-- a bar, or else a plain byte, which comes next
abbrev pub bar_or_plain : Bool → ℕ → Item
bar_or_plain in_arguments b = if b == ascii.bar then bar_in in_arguments else Plain b

-- an item that begins with the byte b, which comes next
abbrev pub item : Lists → Lists → ListContext → ℕ → Left → Read Item
item lists deep c b rest =
    if b == ascii.backslash then escape rest
    else if b == ascii.percent then directive lists deep c rest.at (after 1 rest)
    else if is_blank b then Took Blank (after 1 rest)
    else if b == ascii.newline then Took (newline_in c.in_arguments) (after 1 rest)
    else Took (bar_or_plain c.in_arguments b) (after 1 rest)

-- whether the byte b ends a list of this kind; a backslash and a % never do
abbrev pub ends_list : Kind → ℕ → Bool
ends_list kind b = if b == ascii.backslash then false else if b == ascii.percent then false else is_end kind b

-- the text's end in a list: a whole text ends with it (0 is then the byte after it), and any other list isn't closed
abbrev pub list_end : Kind → Left → Read (Turn (Items × ℕ))
list_end Top rest = Took (Last (none, 0)) rest
list_end InX rest = Ends rest.at
list_end InArguments rest = Ends rest.at

-- one item of a list, or its end
abbrev pub item_turn : Lists → Lists → ListContext → Left → Read (Turn (Items × ℕ))
item_turn lists deep c rest = by_byte (first_of rest.bytes) (list_end c.kind rest) (λ b.
    if ends_list c.kind b then Took (Last (none, b)) rest
    else then_read (item lists deep c b rest) (λ one end. Took (More (λ list. (more (span rest.at end.at) one list.0, list.1))) end))

-- the items of a list, up to the byte that ends it, which isn't taken
abbrev pub items : Lists → Lists → ListContext → Left → Read (Items × ℕ)
items lists deep c rest = repeat (item_turn lists deep c) rest

-- lists that the last level allowed would hold: none is read, for `nested` refuses what would hold it
abbrev pub no_lists : Lists
no_lists c rest = Ends rest.at

-- lists that may have so many levels of braces and arguments in them, and those of a level less
abbrev pub levels : ℕ → Lists × Lists
levels zero = (λ c rest. items no_lists no_lists c rest, λ c rest. items no_lists no_lists c rest)
levels (suc level) = (λ c rest. items (levels level).0 (levels level).1 c rest, (levels level).0)
