use Rattle.drv_words.specs.Bytes as ascii
use Rattle.drv_syntax.specs.Bytes.{is_white}
use Rattle.drv_syntax.specs.Rest.{Left, after, begins_with, by_byte, first_of, past_white}
use Rattle.drv_syntax.specs.Code.Tokens.{open_token}
use Rattle.drv_syntax.specs.Code.Writing.{Parts, Reading, at_rest, given, leaf_until, leafed, open_at, spelled, wrote}
use Rattle.drv_syntax.specs.Descent as d
use Rattle.drv_syntax.specs.Descent.{Ends, Form, Read, Stops, Took, Tried}
use Rattle.drv_syntax.specs.Labels.{Label, asked_nodes, no_label, no_node, node, part_label, pattern_label, test_label, word_label}
use Rattle.drv_syntax.specs.Refusals as refusals
use Rattle.drv_syntax.specs.Spelling.{span}
use Rattle.drv_syntax.specs.Stars.{asked_has_star}
use Rattle.drv_syntax.specs.Tree.{Asked, HasLanguage, HasResult, HasSuffix, HasSwitch, Pattern, Span, Tests, first_place, no_test, pattern}
use Rattle.drv_syntax.specs.Tree.{test}
use Rattle.drv_syntax.specs.declared.descent.lists.Form as code
use Rattle.drv_syntax.specs.declared.descent.lists.Form.TheVariants as forms
use Rattle.drv_syntax.specs.declared.descent.parts.Choice.{Choice}
use Rattle.drv_syntax.specs.declared.descent.tests.Asked as asked_code
use Rattle.drv_syntax.specs.declared.descent.tests.Asked.TheVariants as asking
use Rattle.drv_syntax.specs.declared.descent.tests.Begun.{Begun}
use Rattle.drv_syntax.specs.declared.descent.tests.MarkForm.TheVariants as marks
use Rattle.drv_syntax.specs.declared.descent.tests.MarkForm.{MarkForm}
use Rattle.drv_syntax.specs.declared.descent.tests.Next.{Next}
use Rattle.drv_syntax.specs.declared.descent.tests.Next.TheVariants as nexts
use Rattle.drv_syntax.specs.declared.descent.tests.Opening.TheVariants as openings
use Rattle.drv_syntax.specs.declared.descent.tests.Opening.{Opening}
use Rattle.drv_syntax.specs.declared.descent.tests.Operand.{Operand}
use Rattle.drv_syntax.specs.declared.descent.tests.Order.{Order}
use Rattle.drv_syntax.specs.declared.descent.tests.Order.TheVariants as orders
use Rattle.drv_syntax.specs.declared.fault.SyntaxFault.TheVariants.{BadDirective, EmptyTest, Unclosed}
use Rattle.drv_syntax.specs.declared.fault.SyntaxFault.{SyntaxFault}
use Rattle.drv_syntax.specs.declared.token.TestKind.TheVariants as kinds_of_tests
use Rattle.drv_syntax.specs.declared.labels.Naming.{Naming}
use Rattle.drv_syntax.specs.declared.token.TokenKind.TheVariants as kinds
use Rattle.drv_syntax.specs.declared.token.TokenKind.{TokenKind}
use Rattle.std.specs.Prelude.{◌==◌, ◌&&◌, ◌++◌, Bool, false, true, if◌then◌else◌, List, [], ◌∷◌, Err, None, Ok, Option, Result, Some}
use Rattle.std.specs.Prelude.{length, ℕ}

-- What the code writes of the tests and the patterns of braces: for the clauses of src/descent/tests.rt, src/descent/patterns.rt and
-- src/descent/parts.rt, and no law cites it. A change here needs the same change there.
-- Names: NAME_given is what a function gives, with its value and what was read after it, or its fault. NAME_seen is a type of the code as
-- Descent or Refusals has it. `emits`: the braces may still be patterns. `so_far`: the alternative that is open. `outer` is the place of
-- the outermost directive that is open, `at` that of the innermost, `z` the parts so far, and `v` those parts and the text that is left.
-- `at_rest rest v` is the reading v with this rest. `after n rest` is what is left n bytes on.

-- writes the patterns of braces, one after another
abbrev pub patterns_written : List (Span × Pattern) → Parts → Parts
patterns_written [] z = z
patterns_written (p ∷ ps) z = patterns_written ps (leafed kinds.Pattern (pattern_label p.1) p.0.start p.0.end z)

-- writes patterns that were read, and takes the brace that closes them
abbrev pub patterns_on : Parts → List (Span × Pattern) → Left → Reading
patterns_on z ps rest = record { rest = after 1 rest; parts = patterns_written ps z }

-- writes patterns that were read, with the brace that closes them, or gives their fault
abbrev pub patterns_given : Option ℕ → Reading → Read (List (Span × Pattern)) → Result Reading SyntaxFault
patterns_given outer v read = given outer (patterns_on v.parts) read

-- where the tests of an alternative are in their braces, as Refusals has it
abbrev pub opening_seen : Opening → refusals.Order
opening_seen openings.AtFront = refusals.AtFront
opening_seen openings.AtNext = refusals.AtNext

-- the place of a test in its braces, as Refusals has it
abbrev pub order_seen : Order → refusals.Order
order_seen (orders.First opening) = opening_seen opening
order_seen (orders.AtBar choice) = refusals.AtBar

-- the alternative that is open at a test in this place, if one is
abbrev pub alternative_of : Order → Option Choice
alternative_of (orders.First opening) = None
alternative_of (orders.AtBar choice) = Some choice

-- what was read of a test, with this word
abbrev pub operand_of : asked_code.Asked → List ℕ → d.Operand
operand_of (asking.Switch starred) word = d.switch_operand (pattern word starred)
operand_of (asking.Marked mark) word = d.marked_operand mark word
operand_of (asking.StarredMark mark) word = d.starred_operand mark word
operand_of (asking.Bare mark) word = d.bare_operand mark

-- what was read of a test, as Descent has it; copied is the last word with escapes
abbrev pub operand_seen : Operand → List ℕ → d.Operand
operand_seen o copied = operand_of o.asked (spelled o.word copied)

-- at the byte b after a mark alone: a pattern of one byte, where b may follow a pattern
abbrev pub bare_form : ℕ → ℕ → Result MarkForm SyntaxFault
bare_form at b =
    if b == ascii.closing_brace then Ok marks.Bare
    else if b == ascii.ampersand then Ok marks.Bare
    else if is_white b then Ok marks.Bare
    else Err (EmptyTest at)

-- what comes after a mark, by the byte after the word there; `none` says that the word has no bytes
abbrev pub mark_form : Option ℕ → ℕ → Bool → Bool → Option ℕ → Result MarkForm SyntaxFault
mark_form outer at emits true None = Err (Unclosed (open_at outer at))
mark_form outer at emits false None = Ok marks.Word
mark_form outer at emits none (Some b) =
    if b == ascii.asterisk then (if emits then Ok marks.Star else if none then Err (EmptyTest at) else Err (BadDirective at))
    else if none then (if emits then bare_form at b else Err (EmptyTest at))
    else Ok marks.Word

-- what a test with this mark asks, by what follows the mark
abbrev pub marked_as : MarkForm → ℕ → asked_code.Asked
marked_as marks.Word mark = asking.Marked mark
marked_as marks.Star mark = asking.StarredMark mark
marked_as marks.Bare mark = asking.Bare mark

-- the label of what was read, where it counts as a pattern of braces
abbrev pub emitted_label : asked_code.Asked → List ℕ → Label
emitted_label (asking.Switch starred) word = part_label word starred false kinds_of_tests.Switch
emitted_label (asking.Marked mark) word = part_label (mark ∷ word) false false kinds_of_tests.Switch
emitted_label (asking.StarredMark mark) word = part_label (mark ∷ word) true false kinds_of_tests.Switch
emitted_label (asking.Bare mark) word = word_label (mark ∷ [])

-- what is said of a test with this mark (never a star): it asks for a suffix, or for a language
abbrev pub mark_naming : ℕ → Bool → Naming
mark_naming mark negated =
    record { starred = false; negated = negated; asks = if mark == ascii.period then kinds_of_tests.Suffix else kinds_of_tests.Language }

-- what the label of a test says of its word
abbrev pub naming_of : asked_code.Asked → Bool → Naming
naming_of (asking.Switch starred) negated = record { starred = starred; negated = negated; asks = kinds_of_tests.Switch }
naming_of (asking.Marked mark) negated = mark_naming mark negated
naming_of (asking.StarredMark mark) negated = mark_naming mark negated
naming_of (asking.Bare mark) negated = mark_naming mark negated

-- what was read, where it counts as a test
abbrev pub test_of : asked_code.Asked → List ℕ → Asked
test_of (asking.Switch starred) word = HasSwitch (pattern word starred)
test_of (asking.Marked mark) word = d.marked mark word
test_of (asking.StarredMark mark) word = d.marked mark word
test_of (asking.Bare mark) word = d.marked mark word

-- alternatives that are open

-- opens a part from this place on, with its label
abbrev pub opened : TokenKind → Label → ℕ → Parts → Parts
opened kind label start z = record { tokens = z.tokens ++ open_token kind start ∷ []; labels = z.labels ++ label ∷ []; holds = z.holds }

-- the alternative that is open, or one that opens here with its first test
abbrev pub choice_open : Option Choice → ℕ → Parts → Choice × Parts
choice_open (Some choice) start z = (choice, z)
choice_open None start z = (
  record { part = record { token = length z.tokens; start = start }; label = length z.labels; starred = true },
  opened kinds.Alternative no_label start z,
)

-- the test is a starred pattern without a !
abbrev pub is_starred : Bool → Asked → Bool
is_starred false (HasSwitch (pattern word starred)) = starred
is_starred false (HasSuffix word) = false
is_starred false (HasLanguage word) = false
is_starred false (HasResult name arguments) = false
is_starred true a = false

-- writes a test with all that is inside it
abbrev pub test_written : Span → Bool → Asked → Parts → Parts
test_written s negated a z = wrote (node kinds.Test (test_label negated a) s (asked_nodes a) no_node) (asked_has_star a) z

-- one test more in the alternative: it goes on to be starred as long as all its tests are
abbrev pub test_added : Choice × Parts → Span → Bool → Asked → Choice × Parts
test_added z s negated a =
    (record { part = z.0.part; label = z.0.label; starred = z.0.starred && is_starred negated a }, test_written s negated a z.1)

-- one test in the alternative so far, or in one that begins with it
abbrev pub added : Option Choice → Parts → Span → Bool → Asked → Choice × Parts
added so_far z s negated a = test_added (choice_open so_far s.start z) s negated a

-- the alternative, with the text that is left
abbrev pub choice_here : Choice × Parts → Left → Choice × Reading
choice_here z rest = (z.0, record { rest = rest; parts = z.1 })

-- one test in the alternative so far, or in one that begins with it; no byte more of the text is taken
abbrev pub asked_on : Option Choice → Reading → Span → Bool → Asked → Choice × Reading
asked_on so_far v s negated a = choice_here (added so_far v.parts s negated a) v.rest

-- more tests in the alternative, one after another
abbrev pub tests_on : Choice × Parts → Tests → Choice × Parts
tests_on z no_test = z
tests_on z (test s negated a tests) = tests_on (test_added z s negated a) tests

-- writes what was read as a pattern, if the braces may be patterns
abbrev pub pattern_ends : ℕ → Bool → Label → ℕ → ℕ → Reading → Result Reading SyntaxFault
pattern_ends at emits label start end v = if emits then Ok (leaf_until kinds.Pattern label start end v) else Err (BadDirective at)

-- writes what was read as a test, if it can be one
abbrev pub test_ends : ℕ → Option Choice → ℕ → ℕ → Bool → asked_code.Asked → List ℕ → Reading → Result (Choice × Reading) SyntaxFault
test_ends at so_far start end negated (asking.Switch starred) word v =
    Ok (asked_on so_far v (span start end) negated (HasSwitch (pattern word starred)))
test_ends at so_far start end negated (asking.Marked mark) word v = Ok (asked_on so_far v (span start end) negated (d.marked mark word))
test_ends at so_far start end negated (asking.StarredMark mark) word v = Err (BadDirective at)
test_ends at so_far start end negated (asking.Bare mark) word v = Err (EmptyTest at)

-- a test and the byte after it, as Descent has them
abbrev pub tried_seen : ℕ → ℕ → Bool → d.Operand → ℕ → Tried
tried_seen start end negated operand b = record { place = span start end; negated = negated; operand = operand; byte = b }

-- what a test and the byte after it make of the braces, with that byte
abbrev pub after_given : Option Choice → Reading → d.After → Result (Next × Reading) SyntaxFault
after_given so_far v (d.Emits p) = Ok (nexts.Emits, patterns_on v.parts (p ∷ []) v.rest)
after_given so_far v (d.Joins p) = Ok (nexts.Joins, patterns_on v.parts (p ∷ []) v.rest)
after_given so_far v (d.Asks s negated a) =
    Ok (nexts.Asks (added so_far v.parts s negated a).0, (choice_here (added so_far v.parts s negated a) (after 1 v.rest)).1)
after_given so_far v (d.Bars s negated a) =
    Ok (nexts.Bars (added so_far v.parts s negated a).0, (choice_here (added so_far v.parts s negated a) (after 1 v.rest)).1)
after_given so_far v (d.Fails fault) = Err fault

-- a test that was read and what the byte after it makes of it, or its fault
abbrev pub tried_given : Option ℕ → ℕ → refusals.Order → Option Choice → Reading → Read Tried → Result (Next × Reading) SyntaxFault
tried_given outer at order so_far v (Took t rest) = after_given so_far (at_rest rest v) (d.decided at order t)
tried_given outer at order so_far v (Ends n) = Err (Unclosed (open_at outer n))
tried_given outer at order so_far v (Stops n fault) = Err fault

-- the byte after a test of a function's result, which is in its alternative
abbrev pub result_after : ℕ → Choice → ℕ → Result Next SyntaxFault
result_after at choice b =
    if b == ascii.colon then Ok (nexts.Asks choice) else if b == ascii.bar then Ok (nexts.Bars choice) else Err (BadDirective at)

-- after a sign: the byte that a test's word begins with, and where the test began
abbrev pub first_given : Option ℕ → ℕ → ℕ → Bool → Reading → Result (Begun × Reading) SyntaxFault
first_given outer at start negated v = by_byte (first_of v.rest.bytes) (Err (Unclosed (open_at outer at))) (λ b.
    Ok (record { start = start; negated = negated; byte = b }, v))

-- the ! of a test and white space, or neither, and the byte that its word begins with
abbrev pub sign_given : Option ℕ → ℕ → Reading → Result (Begun × Reading) SyntaxFault
sign_given outer at v =
    if begins_with ascii.exclamation_mark v.rest.bytes then first_given outer at v.rest.at true (at_rest (past_white (after 1 v.rest)) v)
    else first_given outer at v.rest.at false v

-- all white space before a test, its sign, and the byte that its word begins with
abbrev pub begun_given : Option ℕ → ℕ → Reading → Result (Begun × Reading) SyntaxFault
begun_given outer at v = sign_given outer at (at_rest (past_white v.rest) v)

-- opens the alternative that these tests begin, with its colon at this place, and writes them
abbrev pub alternative_on : Parts → Tests → ℕ → Choice × Parts
alternative_on z tests colon = tests_on (choice_open None (first_place tests colon) z) tests

-- what braces or an alternative begin with, and the byte after it
abbrev pub form_on : Parts → Form → Left → code.Form × Reading
form_on z (d.Patterns ps) rest = (forms.Patterns, patterns_on z ps rest)
form_on z (d.Alternative tests) rest =
    (forms.Tests (alternative_on z tests rest.at).0, (choice_here (alternative_on z tests rest.at) (after 1 rest)).1)

-- writes what braces or an alternative begin with, as it was read, or gives its fault
abbrev pub form_given : Option ℕ → Reading → Read Form → Result (code.Form × Reading) SyntaxFault
form_given outer v read = given outer (form_on v.parts) read

-- writes more tests of this alternative that were read, or gives their fault
abbrev pub more_given : Option ℕ → Choice → Reading → Read Tests → Result (Choice × Reading) SyntaxFault
more_given outer choice v read = given outer (λ tests rest. choice_here (tests_on (choice, v.parts) tests) (after 1 rest)) read
