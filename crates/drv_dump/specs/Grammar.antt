use Rattle.drv_dump.specs.declared.fault.Misfit.TheVariants.{BadFunction, BadTest, BareBrace, EscapedMark, TooNested, UnknownDirective}
use Rattle.drv_dump.specs.declared.piece.Kind.TheVariants as kind
use Rattle.drv_dump.specs.declared.piece.Kind.{Kind}
use Rattle.drv_dump.specs.declared.turn.InPiece.TheVariants.{First, Later}
use Rattle.drv_dump.specs.declared.turn.InPiece.{InPiece}
use Rattle.drv_dump.specs.declared.turn.Place.TheVariants as place
use Rattle.drv_dump.specs.declared.turn.Place.{Place}
use Rattle.drv_dump.specs.declared.turn.Side.TheVariants.{AmongTests, InText, Negated}
use Rattle.drv_dump.specs.declared.turn.Side.{Side}
use Rattle.drv_dump.specs.declared.turn.Turn.TheVariants.{Reads, Refused}
use Rattle.drv_dump.specs.declared.turn.Turn.{Turn}
use Rattle.drv_words.specs.Bytes as byte
use Rattle.std.specs.Char.{is_ascii_alphanumeric}
use Rattle.std.specs.List.{list_any}
use Rattle.std.specs.Prelude.{◌&&◌, ◌||◌, ◌==◌, ◌+◌, ◌-◌, Bool, List, [], ◌∷◌, codes, false, if◌then◌else◌, nat_eq, nat_lt, ℕ}

-- The pieces of gcc's spec texts, byte by byte (GCC manual, "Spec Files"; do_spec_1, handle_braces, process_brace_body and
-- handle_spec_function of gcc.cc). What gcc reads in two ways, or only by chance, is refused.
-- For clauses of src/reading.rt.

-- the byte is one of these
abbrev pub is_of : List ℕ → ℕ → Bool
is_of bytes b = list_any (nat_eq b) bytes

-- the letters that make a directive whole
abbrev pub is_whole_directive : ℕ → Bool
is_whole_directive b = is_of (codes "%12aAbBcCdDEgGiIjlLmMoOpPRsSTuUvVwXYZ.<>|*\"") b

-- in the name of a function
abbrev pub is_function_byte : ℕ → Bool
is_function_byte b = is_ascii_alphanumeric b || is_of (codes "-_") b

-- in a test
abbrev pub is_test_byte : ℕ → Bool
is_test_byte b = is_ascii_alphanumeric b || is_of (codes "_-+=,.@") b

-- beside a test, or between words
abbrev pub is_white : ℕ → Bool
is_white b = is_of (byte.space ∷ byte.tab ∷ byte.newline ∷ []) b

-- ends a part of braces, or what is in it, even after a backslash
abbrev pub is_mark : ℕ → Bool
is_mark b = is_of (codes "{};") b

-- the most braces within one another, and the most parentheses of a function
abbrev pub most_levels : ℕ
most_levels = 64

-- a byte is read as part of a kind of piece, and this is what may follow
abbrev pub reads : InPiece → Kind → Place → ℕ → Turn
reads in_piece piece after depth = Reads in_piece piece after depth

-- the brace that opens, and the one that closes
abbrev pub opens : ℕ → Turn
opens depth = if nat_lt depth most_levels then reads Later kind.Opening place.BeforeTest (depth + 1) else Refused TooNested

-- the brace that closes; outside of braces there is none to close
abbrev pub closes : ℕ → Turn
closes depth = if depth == 0 then Refused BareBrace else reads First kind.Closing place.Ready (depth - 1)

-- in a text: a piece of text goes on, if there is one
abbrev pub text_turn : InPiece → ℕ → ℕ → Turn
text_turn in_piece depth b =
    if b == byte.percent then reads First kind.Directive place.Percent depth
    else if b == byte.backslash then reads in_piece kind.Text place.Escape depth
    else if b == byte.opening_brace then Refused BareBrace
    else if b == byte.closing_brace then closes depth
    else if b == byte.semicolon && nat_lt 0 depth then reads First kind.Otherwise place.BeforeChoice depth
    else reads in_piece kind.Text place.Text depth

-- after a backslash
abbrev pub escape_turn : ℕ → ℕ → Turn
escape_turn depth b = if nat_lt 0 depth && is_mark b then Refused EscapedMark else reads Later kind.Text place.Text depth

-- after %
abbrev pub percent_turn : ℕ → ℕ → Turn
percent_turn depth b =
    if b == byte.opening_brace then opens depth
    else if is_of (codes "W@") b then reads Later kind.Opening place.WantsBrace depth
    else if b == byte.opening_parenthesis then reads Later kind.NamedText place.NamedText depth
    else if b == byte.colon then reads Later kind.Call (place.Function InText) depth
    else if is_of (codes "x") b then reads Later kind.LinkerOption place.WantsOption depth
    else if is_of (codes "en") b then reads Later kind.Message place.Message depth
    else if is_whole_directive b then reads Later kind.Directive place.Ready depth
    else Refused UnknownDirective

-- a message goes to the end of its line, or of the alternative that it is in
abbrev pub message_turn : ℕ → ℕ → Turn
message_turn depth b =
    if b == byte.newline || nat_lt 0 depth && is_mark b then text_turn First depth b else reads Later kind.Message place.Message depth

-- a piece up to this byte
abbrev pub closed_turn : Kind → Place → ℕ → ℕ → ℕ → Turn
closed_turn piece here end depth b = if b == end then reads Later piece place.Ready depth else reads Later piece here depth

-- the brace of %W{ or %@{, and of %x{
abbrev pub brace_turn : ℕ → ℕ → Turn
brace_turn depth b = if b == byte.opening_brace then opens depth else Refused UnknownDirective

-- after %x only a brace may follow
abbrev pub option_turn : ℕ → ℕ → Turn
option_turn depth b = if b == byte.opening_brace then reads Later kind.LinkerOption place.Option depth else Refused UnknownDirective

-- what a function is
abbrev pub call_kind : Side → Kind
call_kind InText = kind.Call
call_kind AmongTests = kind.TestCall
call_kind Negated = kind.NegatedCall

-- the name of a function; its arguments go to the parenthesis that closes the first one
abbrev pub function_turn : Side → ℕ → ℕ → Turn
function_turn side depth b =
    if b == byte.opening_parenthesis then reads Later (call_kind side) (place.Arguments side 0) depth
    else if is_function_byte b then reads Later (call_kind side) (place.Function side) depth
    else Refused BadFunction

-- what follows a function, by where it is called: text, or the end of a test
abbrev pub after_call : Side → Place
after_call InText = place.Ready
after_call AmongTests = place.AfterTest
after_call Negated = place.AfterTest

-- inside a function's parentheses: `inside` of them are open within the first
abbrev pub argument_turn : Side → ℕ → ℕ → ℕ → Turn
argument_turn side inside depth b =
    if b == byte.opening_parenthesis
    then (if nat_lt inside most_levels then reads Later (call_kind side) (place.Arguments side (inside + 1)) depth else Refused TooNested)
    else if b == byte.closing_parenthesis
    then reads Later (call_kind side) (if inside == 0 then after_call side else place.Arguments side (inside - 1)) depth
    else reads Later (call_kind side) (place.Arguments side inside) depth

-- after a test: another one, what the alternative gives, or the end of the braces
abbrev pub after_test_turn : ℕ → ℕ → Turn
after_test_turn depth b =
    if is_white b then reads First kind.Blank place.AfterTest depth
    else if b == byte.bar then reads First kind.Either place.BeforeTest depth
    else if b == byte.ampersand then reads First kind.Both place.BeforeTest depth
    else if b == byte.colon then reads First kind.Then place.Ready depth
    else if b == byte.closing_brace then closes depth
    else Refused BadTest

-- in a test, which a star ends
abbrev pub inner_test_turn : ℕ → ℕ → Turn
inner_test_turn depth b =
    if is_test_byte b then reads Later kind.Test place.Test depth
    else if b == byte.asterisk then reads Later kind.Test place.AfterTest depth
    else after_test_turn depth b

-- where a test begins; after the ! of a test, and before it
abbrev pub asked_turn : Side → ℕ → ℕ → Turn
asked_turn side depth b =
    if b == byte.percent then reads First (call_kind side) (place.TestPercent side) depth
    else if is_test_byte b then reads First kind.Test place.Test depth
    else Refused BadTest

-- after the ! of a test
abbrev pub negated_turn : ℕ → ℕ → Turn
negated_turn depth b = if is_white b then reads First kind.Blank place.Negated depth else asked_turn Negated depth b

-- where a test begins, perhaps with a !
abbrev pub turn_before_test : ℕ → ℕ → Turn
turn_before_test depth b =
    if is_white b then reads First kind.Blank place.BeforeTest depth
    else if b == byte.exclamation_mark then reads First kind.Negation place.Negated depth
    else asked_turn AmongTests depth b

-- before the tests of another alternative; the last one may have none
abbrev pub choice_turn : ℕ → ℕ → Turn
choice_turn depth b =
    if is_white b then reads First kind.Blank place.BeforeChoice depth
    else if b == byte.colon then reads First kind.Then place.Ready depth
    else turn_before_test depth b

-- after the % of a test, which is a function
abbrev pub percent_test_turn : Side → ℕ → ℕ → Turn
percent_test_turn side depth b = if b == byte.colon then reads Later (call_kind side) (place.Function side) depth else Refused BadTest

-- what a byte is at a place, inside so many braces
abbrev pub turn : Place → ℕ → ℕ → Turn
turn place.Ready depth b = text_turn First depth b
turn place.Text depth b = text_turn Later depth b
turn place.Escape depth b = escape_turn depth b
turn place.Percent depth b = percent_turn depth b
turn place.Message depth b = message_turn depth b
turn place.NamedText depth b = closed_turn kind.NamedText place.NamedText byte.closing_parenthesis depth b
turn place.Option depth b = closed_turn kind.LinkerOption place.Option byte.closing_brace depth b
turn place.WantsBrace depth b = brace_turn depth b
turn place.WantsOption depth b = option_turn depth b
turn (place.Function side) depth b = function_turn side depth b
turn (place.Arguments side inside) depth b = argument_turn side inside depth b
turn place.BeforeTest depth b = turn_before_test depth b
turn place.BeforeChoice depth b = choice_turn depth b
turn place.Negated depth b = negated_turn depth b
turn (place.TestPercent side) depth b = percent_test_turn side depth b
turn place.Test depth b = inner_test_turn depth b
turn place.AfterTest depth b = after_test_turn depth b

-- a text can end here
abbrev pub is_whole : Place → ℕ → Bool
is_whole place.Ready depth = depth == 0
is_whole place.Text depth = depth == 0
is_whole place.Message depth = depth == 0
is_whole place.Escape depth = false
is_whole place.Percent depth = false
is_whole place.NamedText depth = false
is_whole place.Option depth = false
is_whole place.WantsBrace depth = false
is_whole place.WantsOption depth = false
is_whole (place.Function side) depth = false
is_whole (place.Arguments side inside) depth = false
is_whole place.BeforeTest depth = false
is_whole place.BeforeChoice depth = false
is_whole place.Negated depth = false
is_whole (place.TestPercent side) depth = false
is_whole place.Test depth = false
is_whole place.AfterTest depth = false
