use Rattle.drv_check.specs.declared.pieces.LineKind.TheVariants as kind
use Rattle.drv_check.specs.declared.pieces.LineKind.{LineKind}
use Rattle.drv_check.specs.declared.pieces.Piece.{Piece}
use Rattle.drv_specs.specs.Blanks.{is_blank}
use Rattle.drv_specs.specs.Directives.{Alone, Passed, Start, WithBody, is_colon, start_of}
use Rattle.drv_specs.specs.Lines.{is_empty_line, lines_of, without_front, words_of}
use Rattle.drv_specs.specs.Sets.{is_name}
use Rattle.drv_words.specs.Bytes.{asterisk, at_sign, newline, period}
use Rattle.std.specs.Cmp.Lexicographic.{pointwise}
use Rattle.std.specs.List.{position}
use Rattle.std.specs.Prelude.{◌+◌, ◌==◌, ◌&&◌, ◌||◌, Bool, List, [], ◌∷◌, ◌++◌, None, Option, Some, false, if◌then◌else◌}
use Rattle.std.specs.Prelude.{codes, is_some, length, nat_eq, not, take, true, ℕ}

-- The pieces of a settled text that are directives (GCC manual, "Spec Files"): the line of one that begins with %, and the line of a name
-- or key with the lines of its body. Below a line that is no directive a check reads on at the next one that is (this project's profile).
-- For clauses of src/pieces.rt, and laws of src/laws.rt.

-- what a line begins that is in no body
abbrev pub kind_of : Start → LineKind
kind_of Passed = kind.Passed
kind_of (Alone directive) = kind.Alone
kind_of (WithBody directive) = kind.Opens

-- what a line begins that is in no body: nothing, a directive of one line, or one with a body
abbrev pub line_kind : List ℕ → LineKind
line_kind line = kind_of (start_of 1 (without_front is_blank line) [])

-- a line with its number, which begins at this place
abbrev pub piece_of : ℕ → ℕ → List ℕ → Piece
piece_of n at line = record { number = n; start = at; text = line }

-- a piece with one more line
abbrev pub longer : Piece → List ℕ → Piece
longer piece line = record piece { text = piece.text ++ newline ∷ line }

-- the piece of a line that is a whole directive
abbrev pub alone : LineKind → Piece → List Piece
alone kind.Passed piece = []
alone kind.Alone piece = piece ∷ []
alone kind.Opens piece = []

-- the piece of a line that begins a directive with a body
abbrev pub opened : LineKind → Piece → Option Piece
opened kind.Passed piece = None
opened kind.Alone piece = None
opened kind.Opens piece = Some piece

-- the piece of a line in no body that is a whole directive
abbrev pub alone_at : ℕ → ℕ → List ℕ → List Piece
alone_at n at line = alone (line_kind line) (piece_of n at line)

-- the piece of a line in no body that goes on after it
abbrev pub opened_by : ℕ → ℕ → List ℕ → Option Piece
opened_by n at line = opened (line_kind line) (piece_of n at line)

-- whether a line has no colon, so that it begins no directive with a body
abbrev pub lacks_colon : List ℕ → Bool
lacks_colon line = not (is_some (position is_colon (without_front is_blank line)))

-- whether the first of lines has none
abbrev pub first_lacks_colon : List (List ℕ) → Bool
first_lacks_colon [] = false
first_lacks_colon (line ∷ lines) = lacks_colon line

-- whether what precedes a colon is a name that a directive may have
abbrev pub name_precedes : Option ℕ → List ℕ → Bool
name_precedes None line = false
name_precedes (Some at) line = is_name (take at line)

-- whether a line's first word is that of a directive of %
abbrev pub is_keyword : List (List ℕ) → Bool
is_keyword [] = false
is_keyword (word ∷ words) =
    pointwise nat_eq word (codes "%rename") || pointwise nat_eq word (codes "%include") || pointwise nat_eq word (codes "%include_noerr")

-- whether a byte begins the head of a directive with a body: *NAME:, .SUFFIX: or @LANGUAGE:
abbrev pub is_head_byte : ℕ → Bool
is_head_byte b = b == asterisk || b == period || b == at_sign

-- whether a line begins with such a head
abbrev pub begins_head : List ℕ → Bool
begins_head [] = false
begins_head (b ∷ line) = is_head_byte b && name_precedes (position is_colon line) line

-- whether reading goes on at a line below one that is no directive: it begins a directive
abbrev pub goes_on_at : List ℕ → Bool
goes_on_at line = begins_head (without_front is_blank line) || is_keyword (words_of line)

-- whether a line ends the piece above it, as that is no directive
abbrev pub is_cut : Piece → List ℕ → Bool
is_cut piece line = goes_on_at line && first_lacks_colon (lines_of piece.text)

-- The first argument says whether reading recovers from a line that is no directive: then what is below it ends where a directive begins.

-- the pieces that end with a line or before it, and the one that goes on after it
abbrev pub ended_by : Bool → Option Piece → ℕ → ℕ → List ℕ → List Piece
ended_by recovers None n at line = alone_at n at line
ended_by recovers (Some piece) n at line =
    if is_empty_line line then piece ∷ []
    else if recovers && is_cut piece line then piece ∷ alone_at n at line else []

-- the piece that goes on after a line: an empty line ends it
abbrev pub begun_after : Bool → Option Piece → ℕ → ℕ → List ℕ → Option Piece
begun_after recovers None n at line = opened_by n at line
begun_after recovers (Some piece) n at line =
    if is_empty_line line then None
    else if recovers && is_cut piece line then opened_by n at line else Some (longer piece line)

-- the piece that the end of the file ends, if one goes on
abbrev pub last_piece : Option Piece → List Piece
last_piece None = []
last_piece (Some piece) = piece ∷ []

-- the pieces of lines, the first of which has this number and begins at this place
abbrev pub pieces_from : Bool → Option Piece → ℕ → ℕ → List (List ℕ) → List Piece
pieces_from recovers begun n at [] = last_piece begun
pieces_from recovers begun n at (line ∷ lines) =
    ended_by recovers begun n at line ++ pieces_from recovers (begun_after recovers begun n at line) (n + 1) (at + length line + 1) lines

-- the pieces of a text, each with its number and its place, where reading recovers or not
abbrev pub pieces_cut : Bool → List ℕ → List Piece
pieces_cut recovers text = pieces_from recovers None 1 0 (lines_of text)

-- the pieces of a file's text, as the driver reads it
abbrev pub pieces_of : List ℕ → List Piece
pieces_of text = pieces_cut false text

-- the pieces of a file's text that are checked: also those below a line that is no directive, at which the driver ends
abbrev pub checked_pieces : List ℕ → List Piece
checked_pieces text = pieces_cut true text
