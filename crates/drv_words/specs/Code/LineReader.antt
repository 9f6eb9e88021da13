use Rattle.drv_words.specs.Bytes as byte
use Rattle.drv_words.specs.Printed.{is_bare, is_plain, is_special}
use Rattle.drv_words.specs.declared.plan.PlanLine.{PlanLine}
use Rattle.drv_words.specs.declared.reading_back.Standing.{Standing}
use Rattle.drv_words.specs.declared.reading_back.Standing.TheVariants.{AtWord, Bar, Bare, Between, Escaped, Quoted, Wrong}
use Rattle.drv_words.specs.declared.reading_back.LineReader.{LineReader}
use Rattle.std.specs.Option.{is_none}
use Rattle.std.specs.Prelude.{◌&&◌, ◌==◌, Bool, List, [], ◌∷◌, ◌++◌, None, Option, Some, false, if◌then◌else◌, is_some, true, ℕ}

-- A reader of printed lines, byte by byte. Only private clauses cite it: the grammar `Shows` defines what `read_back` returns.

-- the reader before the first line
abbrev pub start : LineReader
start = record { lines = []; program = None; words = []; word = []; standing = Between }

-- the reader at another place in the line
abbrev pub placed : LineReader → Standing → LineReader
placed reader standing = record reader { standing = standing }

-- one more byte of the word
abbrev pub longer : LineReader → ℕ → Standing → LineReader
longer reader b standing = record reader { word = reader.word ++ b ∷ []; standing = standing }

-- the word has ended: it is the program or one more word
abbrev pub word_added : Option (List ℕ) → LineReader → LineReader
word_added None reader = record reader { program = Some reader.word; word = [] }
word_added (Some program) reader = record reader { words = reader.words ++ reader.word ∷ []; word = [] }

-- the word at hand is complete: it is the program, or one of its words
abbrev pub with_word : LineReader → LineReader
with_word reader = word_added reader.program reader

-- the line has ended, if it has a program
abbrev pub line_added : Option (List ℕ) → LineReader → Bool → LineReader
line_added None reader piped = placed reader Wrong
line_added (Some program) reader piped = record reader {
  lines = reader.lines ++ record { command = record { program = program; words = reader.words }; piped = piped } ∷ [];
  program = None;
  words = [];
  standing = Between;
}

-- the line at hand is complete
abbrev pub with_line : LineReader → Bool → LineReader
with_line reader piped = line_added reader.program reader piped

-- a byte after a word: a blank begins the next, a newline ends the line
abbrev pub between : LineReader → ℕ → LineReader
between reader b = if b == byte.space then placed reader AtWord else if b == byte.newline then with_line reader
    false else placed reader Wrong

-- the first byte of a word, or a quotation mark, or the bar of a pipe
abbrev pub at_word : LineReader → ℕ → LineReader
at_word reader b =
    if is_plain b then longer reader b Bare
    else if b == byte.double_quote then placed reader Quoted
    else if b == byte.bar && is_some reader.program then placed reader Bar
    else placed reader Wrong

-- a byte of a word without quotes
abbrev pub bare : LineReader → ℕ → LineReader
bare reader b = if is_plain b then longer reader b reader.standing else between (with_word reader) b

-- a closing quote, which is an error after a word that needs no quotes
abbrev pub closed : LineReader → LineReader
closed reader = if is_bare reader.word then placed reader Wrong else placed (with_word reader) Between

-- a byte in quotes
abbrev pub inside : LineReader → ℕ → LineReader
inside reader b =
    if b == byte.backslash then placed reader Escaped
    else if b == byte.double_quote then closed reader
    else if b == byte.dollar then placed reader Wrong
    else longer reader b reader.standing

-- a byte after a backslash; only special ones are escaped
abbrev pub escape : LineReader → ℕ → LineReader
escape reader b = if is_special b then longer reader b Quoted else placed reader Wrong

-- after the bar of a pipe the line ends
abbrev pub after_bar : LineReader → ℕ → LineReader
after_bar reader b = if b == byte.newline then with_line reader true else placed reader Wrong

-- one byte is read at this place of a line
abbrev pub step_at : Standing → LineReader → ℕ → LineReader
step_at Between reader b = between reader b
step_at AtWord reader b = at_word reader b
step_at Bare reader b = bare reader b
step_at Quoted reader b = inside reader b
step_at Escaped reader b = escape reader b
step_at Bar reader b = after_bar reader b
step_at Wrong reader b = reader

-- one byte is read
abbrev pub step : LineReader → ℕ → LineReader
step reader b = step_at reader.standing reader b

-- a text is read, byte by byte
abbrev pub read : LineReader → List ℕ → LineReader
read reader [] = reader
read reader (b ∷ text) = read (step reader b) text

-- whether the reader is between words
abbrev pub is_between : Standing → Bool
is_between Between = true
is_between _ = false

-- the lines, if the text ends with a whole line
abbrev pub finished : LineReader → Option (List PlanLine)
finished reader = if is_between reader.standing && is_none reader.program then Some reader.lines else None

-- the lines of a text, if it is one of printed lines
abbrev pub lines_read : List ℕ → Option (List PlanLine)
lines_read text = finished (read start text)
