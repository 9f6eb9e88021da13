use Rattle.drv_search.specs.declared.prefixes.Prefixes.{Prefixes}
use Rattle.drv_specs.specs.Directives as specs
use Rattle.drv_specs.specs.Directives.{read_lines, shown}
use Rattle.drv_specs.specs.Lines.{is_kept, joined_onto, lines_of, settle}
use Rattle.drv_specs.specs.Loading.{file_text}
use Rattle.drv_specs.specs.declared.directive.IfMissing.{IfMissing}
use Rattle.drv_specs.specs.declared.directive.Directive.{Directive}
use Rattle.drv_specs.specs.declared.lines.Lines.{Lines}
use Rattle.drv_specs.specs.declared.fault.SpecsFault.{SpecsFault}
use Rattle.drv_system.specs.Facts.{Facts}
use Rattle.drv_system.specs.Known.{◌>>=◌, Is, Known}
use Rattle.drv_words.specs.Bytes.{newline, number_sign, percent}
use Rattle.std.specs.Option.{option_map}
use Rattle.std.specs.Prelude.{◌≡◌, ◌==◌, Bool, Err, List, [], ◌∷◌, ◌++◌, None, Ok, Option, Result, Some, false, if◌then◌else◌, length, true}
use Rattle.std.specs.Prelude.{ℕ}

-- How the code reads directives: they are slices of a settled text, of which it keeps what is left. For the code alone.
-- Names: `text` is a text, or what is left of it. `b` is one byte. `lines` is the code's lines that are left. `line` is one line, without
-- the blanks at its front. `F` is what is known of the outside. `prefixes` is where files are searched for. `missing` says what is done if
-- the file isn't there. `settle` joins lines that a backslash continues, and drops carriage returns.

-- what follows a line, where its newline is there: the lines, and the bytes
abbrev pub lines_from : Option (List ℕ) → List (List ℕ)
lines_from None = []
lines_from (Some text) = lines_of text

-- what is left, with the newline before it; nothing after the last line
abbrev pub bytes_from : Option (List ℕ) → List ℕ
bytes_from None = []
bytes_from (Some text) = newline ∷ text

-- a text and the end of a line after it
abbrev pub settled_onto : List ℕ → ℕ → List ℕ
settled_onto text b = if is_kept b then joined_onto text b else text

-- a text at the end of another
abbrev pub Ends : List ℕ → List ℕ → Type 0
Ends text back = (front : List ℕ) × (text ≡ front ++ back)

-- the text that is left, if a line is left
abbrev pub text_left : Lines → Option (List ℕ)
text_left lines = option_map (λ text. text.now) lines.text

-- the lines that are left
abbrev pub lines_left : Lines → List (List ℕ)
lines_left lines = lines_from (text_left lines)

-- how many bytes are left
abbrev pub size_left : Lines → ℕ
size_left lines = length (bytes_from (text_left lines))

-- the directives of the lines that are left
abbrev pub directives_left : Lines → List specs.Directive
directives_left lines = read_lines false lines.number (lines_left lines)

-- a line without the blanks at its front that begins nothing, or a directive of one line
abbrev pub is_passed : List ℕ → Bool
is_passed [] = true
is_passed (b ∷ line) = b == number_sign

-- whether a line begins with %
abbrev pub is_keyword : List ℕ → Bool
is_keyword [] = false
is_keyword (b ∷ line) = b == percent

-- a directive that was found, if there is one
abbrev pub found : Option Directive → List specs.Directive
found None = []
found (Some directive) = shown directive ∷ []

-- what is left of some text
abbrev pub IsSettled : List ℕ → Type 0
IsSettled left = (text : List ℕ) × (left ≡ settle text)

-- what is left of a file's text
abbrev pub read_left : Result (List ℕ) SpecsFault → Result (List ℕ) SpecsFault
read_left (Ok text) = Ok (settle text)
read_left (Err fault) = Err fault

-- the settled text of a file, as the code keeps it
abbrev pub settled_file : Facts → Prefixes → IfMissing → List ℕ → Known (Result (List ℕ) SpecsFault)
settled_file F prefixes missing name = file_text F prefixes missing name >>= λ given. Is (read_left given)
