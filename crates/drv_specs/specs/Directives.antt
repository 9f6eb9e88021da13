use Rattle.drv_specs.specs.Blanks.{has_byte, is_blank}
use Rattle.drv_words.specs.Bytes.{colon, greater_than, number_sign, less_than, newline, percent, asterisk}
use Rattle.drv_specs.specs.Lines.{is_empty_line, lines_of, settle, trim, without_front, words_of}
use Rattle.drv_specs.specs.declared.directive.Directive as code
use Rattle.drv_specs.specs.declared.directive.Directive.TheVariants as lent
use Rattle.drv_specs.specs.declared.directive.IfMissing.{IfMissing}
use Rattle.drv_specs.specs.declared.directive.IfMissing.TheVariants.{PassOver, Refuse}
use Rattle.std.specs.Cmp.Lexicographic.{pointwise}
use Rattle.std.specs.List.{ends_with, join_with_byte, position}
use Rattle.std.specs.Prelude.{◌+◌, ◌-◌, ◌==◌, ◌&&◌, Bool, List, [], ◌∷◌, ◌++◌, None, Option, Some, codes, drop, false, filter}
use Rattle.std.specs.Prelude.{if◌then◌else◌, length, nat_eq, take, true, ℕ}

-- The directives of a spec file's text, one after another; a line that is none is `Bad` with its number (GCC manual, "Spec
-- Files"; this project's profile).

-- a directive of a spec file
pub data Directive : Type 0 where
  Text : List ℕ → List ℕ → Directive  -- a name, and its body
  Pair : List ℕ → List ℕ → Directive  -- a suffix or a language, and its body
  Rename : List ℕ → List ℕ → Directive  -- a text's name, and its new name
  Include : IfMissing → List ℕ → Directive  -- what becomes of it where its file is missing, and the file
  Bad : ℕ → Directive  -- the line of this number is none

-- a directive of the code, which lends its bytes
abbrev pub shown : code.Directive → Directive
shown (lent.Text name body) = Text name.now body.now
shown (lent.Pair key body) = Pair key.now body.now
shown (lent.Rename old new) = Rename old.now new.now
shown (lent.Include missing file) = Include missing file.now
shown (lent.Bad n) = Bad n

-- what a line begins: nothing, a directive of one line, or one with a body
pub data Start : Type 0 where
  Passed : Start
  Alone : Directive → Start
  WithBody : Directive → Start

-- %include: the file is between a < and the last >, and nothing else is there
abbrev pub include_directive : ℕ → IfMissing → List ℕ → Directive
include_directive n missing [] = Bad n
include_directive n missing (b ∷ text) = if b == less_than && ends_with nat_eq text (greater_than ∷ [])
    then Include missing (take (length text - 1) text) else Bad n

-- the directive %rename has two names
abbrev pub rename_directive : ℕ → List (List ℕ) → Directive
rename_directive n [] = Bad n
rename_directive n (old ∷ []) = Bad n
rename_directive n (old ∷ new ∷ []) = Rename old new
rename_directive n (old ∷ new ∷ word ∷ words) = Bad n

-- a line that begins with %, by its first word
abbrev pub by_keyword : ℕ → List ℕ → List (List ℕ) → Directive
by_keyword n line [] = Bad n
by_keyword n line (word ∷ words) =
    if pointwise nat_eq word (codes "%rename") then rename_directive n words
    else if pointwise nat_eq word (codes "%include") then include_directive n Refuse (trim (drop (length word) line))
    else if pointwise nat_eq word (codes "%include_noerr") then include_directive n PassOver (trim (drop (length word) line))
    else Bad n

-- a body: what follows the colon, if anything does, and the lines up to the next one that is empty
abbrev pub first_line : List ℕ → List (List ℕ)
first_line rest = filter has_byte (without_front is_blank rest ∷ [])

-- the lines of a body go up to an empty line
abbrev pub body_lines : List (List ℕ) → List (List ℕ)
body_lines [] = []
body_lines (line ∷ lines) = if is_empty_line line then [] else line ∷ body_lines lines

-- a body: what follows the colon, and the lines after it
abbrev pub body_of : List ℕ → List (List ℕ) → List ℕ
body_of rest lines = join_with_byte newline (first_line rest ++ body_lines lines)

-- a line with a colon, by what precedes it
abbrev pub by_key : List ℕ → List ℕ → Directive
by_key [] body = Pair [] body
by_key (b ∷ key) body = if b == asterisk then Text key body else Pair (b ∷ key) body

-- whether a byte is a colon
abbrev pub is_colon : ℕ → Bool
is_colon b = b == colon

-- the directive of a line by its first colon; a line without one is bad
abbrev pub by_colon : ℕ → List ℕ → List (List ℕ) → Option ℕ → Directive
by_colon n line lines None = Bad n
by_colon n line lines (Some at) = by_key (take at line) (body_of (drop (at + 1) line) lines)

-- what a line does that is not empty and in no body, without the blanks at its front; these lines follow it
abbrev pub start_of : ℕ → List ℕ → List (List ℕ) → Start
start_of n [] lines = Passed
start_of n (b ∷ line) lines =
    if b == number_sign then Passed
    else if b == percent then Alone (by_keyword n (b ∷ line) (words_of (b ∷ line)))
    else WithBody (by_colon n (b ∷ line) lines (position is_colon (b ∷ line)))

-- the place of a line: it is empty, in a body, or begins something
abbrev pub start_at : Bool → Bool → ℕ → List ℕ → List (List ℕ) → Start
start_at true inside n line lines = Passed
start_at false true n line lines = Passed
start_at false false n line lines = start_of n (without_front is_blank line) lines

-- the directive that a line begins, if it does
abbrev pub directive_in : Start → List Directive
directive_in Passed = []
directive_in (Alone directive) = directive ∷ []
directive_in (WithBody directive) = directive ∷ []

-- whether the following lines are its body
abbrev pub opens_body : Start → Bool
opens_body Passed = false
opens_body (Alone directive) = false
opens_body (WithBody directive) = true

-- whether the next line is in a body
abbrev pub is_inside : Bool → Bool → Start → Bool
is_inside true inside start = false
is_inside false true start = true
is_inside false false start = opens_body start

-- the directives of lines, the first of which has this number and is in a body or not
abbrev pub read_lines : Bool → ℕ → List (List ℕ) → List Directive
read_lines inside n [] = []
read_lines inside n (line ∷ lines) =
    let start = start_at (is_empty_line line) inside n line lines in
    directive_in start ++ read_lines (is_inside (is_empty_line line) inside start) (n + 1) lines

-- the directives of a settled text, and of any
abbrev pub read_settled : List ℕ → List Directive
read_settled text = read_lines false 1 (lines_of text)

-- the directives of a text
abbrev pub directives_of : List ℕ → List Directive
directives_of text = read_settled (settle text)
