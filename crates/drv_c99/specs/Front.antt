use Rattle.drv_c99.specs.declared.fault.C99Fault.TheVariants.{BadLevel, MissingArgument, NoOperand, UnknownOption}
use Rattle.drv_c99.specs.declared.fault.C99Fault.{C99Fault}
use Rattle.drv_c99.specs.declared.option.Taking.TheVariants.{Define, IncludeFolder, Level, Library, LibraryFolder, Output, Undefine}
use Rattle.drv_c99.specs.declared.option.Taking.{Taking}
use Rattle.drv_c99.specs.declared.option.Side.TheVariants.{BeforeEnd, AfterEnd}
use Rattle.drv_c99.specs.declared.option.Side.{Side}
use Rattle.drv_words.specs.Bytes.{hyphen}
use Rattle.std.specs.Cmp.Lexicographic.{pointwise}
use Rattle.std.specs.List.{flat_map, list_any}
use Rattle.std.specs.Map.{lookup}
use Rattle.std.specs.Prelude.{◌==◌, Bool, Err, List, [], ◌∷◌, ◌++◌, None, Ok, Option, Result, Some, codes, false, if◌then◌else◌, nat_eq}
use Rattle.std.specs.Prelude.{true, ℕ}

-- A line of c99 as words of the driver (POSIX.1-2017, c99, SYNOPSIS, OPTIONS and OPERANDS). It is this project's profile that letters can't
-- be grouped.

-- the options without an argument
abbrev pub flags : List (List ℕ)
flags = codes "-c" ∷ codes "-E" ∷ codes "-g" ∷ codes "-s" ∷ codes "-###" ∷ []

-- the options with an argument
abbrev pub options : List (List ℕ × Taking)
options =
    (codes "-D", Define) ∷ (codes "-U", Undefine) ∷ (codes "-I", IncludeFolder) ∷ (codes "-L", LibraryFolder) ∷ (codes "-o", Output) ∷
    (codes "-O", Level)
    ∷ (codes "-l", Library) ∷ []

-- the name of such an option
abbrev pub name_of : Taking → List ℕ
name_of Define = codes "-D"
name_of Undefine = codes "-U"
name_of IncludeFolder = codes "-I"
name_of LibraryFolder = codes "-L"
name_of Output = codes "-o"
name_of Level = codes "-O"
name_of Library = codes "-l"

-- an item of the line: a macro that is defined or undefined, the words of another option, or an operand
pub data Item : Type 0 where
  Defined : List ℕ → Item
  Undefined : List ℕ → Item
  Passed : List (List ℕ) → Item
  Operand : List ℕ → Item

-- How a word begins: an option without an argument; an operand, with a prefix; an option with its argument; an option that needs the next
-- word as its argument; the end of the options; or no option.
pub data Start : Type 0 where
  Flag : Start
  Names : List ℕ → Start
  Joined : Taking → List ℕ → Start
  Wants : Taking → Start
  Ends : Start
  Unknown : Start

-- the argument is the text after an option's letter, if there is any
abbrev pub with_argument : Taking → List ℕ → Start
with_argument option [] = Wants option
with_argument option (b ∷ rest) = Joined option (b ∷ rest)

-- a word whose letter is this option, or none
abbrev pub by_option : Option Taking → List ℕ → Start
by_option (Some option) rest = with_argument option rest
by_option None rest = Unknown

-- a word that begins with a hyphen and another byte, before the end of the options
abbrev pub option_start : ℕ → List ℕ → Start
option_start letter rest =
    if pointwise nat_eq (hyphen ∷ letter ∷ rest) (codes "--") then Ends
    else if list_any (pointwise nat_eq (hyphen ∷ letter ∷ rest)) flags then Flag
    else by_option (lookup (pointwise nat_eq (hyphen ∷ letter ∷ [])) options) rest

-- how a word begins an item before the options have ended
abbrev pub start_before : List ℕ → Start
start_before [] = Names []
start_before (b ∷ []) = Names []
start_before (b ∷ letter ∷ rest) = if b == hyphen then option_start letter rest else Names []

-- after the end of the options a library is still recognized, and any other word that begins with a hyphen is a file
abbrev pub hyphened_start : List ℕ → Start
hyphened_start [] = Names (codes "./")
hyphened_start (letter ∷ rest) = if pointwise nat_eq (hyphen ∷ letter ∷ []) (codes "-l") then with_argument Library
    rest else Names (codes "./")

-- and after: -l still takes an argument
abbrev pub start_after : List ℕ → Start
start_after [] = Names []
start_after (b ∷ rest) = if b == hyphen then hyphened_start rest else Names []

-- how a word begins an item
abbrev pub start_of : Side → List ℕ → Start
start_of BeforeEnd word = start_before word
start_of AfterEnd word = start_after word

-- an option with its argument: the level is 0 or 1, and a library has a name
abbrev pub with_level : Bool → List ℕ → Result Item C99Fault
with_level true argument = Ok (Passed ((codes "-O" ++ argument) ∷ []))
with_level false argument = Err (BadLevel argument)

-- the operand of -l; a library has a name
abbrev pub library : List ℕ → Result Item C99Fault
library [] = Err (MissingArgument (codes "-l"))
library (b ∷ name) = Ok (Operand (codes "-l" ++ b ∷ name))

-- the item of an option with its argument
abbrev pub given : Taking → List ℕ → Result Item C99Fault
given Define argument = Ok (Defined argument)
given Undefine argument = Ok (Undefined argument)
given IncludeFolder argument = Ok (Passed (codes "-I" ∷ argument ∷ []))
given LibraryFolder argument = Ok (Passed (codes "-L" ∷ argument ∷ []))
given Output argument = Ok (Passed (codes "-o" ∷ argument ∷ []))
given Level argument = with_level (list_any (pointwise nat_eq argument) (codes "0" ∷ codes "1" ∷ [])) argument
given Library argument = library argument

-- the items of a line, or its first offending word

-- an item before those of the rest; the first refusal counts
abbrev pub and_items : Result Item C99Fault → Result (List Item) C99Fault → Result (List Item) C99Fault
and_items (Err fault) items = Err fault
and_items (Ok i) (Err fault) = Err fault
and_items (Ok i) (Ok items) = Ok (i ∷ items)

-- the items of a last word, by how it begins an item
abbrev pub at_last : Start → List ℕ → Result (List Item) C99Fault
at_last Flag word = Ok (Passed (word ∷ []) ∷ [])
at_last (Names prefix) word = Ok (Operand (prefix ++ word) ∷ [])
at_last (Joined option argument) word = and_items (given option argument) (Ok [])
at_last (Wants option) word = Err (MissingArgument (name_of option))
at_last Ends word = Ok []
at_last Unknown word = Err (UnknownOption word)

-- a word with others after it, by the results of these: with the next word, without it, or after the end of the options
abbrev pub at_word : Start → List ℕ → List ℕ → Result (List Item) C99Fault → Result (List Item) C99Fault → Result (List Item) C99Fault
    → Result (List Item) C99Fault
at_word Flag word next from_next after_next ended = and_items (Ok (Passed (word ∷ []))) from_next
at_word (Names prefix) word next from_next after_next ended = and_items (Ok (Operand (prefix ++ word))) from_next
at_word (Joined option argument) word next from_next after_next ended = and_items (given option argument) from_next
at_word (Wants option) word next from_next after_next ended = and_items (given option next) after_next
at_word Ends word next from_next after_next ended = ended
at_word Unknown word next from_next after_next ended = Err (UnknownOption word)

-- the items of the words
abbrev pub items_of : Side → List (List ℕ) → Result (List Item) C99Fault
items_of side [] = Ok []
items_of side (word ∷ []) = at_last (start_of side word) word
items_of side (word ∷ next ∷ words) = at_word (start_of side word) word next (items_of side (next ∷ words)) (items_of side words)
    (items_of AfterEnd (next ∷ words))

-- the words of the driver: the standard, the defined macros, the undefined macros, and the rest in order

-- the words of a macro that is defined
abbrev pub defined_words : Item → List (List ℕ)
defined_words (Defined macro) = codes "-D" ∷ macro ∷ []
defined_words (Undefined macro) = []
defined_words (Passed words) = []
defined_words (Operand word) = []

-- of one that is undefined
abbrev pub undefined_words : Item → List (List ℕ)
undefined_words (Defined macro) = []
undefined_words (Undefined macro) = codes "-U" ∷ macro ∷ []
undefined_words (Passed words) = []
undefined_words (Operand word) = []

-- of any other item
abbrev pub other_words : Item → List (List ℕ)
other_words (Defined macro) = []
other_words (Undefined macro) = []
other_words (Passed words) = words
other_words (Operand word) = word ∷ []

-- whether an item is an operand
abbrev pub is_operand : Item → Bool
is_operand (Defined macro) = false
is_operand (Undefined macro) = false
is_operand (Passed words) = false
is_operand (Operand word) = true

-- the driver's words: the standard, then -D, then -U, then the rest in order
abbrev pub front_of_items : Result (List Item) C99Fault → Result (List (List ℕ)) C99Fault
front_of_items (Err fault) = Err fault
front_of_items (Ok items) =
    if list_any is_operand items then Ok (codes "-std=c99" ∷ flat_map defined_words items ++ flat_map undefined_words items
    ++ flat_map other_words items)
    else Err NoOperand

-- the driver's words for a line of c99
abbrev pub front_of : List (List ℕ) → Result (List (List ℕ)) C99Fault
front_of args = front_of_items (items_of BeforeEnd args)
