use Rattle.drv_cc.specs.Table.{OptionRow, classes, ignored, renames, table, texts}
use Rattle.drv_cc.specs.declared.item.Item.{Item}
use Rattle.drv_options.specs.declared.option.Spelling.TheVariants.{Alone, Joined, Nowhere, Separate}
use Rattle.drv_options.specs.declared.option.Spelling.{Spelling}
use Rattle.drv_options.specs.declared.option.Role.TheVariants.{Input, Lacking, Question, Switch, Unknown}
use Rattle.drv_options.specs.declared.option.Role.{Role}
use Rattle.drv_options.specs.declared.option.Takes.TheVariants.{Attached, Either, Newer, Next, Nothing, Rest}
use Rattle.drv_options.specs.declared.option.Takes.{Takes}
use Rattle.drv_words.specs.Bytes.{equals, hyphen, newline, space}
use Rattle.std.specs.Cmp.Lexicographic.{pointwise}
use Rattle.std.specs.List.{ends_with, list_all, list_any, position_or_len, slice_split, starts_with}
use Rattle.std.specs.Option.{option_map, unwrap_or}
use Rattle.std.specs.Prelude.{◌==◌, ◌&&◌, ◌||◌, Bool, List, [], ◌∷◌, ◌++◌, None, Option, Some, codes, drop, false, find, if◌then◌else◌}
use Rattle.std.specs.Prelude.{length, nat_eq, nat_lt, not, take, true, ℕ}

-- A line of gcc as a list of items (GCC manual, "Invoking GCC"; "Option Summary").
-- For clauses of src/reading.rt, src/values.rt, src/classes.rt and others. drv_compile cites it too.

-- whether two texts have the same bytes
abbrev pub same : List ℕ → List ℕ → Bool
same = pointwise nat_eq

-- whether a word begins with a beginning
abbrev pub begins : List ℕ → List ℕ → Bool
begins beginning word = starts_with nat_eq word beginning

-- whether a name is one of a list
abbrev pub is_among : List (List ℕ) → List ℕ → Bool
is_among names name = list_any (same name) names

-- Classes: of each one the last item of the line stays. A class is named by one of its options; no text is no class.

-- the positive form of an option: -Wno-X is of the class -WX
abbrev pub positive_form : List ℕ → List ℕ
positive_form (dash ∷ letter ∷ rest) = dash ∷ letter ∷ (if begins (codes "no-") rest then drop 3 rest else rest)
positive_form word = word

-- whether an option's letter is one that takes no-: -W, -f, -g and -m do (-Wall, -Wno-all)
abbrev pub has_two_signs : List ℕ → Bool
has_two_signs (dash ∷ letter ∷ rest) = list_any (nat_eq letter) (codes "Wfgm")
has_two_signs word = false

-- an option that takes no argument is of a class with its opposite
abbrev pub class_alone : List ℕ → List ℕ
class_alone name =
    if not (has_two_signs name) then []
    else if list_any (nat_eq equals) name then [] else positive_form name

-- the class of a name by its spelling, where the list has none for it: an option with an argument is of none
abbrev pub class_by : Spelling → List ℕ → List ℕ
class_by Alone name = class_alone name
class_by Joined name = []
class_by Separate name = []
class_by Nowhere name = []

-- the class that a list of options with their classes has for an option
abbrev pub class_in : List (List ℕ × List ℕ) → List ℕ → Option (List ℕ)
class_in rows name = option_map (λ row. row.1) (find (λ row. same name row.0) rows)

-- the class of an option, by which a later one on the line takes it back: that of the list goes before the one by its spelling
abbrev pub class_of : Spelling → List ℕ → List ℕ
class_of spelling name = unwrap_or (class_in classes name) (class_by spelling name)

-- Items.

-- an item of an option, with the class that its name has
abbrev pub item : List ℕ → List ℕ → Spelling → Role → Item
item name argument spelling role = record {
  name = name;
  argument = argument;
  spelling = spelling;
  role = role;
  class =
      class_of spelling name;
}

-- a word that is no option
abbrev pub plain : Role → List ℕ → Item
plain role word = record { name = word; argument = []; spelling = Alone; role = role; class = [] }

-- the item of a row of the table, with an argument
abbrev pub by_row : OptionRow → List ℕ → Item
by_row r argument = item r.name argument r.spelling r.role

-- Options that newer compilers ignore or call by another name: names of options say which of them this compiler takes as they are.

-- the first line of a text
abbrev pub first_line : List ℕ → List ℕ
first_line text = take (position_or_len (λ b. b == newline) text) text

-- the line of those that this compiler takes as they are, with blanks between: the first one, if it begins with a blank
abbrev pub own_line : List ℕ → List ℕ
own_line [] = []
own_line (b ∷ known) = if b == space then first_line known else []

-- whether names of options say that this compiler takes such an option as it is
abbrev pub is_own : List ℕ → List ℕ → Bool
is_own known option = is_among (texts (own_line known)) option

-- an option of a row whose name newer compilers alone give it. Without names it is unknown, and that name its argument
abbrev pub unsettled : List ℕ → List ℕ → Item
unsettled option name = record { name = option; argument = name; spelling = Alone; role = Unknown; class = [] }

-- the same by names of options: as it is, or by the newer name
abbrev pub newer_item : List ℕ → List ℕ → List ℕ → Item
newer_item known option name =
    if nat_lt 0 (length known) then item (if is_own known option then option else name) [] Alone Switch else unsettled option name

-- how a word begins: an item, or an option that takes the next word
pub data Start : Type 0 where
  Whole : Item → Start
  Wants : OptionRow → Start

-- what an option makes of the rest of its word; one that needs an argument in its word and has none is Lacking
abbrev pub with_rest : List ℕ → Takes → OptionRow → List ℕ → Start
with_rest known Nothing r rest = Whole (by_row r [])
with_rest known Newer r rest = Whole (newer_item known r.option r.name)
with_rest known Next r rest = Wants r
with_rest known Attached r [] = Whole (plain Lacking r.option)
with_rest known Attached r (b ∷ rest) = Whole (by_row r (b ∷ rest))
with_rest known Rest r rest = Whole (by_row r rest)
with_rest known Either r [] = Wants r
with_rest known Either r (b ∷ rest) = Whole (by_row r (b ∷ rest))

-- whether an argument may follow the option in its word: then a word that only begins with the option fits too
abbrev pub takes_rest : Takes → Bool
takes_rest Nothing = false
takes_rest Newer = false
takes_rest Next = false
takes_rest Attached = true
takes_rest Rest = true
takes_rest Either = true

-- whether a word fits an option: it is the option, or begins with it where the rest may be an argument
abbrev pub option_fits : Takes → List ℕ → List ℕ → Bool
option_fits takes word option = if takes_rest takes then begins option word else same option word

-- whether a word fits a row of the table
abbrev pub fits : List ℕ → OptionRow → Bool
fits word r = option_fits r.takes word r.option

-- the row that decides a word: the first one that fits
abbrev pub first_row : List ℕ → Option OptionRow
first_row word = find (fits word) table

-- whether a word begins as a long name and goes on: only then is it read by its other name
abbrev pub is_longer : List ℕ → List ℕ × List ℕ → Bool
is_longer word rename = begins rename.0 word && nat_lt (length rename.0) (length word)

-- a word with the beginning of its other name, where there is one
abbrev pub renamed_by : List ℕ → Option (List ℕ × List ℕ) → List ℕ
renamed_by word None = word
renamed_by word (Some rename) = rename.1 ++ drop (length rename.0) word

-- what a word that no row fits is read as: by its other name, or as it is
abbrev pub meant_option : List ℕ → List ℕ
meant_option word = renamed_by word (find (is_longer word) renames)

-- a word up to its first =, and that too
abbrev pub head_of : List ℕ → List ℕ
head_of [] = []
head_of (b ∷ rest) = if b == equals then b ∷ [] else b ∷ head_of rest

-- the names that are known beyond the table: the lines of a text
abbrev pub is_known : List ℕ → List ℕ → Bool
is_known known name = is_among (slice_split (λ b. b == newline) known) name

-- -mcpu= is -mtune= by another name where a line of the names says so (GCC manual, "x86 Options", -mcpu=); other machines have it
abbrev pub machine_name : List ℕ → List ℕ
machine_name known = if is_known known (codes "-mcpu=>-mtune=") then codes "-mtune=" else codes "-mcpu="

-- an item of -mcpu=, by the name that this compiler's machine has for it
abbrev pub machine_item : List ℕ → List ℕ → Item
machine_item known machine = item (machine_name known) machine Joined Switch

-- a name that is known beyond the table, as an item: a switch that is one word
abbrev pub known_item : List ℕ → List ℕ → Item
known_item known name =
    if begins (codes "-mcpu=") name then machine_item known (drop (length (codes "-mcpu=")) name) else item name [] Alone Switch

-- what follows a name's first =; an option is known by its whole name, with any argument by its name up to =, and with a number by that and
-- #
abbrev pub value_of : List ℕ → List ℕ
value_of name = drop (length (head_of name)) name

-- whether a byte is a decimal digit
abbrev pub is_digit : ℕ → Bool
is_digit b = nat_lt 47 b && nat_lt b 58

-- whether an argument is a number: digits alone, and at least one
abbrev pub is_number : List ℕ → Bool
is_number value = nat_lt 0 (length value) && list_all is_digit value

-- the name under which an option with a number is known: up to its =, and a # there
abbrev pub name_before_argument : List ℕ → List ℕ
name_before_argument name = if is_number (value_of name) then head_of name ++ codes "#" else head_of name

-- whether a name with its argument is known: with any, or with a number if it is one
abbrev pub takes_value : List ℕ → List ℕ → Bool
takes_value known name = is_known known (head_of name) || is_known known (name_before_argument name)

-- a name that ends so is no whole option: its argument follows, or it has a mark
abbrev pub is_open : List ℕ → Bool
is_open name = list_any (ends_with nat_eq name) (texts (codes "= - ? #"))

-- whether a name is an option beyond the table: the compiler takes it as it is
abbrev pub accepts : List ℕ → List ℕ → Bool
accepts known name = if is_open name then not (is_known known name) && takes_value known name
    else is_known known name || takes_value known name

-- gcc's driver judges the argument of an option ("opts-common.cc", decode_cmdline_option): one that is missing, a number, and one of those
-- that are listed, whose mark is another
abbrev pub judges : List ℕ → List ℕ → Bool
judges known name = is_known known name || (is_known known (head_of name ++ codes "?") || is_known known (head_of name ++ codes "#"))

-- An unknown word that begins so is left to the compiler, which speaks of it where it speaks at all, but not the negative of an option with
-- an argument ("gcc.cc", driver_unknown_option_callback; CL_ERR_NEGATIVE). Without names nothing is known of such an option.
abbrev pub leaves : List ℕ → List ℕ → Bool
leaves known positive = nat_lt 0 (length known) && not (is_known known (head_of positive) || judges known positive)

-- whether a word is a -Wno- that is left to the compiler: one without =, or one whose positive form gcc's driver doesn't know
abbrev pub turns_off : List ℕ → List ℕ → Bool
turns_off known word = begins (codes "-Wno-") word && (not (list_any (nat_eq equals) word) || leaves known (positive_form word))

-- an option that newer compilers ignore, or whose other sign they do
abbrev pub is_passed_over : List ℕ → Bool
is_passed_over name = is_among ignored (positive_form name)

-- whether names of options say that this compiler lacks such an option: among those it has a mark
abbrev pub lacks : List ℕ → List ℕ → Bool
lacks known name = is_own known (name ++ codes "?")

-- such an option by names: the compiler refuses one that it lacks; it takes another as it is, or that is passed over
abbrev pub passed_by : List ℕ → List ℕ → List ℕ → Item
passed_by known word name =
    if lacks known name then plain Question word else item name [] (if is_own known name then Alone else Nowhere) Switch

-- without names it is unknown
abbrev pub passed_item : List ℕ → List ℕ → List ℕ → Item
passed_item known word name = if nat_lt 0 (length known) then passed_by known word name else plain Unknown word

-- A word that no row fits: names that are known beyond the table are taken as they are. An argument that gcc's driver judges makes the line
-- a question: the compiler refuses it in its own words.
abbrev pub beyond : List ℕ → List ℕ → List ℕ → Item
beyond known word name =
    if is_passed_over name then passed_item known word name
    else if turns_off known word || accepts known name then known_item known name
    else if judges known name then plain Question word
    else plain Unknown word

-- whether a word is a file: one that doesn't begin with a hyphen, and - alone
abbrev pub is_file : List ℕ → Bool
is_file [] = true
is_file (b ∷ []) = true
is_file (b ∷ c ∷ rest) = not (b == hyphen)

-- a word that no row fits, by its other name: the row of that name decides, or the names beyond the table do
abbrev pub start_renamed : List ℕ → List ℕ → List ℕ → Option OptionRow → Start
start_renamed known word name (Some r) = with_rest known r.takes r (drop (length r.option) name)
start_renamed known word name None = Whole (beyond known word name)

-- a word that begins with a hyphen: its row decides, or else its other name
abbrev pub start_option : List ℕ → List ℕ → Option OptionRow → Start
start_option known word (Some r) = with_rest known r.takes r (drop (length r.option) word)
start_option known word None = start_renamed known word (meant_option word) (first_row (meant_option word))

-- how a word begins, where no option before it takes it as argument
abbrev pub start_of : List ℕ → List ℕ → Start
start_of known word = if is_file word then Whole (plain Input word) else start_option known word (first_row word)

-- the items of words, where the option of a row waits for its argument or none does
abbrev pub with_start : Start → (Option OptionRow → List Item) → List Item
with_start (Whole i) following = i ∷ following None
with_start (Wants r) following = following (Some r)

-- the items of a line's words. `known` has the names beyond the table; a row that waits for its argument at the end is Lacking
abbrev pub items_of : List ℕ → Option OptionRow → List (List ℕ) → List Item
items_of known None [] = []
items_of known (Some r) [] = plain Lacking r.option ∷ []
items_of known None (word ∷ words) = with_start (start_of known word) (λ wanting. items_of known wanting words)
items_of known (Some r) (word ∷ words) = by_row r word ∷ items_of known None words

-- what an item is spelled as
abbrev pub spelled_by : Spelling → List ℕ → List ℕ → List (List ℕ)
spelled_by Alone name argument = name ∷ []
spelled_by Joined name argument = (name ++ argument) ∷ []
spelled_by Separate name argument = name ∷ argument ∷ []
spelled_by Nowhere name argument = []

-- the words by which an item is given on; what is called by another name is spelled by that
abbrev pub words_of : Item → List (List ℕ)
words_of i = spelled_by i.spelling i.name i.argument
