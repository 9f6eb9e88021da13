use Rattle.drv_cc.specs.Items.{begins, is_among, same, words_of}
use Rattle.drv_cc.specs.Kept.{has}
use Rattle.drv_cc.specs.SideFiles.{with_value}
use Rattle.drv_cc.specs.Table.{texts}
use Rattle.drv_cc.specs.declared.item.Item.{Item}
use Rattle.drv_words.specs.Bytes.{colon, comma, equals, tab}
use Rattle.drv_words.specs.FileNames.{split_at_last}
use Rattle.std.specs.List.{ends_with, filter, flat_map, list_any, position_or_len, slice_split}
use Rattle.std.specs.Prelude.{◌==◌, ◌&&◌, ◌||◌, Bool, List, [], ◌∷◌, ◌++◌, None, Option, Some, codes, drop, false, if◌then◌else◌, length}
use Rattle.std.specs.Prelude.{nat_eq, not, take, ℕ}

-- What a compiler gives its children beside the switches of the line, by the lines `child` of the file that names it (GCC, "gcc.cc"). Each
-- line has three parts, with a tab between two: the option that the line of gcc must have, if one; those by which it leaves the rest out,
-- with blanks between; and an option that the compiler adds for its machine, or a variable as NAME=VALUE.
-- For clauses of src/child_lines.rt, src/environment.rt and src/targets.rt.

-- whether a line of gcc has what the rest needs, and nothing that leaves it out
abbrev pub is_told : List Item → Option (List ℕ × List ℕ) → Bool
is_told items None = false
is_told items (Some tests) =
    (length tests.0 == 0 || has tests.0 items) && not (list_any (λ i. is_among (texts tests.1) i.name) items)

-- the rest, if the compiler gives it to the children of this line
abbrev pub told_by : List Item → Option (List ℕ × List ℕ) → List (List ℕ)
told_by items None = []
told_by items (Some parts) = if is_told items (split_at_last tab parts.0) then parts.1 ∷ [] else []

-- all options and variables that the compiler gives to the children of this line
abbrev pub told : List (List ℕ) → List Item → List (List ℕ)
told lines items = flat_map (λ line. told_by items (split_at_last tab line)) lines

-- the options for the machine among them ("gcc.cc", do_option_spec, and OPTION_DEFAULT_SPECS of a machine)
abbrev pub machine_words : List (List ℕ) → List (List ℕ)
machine_words texts = filter (begins (codes "-")) texts

-- the value that a text has for a key, if it begins with it
abbrev pub value_in : List ℕ → List ℕ → List (List ℕ)
value_in key text = if begins key text then drop (length key) text ∷ [] else []

-- the values of a variable among them
abbrev pub own_values : List ℕ → List (List ℕ) → List (List ℕ)
own_values name texts = flat_map (value_in (name ++ equals ∷ [])) texts

-- Folders of the line come before the compiler's own ("gcc.cc", putenv_from_prefixes): each with a slash at its end, and a colon.

-- a folder before others
abbrev pub folder_text : List ℕ → List ℕ
folder_text folder = folder ++ (if ends_with nat_eq folder (codes "/") then codes ":" else codes "/:")

-- the folder of -B
abbrev pub given_text : Item → List ℕ
given_text i = if same i.name (codes "-B") then folder_text i.argument else []

-- Targets of offloading ("gcc.cc", handle_foffload_option). -foffload= has names before its first =, with commas between, and options behind it.

-- what precedes the first =
abbrev pub before_equals : List ℕ → List ℕ
before_equals argument = take (position_or_len (λ b. b == equals) argument) argument

-- how an item begins that says something of offloading
abbrev pub offloading : List ℕ
offloading = codes "-foffload="

-- the argument of such an item
abbrev pub offload_argument : Item → List ℕ
offload_argument i = drop (length offloading) i.name

-- the part of it that has names: none where it begins with a hyphen, which has options alone
abbrev pub target_list : List ℕ → List ℕ
target_list argument = if begins (codes "-") argument then [] else before_equals argument

-- the names in it that aren't empty
abbrev pub named_targets : List ℕ → List (List ℕ)
named_targets argument = flat_map (with_value []) (slice_split (λ b. b == comma) (target_list argument))

-- the names, which have colons between, with one more
abbrev pub with_target : Option (List ℕ) → List ℕ → List ℕ
with_target None name = name
with_target (Some targets) name =
    if is_among (slice_split (λ b. b == colon) targets) name then targets else targets ++ colon ∷ name

-- the targets of a line after one more name: `default` gives back those of the compiler
abbrev pub target_after : Option (List ℕ) → List ℕ → Option (List ℕ)
target_after targets name = if same name (codes "default") then None else Some (with_target targets name)

-- the targets after the names of an item: `disable` leaves none, and no name behind it counts
abbrev pub targets_after : Option (List ℕ) → List (List ℕ) → Option (List ℕ)
targets_after targets [] = targets
targets_after targets (name ∷ names) =
    if same name (codes "disable") then Some [] else targets_after (target_after targets name) names

-- the targets after an item
abbrev pub item_targets : Option (List ℕ) → Item → Option (List ℕ)
item_targets targets i =
    if begins offloading i.name then targets_after targets (named_targets (offload_argument i)) else targets

-- the targets after all items
abbrev pub line_targets : Option (List ℕ) → List Item → Option (List ℕ)
line_targets targets [] = targets
line_targets targets (i ∷ items) = line_targets (item_targets targets i) items

-- the targets that a line names; none where it leaves them to the compiler
abbrev pub given_targets : List Item → Option (List ℕ)
given_targets items = line_targets None items

-- the word for the options in such an argument, which is what the compiler is called again with
abbrev pub offload_words : List ℕ → List (List ℕ)
offload_words argument =
    if begins (codes "-") argument || list_any (λ b. b == equals) argument then (codes "-foffload-options=" ++ argument) ∷ [] else []

-- the words of a switch for the children
unfoldable pub child_words : Item → List (List ℕ)
child_words i = if begins offloading i.name then offload_words (offload_argument i) else words_of i
