use Rattle.bstr.specs.Find.{matches}
use Rattle.bstr.specs.Text.{replaced_at}
use Rattle.drv_args.specs.declared.items.Item.{Item}
use Rattle.drv_args.specs.declared.option_table.Effect.TheVariants as effect
use Rattle.drv_cc.specs.LineItems.{alone, item_of}
use Rattle.drv_cc.specs.declared.answer.Variable.{Variable}
use Rattle.drv_compile.specs.Compilers.{values}
use Rattle.drv_compile.specs.Decides.{first_of}
use Rattle.drv_compile.specs.Texts.{is}
use Rattle.drv_compile.specs.declared.host.HostEvent.TheVariants.{Worded}
use Rattle.drv_compile.specs.declared.host.HostEvent.{HostEvent}
use Rattle.drv_compile.specs.declared.machines.LineRow.TheVariants.{Found, Missing, Unneeded}
use Rattle.drv_compile.specs.declared.machines.LineRow.{LineRow}
use Rattle.drv_compile.specs.declared.machines.MachineItems.TheVariants.{Lacks, Made}
use Rattle.drv_compile.specs.declared.machines.MachineItems.{MachineItems}
use Rattle.drv_words.specs.Bytes as byte
use Rattle.drv_words.specs.Response.{marked}
use Rattle.std.specs.Cmp.Lexicographic.{pointwise}
use Rattle.std.specs.List.{filter, flat_map, list_any, slice_split, starts_with}
use Rattle.std.specs.Prelude.{◌≡◌, ◌==◌, ◌&&◌, ◌||◌, Bool, List, [], ◌∷◌, ◌++◌, None, Option, Some, codes, drop, if◌then◌else◌, length}
use Rattle.std.specs.Prelude.{map, nat_eq, not, ℕ}

-- The options of a line that choose its machine, and the words that gcc makes of them (GCC, "gcc.cc", DRIVER_SELF_SPECS and
-- OPTION_DEFAULT_SPECS, set_multilib_dir; in no dump). The file beside the spec file may have rows: `machine`, these options with a blank
-- before each, and after a tab the words, with a tab between two. A line has the words of its row in their place, before all others.
-- A gcc may also choose by an option for no machine (mips: -fno-pic adds -mno-shared, NO_SHARED_SPECS). The file has a line `key` for each
-- such option: the option, a blank, and one of those that choose alike. A key has that one after the options for the machine; the line's
-- own stays where it is.
-- For clauses of src/machines.rt and src/row_asking.rt.

-- whether an option chooses the machine: one that begins with -m, or -EB or -EL
abbrev pub is_machine : List ℕ → Bool
is_machine option =
    starts_with nat_eq option (codes "-m") || pointwise nat_eq option (codes "-EB") || pointwise nat_eq option (codes "-EL")

-- an option of a line for its machine, as a key has it: white space, quotes and backslashes inside it have a backslash before them, so that
-- it is no other option of a row
abbrev pub key_word : Item → List ℕ
key_word i = if is_machine i.option then byte.space ∷ marked i.option ++ marked i.argument else []

-- what follows an option on a line of the file, if that is a blank and a word
abbrev pub word_after : List ℕ → List ℕ
word_after [] = []
word_after (b ∷ rest) = if b == byte.space then b ∷ rest else []

-- the word of a line `key` for an option, with the blank before it, if the line is for that option
abbrev pub chooser_word : List ℕ → Item → List ℕ
chooser_word line i = if starts_with nat_eq line i.option then word_after (drop (length i.option) line) else []

-- the words of a line `key` for the options of a line of the driver
abbrev pub chooser_words : List Item → List ℕ → List ℕ
chooser_words items line = flat_map (chooser_word line) items

-- the key by which a text's row for a line is found: the line's options for its machine, and then the words of the text's lines `key`
abbrev pub key_of : List ℕ → List Item → List ℕ
key_of text items = flat_map key_word items ++ flat_map (chooser_words items) (values (codes "key ") text)

-- how the row of a key begins
abbrev pub row_beginning : List ℕ → List ℕ
row_beginning key = codes "machine" ++ key ++ codes "\t"

-- A word of a row is a switch; one for a folder of the row's libraries is a prefix too, and files are looked for there first (GCC,
-- "gcc.cc", for_each_path).

-- how a word of a row begins that names a folder of libraries
abbrev pub folder_option : List ℕ
folder_option = codes "--gdrv-in="

-- a folder of a row's libraries, as the driver's prefix with an option of its own
abbrev pub folder_item : List ℕ → Item
folder_item word = item_of effect.Prefix folder_option (drop (length folder_option) word)

-- a word of a row as an item of the driver's line
abbrev pub word_item : List ℕ → Item
word_item word = if starts_with nat_eq word folder_option then folder_item word else alone effect.Switch word

-- the item of a word of a row; an empty word is none
abbrev pub word_items : List ℕ → List Item
word_items [] = []
word_items (b ∷ word) = word_item (b ∷ word) ∷ []

-- the words of a row: there is a tab between two
abbrev pub row_words : List ℕ → List (List ℕ)
row_words row = slice_split (λ b. b == byte.tab) row

-- the items of a row
abbrev pub row_items : List ℕ → List Item
row_items row = flat_map word_items (row_words row)

-- the items of a line without its options for the machine, whose place the row's words take
abbrev pub plain_items : List Item → List Item
plain_items items = filter (λ i. not (is_machine i.option)) items

-- The children get the line again, in COLLECT_GCC_OPTIONS (GCC, "gcc.cc", set_collect_gcc_options). There an option for the machine stays
-- in its place if the row has it too. The row's other words are where the compiler adds its own. Options for a machine have no quotes.

-- a word as COLLECT_GCC_OPTIONS has it, after a blank
abbrev pub quoted_word : List ℕ → List ℕ
quoted_word word = codes " '" ++ word ++ codes "'"

-- a text with another one wherever it has this part
abbrev pub replaced : List ℕ → List ℕ → List ℕ → List ℕ
replaced text part other = replaced_at text (length part) other 0 (matches text part 0)

-- whether a word is that of an item
abbrev pub is_word : Item → List ℕ → Bool
is_word i word = starts_with nat_eq word i.option && pointwise nat_eq (drop (length i.option) word) i.argument

-- whether the row takes away an option for the machine: it isn't among the row's words
abbrev pub goes : List ℕ → Item → Bool
goes row i = is_machine i.option && not (list_any (is_word i) (row_words row))

-- a text without an option that the row takes away
abbrev pub without_option : List ℕ → Item → List ℕ → List ℕ
without_option row i text = if goes row i then replaced text (quoted_word (i.option ++ i.argument)) [] else text

-- a text without the options of a line that the row takes away
abbrev pub without_options : List ℕ → List Item → List ℕ → List ℕ
without_options row [] text = text
without_options row (i ∷ items) text = without_options row items (without_option row i text)

-- how a word of a row begins that is for the children alone: the spec file of a device
abbrev pub child_option : List ℕ
child_option = codes "--gdrv-child="

-- whether a word of a row isn't added for the children: they know none of this driver's own, and the line may have it already
abbrev pub is_left_out : List Item → List ℕ → Bool
is_left_out items word = starts_with nat_eq word (codes "--gdrv-") || list_any (λ i. is_word i word) items

-- a word of a row for the children
abbrev pub child_word : List Item → List ℕ → List ℕ
child_word items [] = []
child_word items (b ∷ word) =
    if starts_with nat_eq (b ∷ word) child_option then quoted_word (drop (length child_option) (b ∷ word))
    else if is_left_out items (b ∷ word) then [] else quoted_word (b ∷ word)

-- the words of a row for the children
abbrev pub child_words : List Item → List ℕ → List ℕ
child_words items row = flat_map (child_word items) (row_words row)

-- what is in the place of the row's words: an option, as a line `child` gives it
abbrev pub row_place : List ℕ
row_place = codes " '--gdrv-row'"

-- a line's switches for the children, by its row
abbrev pub child_line : List Item → List ℕ → List ℕ → List ℕ
child_line items row text =
    drop 1 (replaced (without_options row items (byte.space ∷ text)) row_place (child_words items row))

-- a variable of the children, by the row of the line
abbrev pub child_variable : List Item → List ℕ → Variable → Variable
child_variable items row v = record v { value = if is v.name (codes "COLLECT_GCC_OPTIONS") then child_line items row v.value else v.value }

-- the row for a key, if one was found
abbrev pub found_or_missing : List ℕ → Option (List ℕ) → LineRow
found_or_missing key None = Missing key
found_or_missing key (Some row) = Found row

-- the row for a key among the rows of a text: the first
abbrev pub row_among : List ℕ → List ℕ → LineRow
row_among text key = found_or_missing key (first_of (values (row_beginning key) text))

-- the row of a line by a text and the first row there; where there is none, no line needs one
abbrev pub by_rows : List ℕ → List Item → Option (List ℕ) → LineRow
by_rows text items None = Unneeded
by_rows text items (Some first) = row_among text (key_of text items)

-- the row of a line by a text
abbrev pub row_in : List ℕ → List Item → LineRow
row_in text items = by_rows text items (first_of (values (codes "machine") text))

-- the row of a line by the text of a file, if that is whole
abbrev pub row_of : Option (List ℕ) → List Item → LineRow
row_of None items = Unneeded
row_of (Some text) items = row_in text items

-- The row of a line, with what the host was asked: where the file has rows and none for the line's options, the compiler of the spec file
-- is asked, and its answer has the row. No file is changed by that. If the answer has no row for these options either, the row is missing.
pub data RowAsked (specs : List ℕ) (rows : Option (List ℕ)) (items : List Item) : List HostEvent → LineRow → Type 0 where
  no_rows : row_of rows items ≡ Unneeded → RowAsked specs rows items [] Unneeded
  in_file : {row : List ℕ} → row_of rows items ≡ Found row → RowAsked specs rows items [] (Found row)
  answered : {key answer : List ℕ} → row_of rows items ≡ Missing key
      → RowAsked specs rows items (Worded specs (drop 1 key) answer ∷ []) (row_among answer key)

-- the items of a line and the variables of its children by its row; where no line needs one, the items stay
abbrev pub items_by : LineRow → List Item → List Variable → MachineItems
items_by Unneeded items children = Made items (map (child_variable [] []) children)
items_by (Found row) items children = Made (row_items row ++ plain_items items) (map (child_variable items row) children)
items_by (Missing key) items children = Lacks (drop 1 key)
