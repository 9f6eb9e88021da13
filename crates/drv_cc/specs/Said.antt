use Rattle.drv_args.specs.declared.items.Item.{Item as LineItem}
use Rattle.drv_args.specs.declared.option_table.Effect.TheVariants as effect
use Rattle.drv_cc.specs.Front.{folders}
use Rattle.drv_cc.specs.Items.{begins, by_row, first_row, is_among, is_file, is_passed_over, item, machine_item, meant_option, newer_item}
use Rattle.drv_cc.specs.Items.{plain}
use Rattle.drv_cc.specs.Kept.{goes, is_named}
use Rattle.drv_cc.specs.LineItems.{alone, item_of, line_item}
use Rattle.drv_cc.specs.Table.{OptionRow, texts}
use Rattle.drv_cc.specs.declared.answer.Surroundings.{Surroundings}
use Rattle.drv_cc.specs.declared.item.Item.{Item}
use Rattle.drv_options.specs.declared.option.Role.TheVariants.{Input, Switch, Unknown}
use Rattle.drv_options.specs.declared.option.Spelling.TheVariants.{Alone, Nowhere}
use Rattle.drv_options.specs.declared.option.Takes.TheVariants.{Either, Newer, Next}
use Rattle.drv_options.specs.declared.option.Takes.{Takes}
use Rattle.std.specs.List.{All, Contains}
use Rattle.std.specs.Option.{is_some}
use Rattle.std.specs.Prelude.{◌≡◌, Bool, List, [], ◌∷◌, ◌++◌, None, Some, codes, false, if◌then◌else◌, true, ℕ}

-- What the driver gets of a line that is carried out (GCC manual, "Invoking GCC"): nothing of the line is lost, and nothing is invented.
-- For the law line_is_said of src/laws.rt.

-- what a word is read as: itself where a row of the table fits it, or else by its other name (--debug=3 is -g3)
abbrev pub read_as : List ℕ → List ℕ
read_as word = if is_some (first_row word) then word else meant_option word

-- whether an option takes the next word, by how it takes its argument and by what follows it in its own word
abbrev pub takes_next : Takes → List ℕ → Bool
takes_next Next behind = true
takes_next Either [] = true
takes_next _ behind = false

-- the row of a word is this one, and this follows the option in it
abbrev pub HasRow : List ℕ → OptionRow → List ℕ → Type 0
HasRow word r behind = (first_row (read_as word) ≡ Some r) × (read_as word ≡ r.option ++ behind)

-- a word is an option that no row fits, by neither of its names
abbrev pub HasNoRow : List ℕ → Type 0
HasNoRow word = (is_file word ≡ false) × (first_row (read_as word) ≡ None)

-- A file, or an option with its argument: its words, and what they are by their row. A word without a row is an option as it is, one that
-- newer compilers ignore, or a switch of a spec file of the line.
pub data Reads (known : List ℕ) (named : List (List ℕ)) : List (List ℕ) → Item → Type 0 where
  a_file : {word : List ℕ} → is_file word ≡ true → Reads known named (word ∷ []) (plain Input word)
  one_word : {word behind : List ℕ} {r : OptionRow}
      → HasRow word r behind → takes_next r.takes behind ≡ false → Reads known named (word ∷ []) (by_row r behind)
  two_words : {word argument : List ℕ} {r : OptionRow}
      → HasRow word r [] → takes_next r.takes [] ≡ true → Reads known named (word ∷ argument ∷ []) (by_row r argument)
  newer_name : {word : List ℕ} {r : OptionRow}
      → HasRow word r [] → r.takes ≡ Newer → Reads known named (word ∷ []) (newer_item known r.option r.name)
  as_it_is : {word : List ℕ} → HasNoRow word → Reads known named (word ∷ []) (item (read_as word) [] Alone Switch)
  passed_over : {word : List ℕ}
      → HasNoRow word → is_passed_over (read_as word) ≡ true → Reads known named (word ∷ []) (item (read_as word) [] Nowhere Switch)
  machine : {word argument : List ℕ}
      → HasNoRow word → read_as word ≡ codes "-mcpu=" ++ argument → Reads known named (word ∷ []) (machine_item known argument)
  switch_of_spec_file : {word : List ℕ}
      → HasNoRow word → is_named named word ≡ true → Reads known named (word ∷ []) (plain Unknown word)

-- The words of a line in their order, the items that they are, and what the driver gets: each item in its turn. Left out are one that a
-- later item of its class takes back, and one that is spelled nowhere.
pub data Says (known : List ℕ) (named : List (List ℕ)) : List (List ℕ) → List Item → List LineItem → Type 0 where
  no_words : Says known named [] [] []
  kept_item : {words rest : List (List ℕ)} {i : Item} {items : List Item} {one : LineItem} {others : List LineItem}
      → Reads known named words i → goes i items ≡ false → line_item i ≡ Some one
      → Says known named rest items others → Says known named (words ++ rest) (i ∷ items) (one ∷ others)
  taken_back : {words rest : List (List ℕ)} {i : Item} {items : List Item} {others : List LineItem}
      → Reads known named words i → goes i items ≡ true
      → Says known named rest items others → Says known named (words ++ rest) (i ∷ items) others
  spelled_nowhere : {words rest : List (List ℕ)} {i : Item} {items : List Item} {others : List LineItem}
      → Reads known named words i → i.spelling ≡ Nowhere
      → Says known named rest items others → Says known named (words ++ rest) (i ∷ items) others

-- what is added: a word that only the spec file reads, -pthread, or a folder of the compiler or of COMPILER_PATH
pub data IsAdded (around : Surroundings) : LineItem → Type 0 where
  own_word : {word : List ℕ} → begins (codes "--gdrv-") word ≡ true → IsAdded around (alone effect.Switch word)
  threads : IsAdded around (alone effect.Switch (codes "-pthread"))
  a_folder : {option folder : List ℕ} → is_among (texts (codes "-B --gdrv-path= --gdrv-copies=")) option ≡ true
      → Contains (folders around.compiler_path ++ around.copies ++ around.folders) folder
      → IsAdded around (item_of effect.Prefix option folder)

-- the items of the driver's line are what a line says, and then what is added
pub record IsSaid (known : List ℕ) (named : List (List ℕ)) (around : Surroundings) (words : List (List ℕ)) (line : List LineItem) : Type 0
  where
    pub items : List Item
    pub said : List LineItem
    pub added : List LineItem
    pub says : Says known named words items said
    pub all_added : All (IsAdded around) added
    pub are : line ≡ said ++ added
