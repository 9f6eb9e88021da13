use Rattle.drv_args.specs.Jobs.{jobs_named}
use Rattle.drv_args.specs.Options.{OptionRow, first_row}
use Rattle.drv_args.specs.declared.fault.ArgsFault.TheVariants.{BadJobs, MissingArgument}
use Rattle.drv_args.specs.declared.fault.ArgsFault.{ArgsFault}
use Rattle.drv_args.specs.declared.items.Item.{Item}
use Rattle.drv_args.specs.declared.option_table.Effect.TheVariants as effect
use Rattle.drv_args.specs.declared.option_table.Effect.{Effect}
use Rattle.drv_args.specs.declared.option_table.Form.TheVariants.{Either, Exact, Joined, Separate}
use Rattle.drv_args.specs.declared.option_table.Form.{Form}
use Rattle.drv_words.specs.Bytes.{hyphen}
use Rattle.std.specs.Prelude.{◌≡◌, ◌==◌, Bool, Err, List, [], ◌∷◌, ◌++◌, None, Ok, Option, Result, Some, drop, false, if◌then◌else◌}
use Rattle.std.specs.Prelude.{is_none, length, true, ℕ}

-- How the words of a line are split into fronts: an option with its argument, or a file (GCC manual, "Overall Options"; this project's
-- profile).

-- what a front adds to the line: the effect of its option, the option, and its argument
abbrev pub item : Effect → List ℕ → List ℕ → Item
item effect option argument = record { effect = effect; option = option; argument = argument }

-- how a word begins a front: it is a whole front, it needs the next word as its argument, or it is refused
pub data Start : Type 0 where
  Alone : Item → Start
  Wants : Effect → List ℕ → Start
  Bad : Start

-- an option that takes the rest of its word, or else the next word
abbrev pub with_rest : Bool → Effect → List ℕ → List ℕ → Start
with_rest true effect option rest = Wants effect option
with_rest false effect option rest = Alone (item effect option rest)

-- the front of an option, by its form
abbrev pub by_form : Form → Effect → List ℕ → List ℕ → Start
by_form Exact effect option word = Alone (item effect option [])
by_form Separate effect option word = Wants effect option
by_form Joined effect option word = Alone (item effect option (drop (length option) word))
by_form Either effect option word = with_rest (length option == length word) effect option (drop (length option) word)

-- the word is refused if the text after --jobs is not a number of jobs
abbrev pub is_bad : Effect → List ℕ → Bool
is_bad effect.Jobs argument = is_none (jobs_named argument)
is_bad _ argument = false

-- an option whose argument is bad is refused
abbrev pub by_effect : Effect → OptionRow → List ℕ → Start
by_effect effect r word = if is_bad effect (drop (length r.option) word) then Bad else by_form r.form effect r.option word

-- a word that no row fits is a switch
abbrev pub by_row : Option OptionRow → List ℕ → Start
by_row (Some r) word = by_effect r.effect r word
by_row None word = Alone (item effect.Switch word [])

-- a file: a word that doesn't begin with a hyphen, or the hyphen itself
abbrev pub is_file : List ℕ → Bool
is_file [] = true
is_file (b ∷ []) = true
is_file (b ∷ c ∷ word) = if b == hyphen then false else true

-- how a word begins a front: a file by itself, an option by its row
abbrev pub start_of : List ℕ → Start
start_of word = if is_file word then Alone (item effect.File word []) else by_row (first_row word) word

-- The words are a concatenation of fronts, each fitted by its first row.

-- these words are a front, and its item is this one
pub data Fits : List (List ℕ) → Item → Type 0 where
  alone : {word : List ℕ} {i : Item} → start_of word ≡ Alone i → Fits (word ∷ []) i
  with_next : {word argument option : List ℕ} {effect : Effect} → start_of word ≡ Wants effect option
      → Fits (word ∷ argument ∷ []) (item effect option argument)

-- the words are fronts, one after another
pub data Reads : List (List ℕ) → List Item → Type 0 where
  no_front : Reads [] []
  front : {words rest : List (List ℕ)} {i : Item} {items : List Item} → Fits words i → Reads rest items → Reads (words ++ rest) (i ∷ items)

-- The first offending word: a last word that needs an argument, or a bad number of jobs.
pub data Offends : List (List ℕ) → ArgsFault → Type 0 where
  lacks_argument : {word option : List ℕ} {effect : Effect} → start_of word ≡ Wants effect option
      → Offends (word ∷ []) (MissingArgument word)
  bad_jobs : {word : List ℕ} {words : List (List ℕ)} → start_of word ≡ Bad → Offends (word ∷ words) (BadJobs word)
  later : {words rest : List (List ℕ)} {i : Item} {fault : ArgsFault} → Fits words i → Offends rest fault → Offends (words ++ rest) fault

-- The same as a function of the words.

-- an item before those of the rest
abbrev pub and_items : Item → Result (List Item) ArgsFault → Result (List Item) ArgsFault
and_items i (Ok items) = Ok (i ∷ items)
and_items i (Err fault) = Err fault

-- the last word, by how it begins a front
abbrev pub at_last : Start → List ℕ → Result (List Item) ArgsFault
at_last (Alone i) word = Ok (i ∷ [])
at_last (Wants effect option) word = Err (MissingArgument word)
at_last Bad word = Err (BadJobs word)

-- a word with others after it, by the results of these with the next word and without it
abbrev pub at_word : Start → List ℕ → List ℕ → Result (List Item) ArgsFault → Result (List Item) ArgsFault → Result (List Item) ArgsFault
at_word (Alone i) word next from_next after_next = and_items i from_next
at_word (Wants effect option) word next from_next after_next = and_items (item effect option next) after_next
at_word Bad word next from_next after_next = Err (BadJobs word)

-- the items of the words
abbrev pub items_of : List (List ℕ) → Result (List Item) ArgsFault
items_of [] = Ok []
items_of (word ∷ []) = at_last (start_of word) word
items_of (word ∷ next ∷ words) = at_word (start_of word) word next (items_of (next ∷ words)) (items_of words)
