use Rattle.drv_c99.specs.Front.{Ends, Flag, Item, Joined, Names, Operand, Passed, Unknown, Wants, given, name_of, start_of}
use Rattle.drv_c99.specs.declared.fault.C99Fault.TheVariants.{MissingArgument, UnknownOption}
use Rattle.drv_c99.specs.declared.fault.C99Fault.{C99Fault}
use Rattle.drv_c99.specs.declared.option.Side.TheVariants.{AfterEnd}
use Rattle.drv_c99.specs.declared.option.Side.{Side}
use Rattle.drv_c99.specs.declared.option.Taking.{Taking}
use Rattle.std.specs.Prelude.{◌≡◌, Err, List, [], ◌∷◌, ◌++◌, Ok, ℕ}

-- The items of a line of c99 as rules (POSIX.1-2017, c99, OPTIONS; XBD 12.2, "Utility Syntax Guidelines").

-- One item: a flag, an operand, or an option whose argument is the rest of its word or the next word.
pub data Fits : Side → List (List ℕ) → Item → Type 0 where
  flag : {side : Side} {word : List ℕ} → start_of side word ≡ Flag → Fits side (word ∷ []) (Passed (word ∷ []))
  operand : {side : Side} {word prefix : List ℕ} → start_of side word ≡ Names prefix → Fits side (word ∷ []) (Operand (prefix ++ word))
  joined : {side : Side} {word argument : List ℕ} {option : Taking} {i : Item}
      → start_of side word ≡ Joined option argument → given option argument ≡ Ok i → Fits side (word ∷ []) i
  separate : {side : Side} {word argument : List ℕ} {option : Taking} {i : Item}
      → start_of side word ≡ Wants option → given option argument ≡ Ok i → Fits side (word ∷ argument ∷ []) i

-- A line is a concatenation of items, and `--` ends its options.
pub data Reads : Side → List (List ℕ) → List Item → Type 0 where
  no_word : {side : Side} → Reads side [] []
  first : {side : Side} {words rest : List (List ℕ)} {i : Item} {items : List Item}
      → Fits side words i → Reads side rest items → Reads side (words ++ rest) (i ∷ items)
  options_end : {side : Side} {word : List ℕ} {words : List (List ℕ)} {items : List Item}
      → start_of side word ≡ Ends → Reads AfterEnd words items → Reads side (word ∷ words) items

-- The first offending word: not an option; a last word that needs an argument; or an option with a bad argument.
pub data Offends : Side → List (List ℕ) → C99Fault → Type 0 where
  unknown : {side : Side} {word : List ℕ} {words : List (List ℕ)}
      → start_of side word ≡ Unknown → Offends side (word ∷ words) (UnknownOption word)
  lacks_argument : {side : Side} {word : List ℕ} {option : Taking}
      → start_of side word ≡ Wants option → Offends side (word ∷ []) (MissingArgument (name_of option))
  bad_rest : {side : Side} {word argument : List ℕ} {words : List (List ℕ)} {option : Taking} {fault : C99Fault}
      → start_of side word ≡ Joined option argument → given option argument ≡ Err fault → Offends side (word ∷ words) fault
  bad_next : {side : Side} {word argument : List ℕ} {words : List (List ℕ)} {option : Taking} {fault : C99Fault}
      → start_of side word ≡ Wants option → given option argument ≡ Err fault → Offends side (word ∷ argument ∷ words) fault
  later : {side : Side} {words rest : List (List ℕ)} {i : Item} {fault : C99Fault}
      → Fits side words i → Offends side rest fault → Offends side (words ++ rest) fault
  after_end : {side : Side} {word : List ℕ} {words : List (List ℕ)} {fault : C99Fault}
      → start_of side word ≡ Ends → Offends AfterEnd words fault → Offends side (word ∷ words) fault
