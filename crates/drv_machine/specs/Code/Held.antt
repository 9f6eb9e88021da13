use Rattle.drv_machine.specs.Cutting.{Cut, touched, word_done}
use Rattle.drv_machine.specs.Code.Running.{Machine}
use Rattle.drv_machine.specs.Working.{◌>>-◌, Answer}
use Rattle.drv_system.specs.Known.{Is}
use Rattle.drv_words.specs.declared.plan.Command.{Command}
use Rattle.std.specs.Prelude.{◌≡◌, ◌-◌, ◌++◌, Bool, List, [], ◌∷◌, None, Ok, Option, Some, false, if◌then◌else◌, replicate, true}
use Rattle.std.specs.Prelude.{ℕ}

-- How the code holds what is cut and drawn. For the private clauses of src/machine.rt and of the files in src/machine/ alone.

-- the word that is open, if one is, of a flag and the bytes
abbrev pub open_word : Bool → List ℕ → Option (List ℕ)
open_word true bytes = Some bytes
open_word false bytes = None

-- for each %W that is open the last word that ended in it: of so many, this word but for the innermost ones
abbrev pub ended_in : List ℕ → ℕ → ℕ → List (Option (List ℕ))
ended_in last count fresh = replicate fresh None ++ replicate (count - fresh) (Some last)

-- the innermost %W ends: what is left, and its last word
abbrev pub Ends : List (Option (List ℕ)) → List (Option (List ℕ)) → Option (List ℕ) → Type 0
Ends [] after last = (after ≡ []) × (last ≡ None)
Ends (word ∷ outer) after last = (after ≡ outer) × (last ≡ word)

-- the group of some commands; none where there is no command
abbrev pub made : List Command → List (List Command)
made [] = []
made (command ∷ commands) = (command ∷ commands) ∷ []

-- the open word has ended as these words for the path that was found
abbrev pub word_found : Machine → (List ℕ → List (List ℕ)) → Answer (List ℕ) → Answer (Unit {0} × Machine)
word_found s words found = found >>- by
  where
    by : List ℕ → Answer (Unit {0} × Machine)
    by path = Is (Ok (tt, record s { cut = word_done s.cut (words path) path }))

-- no word is open, and no mark takes the next one as a name
abbrev pub IsBetweenWords : Cut → Type 0
IsBetweenWords c = (c.word ≡ None) × (c.marks.script ≡ false) × (c.marks.file ≡ false)

-- the state after a word was put whole into the command, between words
abbrev pub word_added : Machine → List ℕ → Machine
word_added s word = record s { cut = word_done (touched s.cut) (word ∷ []) word }
