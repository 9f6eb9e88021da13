use Rattle.drv_c99.specs.Front.{front_of}
use Rattle.drv_c99.specs.declared.fault.C99Fault.TheVariants.{BadLevel, MissingArgument, NoOperand, UnknownOption}
use Rattle.drv_c99.specs.declared.fault.C99Fault.{C99Fault}
use Rattle.drv_words.specs.Bytes.{space}
use Rattle.std.proofs.Common.{◌≡◌, ◌==◌, List, [], ◌∷◌, codes, refl, ℕ}
use Rattle.std.specs.List.{slice_split}
use Rattle.std.specs.Prelude.{Err, Ok, Result}

-- Examples of c99 lines, which the prover computes.
-- Names: `front_of`: the driver's words for a line of c99.

-- the words of a text, separated by blanks
abbrev words : List ℕ → List (List ℕ)
words text = slice_split (λ b. b == space) text

-- the driver's words for this line of c99, whose words are separated by blanks
abbrev front : List ℕ → Result (List (List ℕ)) C99Fault
front text = front_of (words text)

-- the driver's words as a text
abbrev gives : List ℕ → Result (List (List ℕ)) C99Fault
gives text = Ok (words text)

-- each kind of word; macros come first, those that are defined before those that are undefined
all_kinds : front (codes "-U A -D A=1 x.c -l m -o p -###") ≡ gives (codes "-std=c99 -D A=1 -U A x.c -lm -o p -###")
all_kinds = refl

-- after `--` each word but -l is an operand, with ./ before a hyphen
after_the_end : front (codes "-- -l m -q.c") ≡ gives (codes "-std=c99 -lm ./-q.c")
after_the_end = refl

-- arguments in the same word
joined : front (codes "-U A x.c -DA -LB") ≡ gives (codes "-std=c99 -D A -U A x.c -L B")
joined = refl

-- after `--` hyphens begin names
hyphens_after_the_end : front (codes "-c -- - -### -- -") ≡ gives (codes "-std=c99 -c ./- ./-### ./-- ./-")
hyphens_after_the_end = refl

-- flags pass through, and - is an operand
standard_input : front (codes "-E -g -s -") ≡ gives (codes "-std=c99 -E -g -s -")
standard_input = refl

-- the levels of -O, in the same word or in the next
levels : front (codes "-O0 -O 1 -I d x.c") ≡ gives (codes "-std=c99 -O0 -O1 -I d x.c")
levels = refl

-- a library is an operand
library_alone : front (codes "-lm") ≡ gives (codes "-std=c99 -lm")
library_alone = refl

-- an empty argument stays one
empty_argument : front_of (codes "-o" ∷ [] ∷ codes "x.c" ∷ []) ≡ Ok (codes "-std=c99" ∷ codes "-o" ∷ [] ∷ codes "x.c" ∷ [])
empty_argument = refl

-- letters can't be grouped
grouped_letters : front (codes "-cO x.c") ≡ Err (UnknownOption (codes "-cO"))
grouped_letters = refl

-- gdrv's own options are none of c99
jobs : front (codes "--jobs=2 x.c") ≡ Err (UnknownOption (codes "--jobs=2"))
jobs = refl

-- there are two levels, 0 and 1
level_two : front (codes "-O 2 x.c") ≡ Err (BadLevel (codes "2"))
level_two = refl

-- in the same word too
level_joined : front (codes "-O2 x.c") ≡ Err (BadLevel (codes "2"))
level_joined = refl

-- a line without operands is refused
no_operand : front (codes "-c") ≡ Err NoOperand
no_operand = refl

-- and so is an empty one
no_word : front_of [] ≡ Err NoOperand
no_word = refl

-- a last word that needs an argument is refused
no_macro : front (codes "-D") ≡ Err (MissingArgument (codes "-D"))
no_macro = refl

-- and so is a library without a name
no_library : front_of (codes "-l" ∷ [] ∷ codes "x.c" ∷ []) ≡ Err (MissingArgument (codes "-l"))
no_library = refl

-- of several refusals the first counts
first_fault : front (codes "-q -O 2 -o") ≡ Err (UnknownOption (codes "-q"))
first_fault = refl
