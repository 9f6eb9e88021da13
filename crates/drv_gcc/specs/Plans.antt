use Rattle.drv_words.specs.FileNames.{base}
use Rattle.std.specs.Cmp.Lexicographic.{pointwise}
use Rattle.std.specs.List.{ends_with, starts_with}
use Rattle.std.specs.Prelude.{◌&&◌, ◌||◌, Bool, List, [], ◌∷◌, codes, false, if◌then◌else◌, nat_eq, true, ℕ}

-- Two drivers plan the same: the same programs, each with the same words in the same order (GCC manual, "Overall Options", -###). A
-- temporary file has another name in each call. collect2 runs the linker, which this driver starts itself; that of a target may have its
-- name.
-- For clauses of src/plans.rt.

-- what replaces the name of a temporary file
abbrev pub temporary : List ℕ
temporary = codes "temporary"

-- whether a word names a temporary file: ccXXXXXX in some folder, or the file of the plugin's answers
abbrev pub is_temporary : List ℕ → Bool
is_temporary word =
    starts_with nat_eq word (codes "-plugin-opt=-fresolution=")
    || (starts_with nat_eq word (codes "/") && starts_with nat_eq (base word) (codes "cc"))

-- a word in which a temporary has the same name in each call
abbrev pub plain_word : List ℕ → List ℕ
plain_word word = if is_temporary word then temporary else word

-- whether a program runs the linker: collect2, or the linker of a target
abbrev pub is_linker : List ℕ → Bool
is_linker name = pointwise nat_eq name (codes "collect2") || ends_with nat_eq name (codes "-ld")

-- the name of a program without its folder, where each that runs the linker is ld
abbrev pub plain_program : List ℕ → List ℕ
plain_program path = if is_linker (base path) then codes "ld" else base path

-- whether two commands have the same words in the same order
abbrev pub same_words : List (List ℕ) → List (List ℕ) → Bool
same_words [] [] = true
same_words [] (b ∷ bs) = false
same_words (a ∷ as_) [] = false
same_words (a ∷ as_) (b ∷ bs) = pointwise nat_eq (plain_word a) (plain_word b) && same_words as_ bs

-- whether two commands start the same program with the same words
abbrev pub same_command : List (List ℕ) → List (List ℕ) → Bool
same_command [] [] = true
same_command [] (b ∷ bs) = false
same_command (a ∷ as_) [] = false
same_command (a ∷ as_) (b ∷ bs) = pointwise nat_eq (plain_program a) (plain_program b) && same_words as_ bs

-- whether two drivers plan the same commands in the same order: else gdrv-write-specs names the line
abbrev pub same_commands : List (List (List ℕ)) → List (List (List ℕ)) → Bool
same_commands [] [] = true
same_commands [] (b ∷ bs) = false
same_commands (a ∷ as_) [] = false
same_commands (a ∷ as_) (b ∷ bs) = same_command a b && same_commands as_ bs
