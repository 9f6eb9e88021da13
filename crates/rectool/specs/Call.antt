use Rattle.std.specs.Char.{is_ascii_digit}
use Rattle.std.specs.Cmp.Lexicographic.{pointwise}
use Rattle.std.specs.List.{filter_map, fold, last_or, list_all, starts_with, zip}
use Rattle.std.specs.Option.{option_or, unwrap_or}
use Rattle.std.specs.Prelude.{◌&&◌, ◌||◌, ◌*◌, ◌+◌, ◌-◌, Bool, List, [], ◌∷◌, None, Option, Some, codes, drop, false, if◌then◌else◌, length}
use Rattle.std.specs.Prelude.{map, nat_eq, nat_le, slice_get, take, ℕ}
use Rattle.std.specs.Str.{byte}

-- What the words of a call request (this project's profile). The first word is the role, which is neither an option nor an input. Positions
-- count, and words are not read in order: the word directly after an `-o` is an output, whatever it is.

-- whether two words are the same
abbrev pub same : List ℕ → List ℕ → Bool
same = pointwise nat_eq

-- the words after the role
abbrev pub operands : List (List ℕ) → List (List ℕ)
operands words = drop 1 words

-- whether a word is `-o`
abbrev pub is_output_option : List ℕ → Bool
is_output_option word = same word (codes "-o")

-- the word directly after the last `-o`, if there is an `-o`; None if it is the last word
abbrev pub after_output : List (List ℕ) → Option (Option (List ℕ))
after_output [] = None
after_output (word ∷ words) = option_or (after_output words) (if is_output_option word then Some (slice_get words 0) else None)

-- the file for the record; None is standard output, as is `-`
abbrev pub file_named : Option (Option (List ℕ)) → Option (List ℕ)
file_named (Some (Some path)) = if same path (codes "-") then None else Some path
file_named (Some None) = None
file_named None = None

-- the file after the last `-o`
abbrev pub output_file : List (List ℕ) → Option (List ℕ)
output_file words = file_named (after_output (operands words))

-- a word is an input unless it begins with `-` or directly follows an `-o`
abbrev pub begins_as_option : List ℕ → Bool
begins_as_option word = starts_with nat_eq word (codes "-")

-- a word that is neither an option nor an output is an input
abbrev pub input_of : Bool × List ℕ → Option (List ℕ)
input_of (is_after, word) = if is_after || begins_as_option word then None else Some word

-- each word, and whether it directly follows an `-o`
abbrev pub with_option_before : Bool → List (List ℕ) → List (Bool × List ℕ)
with_option_before first words = zip (first ∷ map is_output_option words) words

-- the inputs of a call, in order
abbrev pub inputs_of : List (List ℕ) → List (List ℕ)
inputs_of words = filter_map input_of (with_option_before false (operands words))

-- the decimal number of these digits after a number
abbrev pub number_after : ℕ → List ℕ → ℕ
number_after n digits = fold (λ n digit. n * 10 + (digit - byte "0")) n digits

-- the number of these digits after n, if it is a status
abbrev pub code_after : ℕ → List ℕ → Option ℕ
code_after n digits = if list_all is_ascii_digit digits && nat_le (number_after n digits) 255 then Some (number_after n digits) else None

-- the exit status of digits: there is at least one, and their number is at most 255
abbrev pub code_of : List ℕ → Option ℕ
code_of [] = None
code_of (digit ∷ digits) = code_after 0 (digit ∷ digits)

-- the option that gives the exit status
abbrev pub code_option : List ℕ
code_option = codes "-frec-exit="

-- the status that a word requests
abbrev pub code_asked : List ℕ → Option ℕ
code_asked word = if same (take (length code_option) word) code_option then code_of (drop (length code_option) word) else None

-- the status that the last such word requests, or else 0
abbrev pub exit_status : List (List ℕ) → ℕ
exit_status words = unwrap_or (last_or None (filter_map code_asked (operands words))) 0

-- For the code alone: a number with one more digit.
abbrev pub with_digit : ℕ → ℕ → Option ℕ
with_digit n digit = if is_ascii_digit digit && nat_le (n * 10 + (digit - byte "0")) 255 then Some (n * 10 + (digit - byte "0")) else None
