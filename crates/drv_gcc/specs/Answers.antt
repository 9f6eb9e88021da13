use Rattle.drv_words.specs.Bytes as byte
use Rattle.drv_words.specs.Checksums.{checksum}
use Rattle.std.specs.Cmp.Lexicographic.{pointwise}
use Rattle.std.specs.Fmt.{decimal}
use Rattle.std.specs.List.{flat_map, list_any, slice_split, starts_with}
use Rattle.std.specs.Prelude.{◌&&◌, ◌==◌, Bool, List, [], ◌∷◌, ◌++◌, codes, drop, if◌then◌else◌, length, nat_eq, not, ℕ}

-- What a gcc answers, and what its texts name.
-- For clauses of src/answers.rt and src/listed.rt.

-- The names that texts have after this beginning, up to a parenthesis: each once, in their order.

-- the name up to the parenthesis that closes it
abbrev pub name_before : List ℕ → List ℕ
name_before [] = []
name_before (b ∷ text) = if b == byte.closing_parenthesis then [] else b ∷ name_before text

-- names with one more, unless it is among them
abbrev pub with_name : List (List ℕ) → List ℕ → List (List ℕ)
with_name names name = if list_any (pointwise nat_eq name) names then names else names ++ name ∷ []

-- names with the one that follows this beginning, if the text begins so
abbrev pub with_named : List ℕ → List (List ℕ) → List ℕ → List (List ℕ)
with_named beginning names text =
    if starts_with nat_eq text beginning then with_name names (name_before (drop (length beginning) text)) else names

-- names with all that a text has after this beginning, wherever it is in the text
abbrev pub names_from : List ℕ → List (List ℕ) → List ℕ → List (List ℕ)
names_from beginning names [] = names
names_from beginning names (b ∷ text) = names_from beginning (with_named beginning names (b ∷ text)) text

-- The values of a key: what follows it in each line that begins with it.

-- the value that a line has for a key, if it begins with it
abbrev pub value_in : List ℕ → List ℕ → List (List ℕ)
value_in key line = if starts_with nat_eq line key then drop (length key) line ∷ [] else []

-- all values of a key in a text, one for each line that begins with it
abbrev pub values : List ℕ → List ℕ → List (List ℕ)
values key text = flat_map (value_in key) (slice_split (λ b. b == byte.newline) text)

-- Options by their names, as --completion= lists them (GCC, "opt-suggestions.cc"): the first word of a line that begins with one hyphen. A
-- negative warning is always known, and the front has the values of -save-temps=.

-- the first word of a line
abbrev pub first_word : List ℕ → List ℕ
first_word [] = []
first_word (b ∷ line) = if b == byte.space then [] else b ∷ first_word line

-- whether a word is an option of the list that the front doesn't know in another way
abbrev pub is_option : List ℕ → Bool
is_option word =
    starts_with nat_eq word (codes "-") && not (starts_with nat_eq word (codes "--")) && not (starts_with nat_eq word (codes "-Wno-"))
    && not (starts_with nat_eq word (codes "-save-temps="))

-- the option of a line, if it has one
abbrev pub option_in : List ℕ → List (List ℕ)
option_in line = if is_option (first_word line) then first_word line ∷ [] else []

-- all options that an answer to --completion= lists
abbrev pub options : List ℕ → List (List ℕ)
options text = flat_map option_in (slice_split (λ b. b == byte.newline) text)

-- a name up to its equals sign
abbrev pub head : List ℕ → List ℕ
head [] = []
head (b ∷ word) = if b == byte.equals then b ∷ [] else b ∷ head word

-- one that is listed with an open value and with some values has any value
abbrev pub known_by : List (List ℕ) → List ℕ → List ℕ
known_by all word = if list_any (pointwise nat_eq (head word)) all then head word else word

-- the file of options: a line for each
abbrev pub option_lines : List (List ℕ) → List ℕ
option_lines all = flat_map (λ word. known_by all word ++ byte.newline ∷ []) all

-- A written file ends in a mark, which says how many bytes precede it, and their sum.

-- a written file: the front takes a file only if its mark fits
abbrev pub with_mark : List ℕ → List ℕ
with_mark text = text ++ codes "# whole " ++ decimal (length text) ++ codes " " ++ decimal (checksum text) ++ codes "\n"

-- what gdrv-cc reads of the gcc itself: its path, its folders, and what it says of itself where commands are shown
abbrev pub line_of : List ℕ → List ℕ → List ℕ
line_of key value = key ++ value ++ byte.newline ∷ []

-- the file beside the spec file that names the gcc: the front starts that gcc for questions
abbrev pub gcc_file : List ℕ → List (List ℕ) → List (List ℕ) → List ℕ
gcc_file path folders said = line_of (codes "compiler ") path ++ flat_map (line_of (codes "folder ")) folders
    ++ flat_map (line_of (codes "said ")) said
