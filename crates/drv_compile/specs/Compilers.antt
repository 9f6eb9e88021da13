use Rattle.drv_words.specs.Bytes.{newline}
use Rattle.std.specs.Char.{is_ascii_alphanumeric}
use Rattle.std.specs.List.{flat_map, list_any, slice_split, starts_with}
use Rattle.std.specs.Prelude.{◌==◌, ◌||◌, Bool, List, [], ◌∷◌, codes, drop, if◌then◌else◌, length, nat_eq, not, ℕ}

-- What the files beside a spec file say: for which compiler it was written, and the names of that compiler's options (this project's
-- profile).
-- For clauses of src/compilers.rt, src/telling.rt and src/deciding.rt.

-- the lines of a file's text
abbrev pub lines : List ℕ → List (List ℕ)
lines = slice_split (λ b. b == newline)

-- the values of a key: what follows it in each line that begins with it
abbrev pub value_in : List ℕ → List ℕ → List (List ℕ)
value_in key line = if starts_with nat_eq line key then drop (length key) line ∷ [] else []

-- the values of a key in a text, one for each line that begins with it
abbrev pub values : List ℕ → List ℕ → List (List ℕ)
values key text = flat_map (value_in key) (lines text)

-- whether a byte is in no name of a switch, and so ends one in a spec file's text (GCC, "gcc.cc", validate_switches)
abbrev pub is_between : ℕ → Bool
is_between b = not (is_ascii_alphanumeric b || list_any (nat_eq b) (codes "_-+=,.@*"))

-- all names in a spec file's text: a word of the line that is one of them may be a switch
abbrev pub names_in : List ℕ → List (List ℕ)
names_in = slice_split is_between
