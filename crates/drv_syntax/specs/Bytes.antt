use Rattle.drv_words.specs.Bytes as ascii
use Rattle.std.specs.Char.{is_ascii_alphabetic, is_ascii_alphanumeric}
use Rattle.std.specs.Prelude.{◌==◌, Bool, false, true, if◌then◌else◌, List, [], ◌∷◌, codes, ℕ}

-- The bytes of spec texts by what they can be, and the names of functions (GCC manual, "Spec Files"; the sets of
-- letters are this project's profile).

-- the byte is one of these: the sets below are given so
abbrev pub is_of : List ℕ → ℕ → Bool
is_of [] b = false
is_of (x ∷ xs) b = if b == x then true else is_of xs b

-- in a word of a test: letters, digits and _-+=,.@
abbrev pub is_word : ℕ → Bool
is_word b = if is_ascii_alphanumeric b then true else is_of (codes "_-+=,.@") b

-- in the name of a named text: letters, digits and _.+-
abbrev pub is_name_byte : ℕ → Bool
is_name_byte b = if is_ascii_alphanumeric b then true else is_of (codes "_.+-") b

-- in a suffix: letters and the period
abbrev pub is_suffix : ℕ → Bool
is_suffix b = if b == ascii.period then true else is_ascii_alphabetic b

-- a space or a tab
abbrev pub is_blank : ℕ → Bool
is_blank b = is_of (ascii.space ∷ ascii.tab ∷ []) b

-- a space, a tab or a newline
abbrev pub is_white : ℕ → Bool
is_white b = is_of (ascii.space ∷ ascii.tab ∷ ascii.newline ∷ []) b

-- what begins a test of a suffix or of a language: a period or a comma
abbrev pub is_mark : ℕ → Bool
is_mark b = is_of (codes ".,") b

-- in the text of %x{..}: any byte but the closing brace
abbrev pub is_option : ℕ → Bool
is_option b = if b == ascii.closing_brace then false else true

-- a plain byte: any but a backslash, %, |, a space, a tab and a newline
abbrev pub is_plain : ℕ → Bool
is_plain b = if is_of (ascii.backslash ∷ ascii.percent ∷ ascii.bar ∷ ascii.space ∷ ascii.tab ∷ ascii.newline ∷ []) b then false else true

-- the functions: getenv, if-exists, if-exists-else, if-exists-then-else, replace-outfile, remove-outfile, version-compare
abbrev pub functions : List (List ℕ)
functions =
    codes "getenv" ∷
    codes "if-exists" ∷
    codes "if-exists-else" ∷
    codes "if-exists-then-else" ∷
    codes "replace-outfile" ∷
    codes "remove-outfile" ∷
    codes "version-compare" ∷
    []

-- two names are equal, byte by byte
abbrev pub is_same : List ℕ → List ℕ → Bool
is_same [] [] = true
is_same [] (c ∷ q) = false
is_same (b ∷ p) [] = false
is_same (b ∷ p) (c ∷ q) = if b == c then is_same p q else false

-- the first is a front of the second
abbrev pub is_front : List ℕ → List ℕ → Bool
is_front [] q = true
is_front (b ∷ p) [] = false
is_front (b ∷ p) (c ∷ q) = if b == c then is_front p q else false

-- one of these names passes the test f
abbrev pub any_of : (List ℕ → Bool) → List (List ℕ) → Bool
any_of f [] = false
any_of f (x ∷ xs) = if f x then true else any_of f xs

-- the bytes are the name of a function
abbrev pub is_function : List ℕ → Bool
is_function name = any_of (is_same name) functions

-- the bytes begin the name of a function, or are the whole of it: only then may one byte more be read
abbrev pub is_function_front : List ℕ → Bool
is_function_front name = any_of (is_front name) functions
