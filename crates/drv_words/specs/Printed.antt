use Rattle.drv_words.specs.Bytes as byte
use Rattle.drv_words.specs.declared.plan.PlanLine.{PlanLine}
use Rattle.std.specs.Char.{is_ascii_alphanumeric}
use Rattle.std.specs.List.{flat_map, list_all}
use Rattle.std.specs.Prelude.{◌≡◌, Bool, false, true, ◌||◌, ◌&&◌, ◌==◌, List, [], ◌∷◌, ◌++◌, if◌then◌else◌, length, nat_lt, ℕ}

-- The text of a plan, as the driver prints it for -### and -v (GCC manual, "Overall Options"). Which words are quoted, and ` |` for a pipe,
-- are this project's profile.

-- a letter, a digit or one of ./-_
abbrev pub is_plain : ℕ → Bool
is_plain b = is_ascii_alphanumeric b || b == byte.period || b == byte.slash || b == byte.hyphen || b == byte.underscore

-- a word that needs no quotes: at least one byte, and all of them plain
abbrev pub is_bare : List ℕ → Bool
is_bare word = nat_lt 0 (length word) && list_all is_plain word

-- a byte that needs a backslash between quotes: a double quote, a backslash or a dollar sign
abbrev pub is_special : ℕ → Bool
is_special b = b == byte.double_quote || b == byte.backslash || b == byte.dollar

-- The grammar, by cases: first the text, then what it shows.

-- the text between the quotes shows the bytes of a word
pub data Escapes : List ℕ → List ℕ → Type 0 where
  no_byte : Escapes [] []
  other : {b : ℕ} {text word : List ℕ} → is_special b ≡ false → Escapes text word → Escapes (b ∷ text) (b ∷ word)
  special : {b : ℕ} {text word : List ℕ} → is_special b ≡ true → Escapes text word → Escapes (byte.backslash ∷ b ∷ text) (b ∷ word)

-- a text shows one word
pub data ShowsWord : List ℕ → List ℕ → Type 0 where
  bare : {word : List ℕ} → is_bare word ≡ true → ShowsWord word word
  in_quotes : {text word : List ℕ} → is_bare word ≡ false → Escapes text word
      → ShowsWord (byte.double_quote ∷ text ++ byte.double_quote ∷ []) word

-- words, each after a space
pub data ShowsWords : List ℕ → List (List ℕ) → Type 0 where
  no_word : ShowsWords [] []
  one_more : {text word rest : List ℕ} {words : List (List ℕ)} → ShowsWord text word → ShowsWords rest words
      → ShowsWords (byte.space ∷ text ++ rest) (word ∷ words)

-- the end of a line, and whether it is piped
pub data ShowsEnd : List ℕ → Bool → Type 0 where
  into_next : ShowsEnd (byte.space ∷ byte.bar ∷ byte.newline ∷ []) true
  no_pipe : ShowsEnd (byte.newline ∷ []) false

-- a text shows lines
pub data Shows : List ℕ → List PlanLine → Type 0 where
  no_line : Shows [] []
  line : {words end rest : List ℕ} {l : PlanLine} {lines : List PlanLine} → ShowsWords words (l.command.program ∷ l.command.words)
      → ShowsEnd end l.piped → Shows rest lines → Shows (words ++ end ++ rest) (l ∷ lines)

-- The same as functions: the text of a word's inside, of a word, of words, of a line, of lines.

-- special bytes have a backslash before them
abbrev pub escaped : List ℕ → List ℕ
escaped [] = []
escaped (b ∷ word) = if is_special b then byte.backslash ∷ b ∷ escaped word else b ∷ escaped word

-- a word is in quotes unless it is bare
abbrev pub quoted : List ℕ → List ℕ
quoted word = if is_bare word then word else byte.double_quote ∷ escaped word ++ byte.double_quote ∷ []

-- each word has a blank before it
abbrev pub words_text : List (List ℕ) → List ℕ
words_text = flat_map (λ word. byte.space ∷ quoted word)

-- a line ends with a newline, and before that with ` |` if it goes into a pipe
abbrev pub end_text : Bool → List ℕ
end_text piped = if piped then byte.space ∷ byte.bar ∷ byte.newline ∷ [] else byte.newline ∷ []

-- the text of one line
abbrev pub line_text : PlanLine → List ℕ
line_text l = words_text (l.command.program ∷ l.command.words) ++ end_text l.piped

-- the text of all lines
abbrev pub lines_text : List PlanLine → List ℕ
lines_text = flat_map line_text
