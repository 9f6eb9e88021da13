use Rattle.drv_words.specs.Bytes as byte
use Rattle.std.specs.Int.{is_in_range}
use Rattle.std.specs.List.{flat_map}
use Rattle.std.specs.Prelude.{◌≡◌, ◌||◌, ◌==◌, Bool, false, true, List, [], ◌∷◌, ◌++◌, if◌then◌else◌, ℕ}

-- The text of a response file, as a grammar by cases: the text, the words that it means, and the rest of the text (GCC manual, "Overall
-- Options", @file). What the manual leaves open is this project's profile.

-- tab to carriage return, and space
abbrev pub is_space : ℕ → Bool
is_space b = is_in_range byte.tab byte.carriage_return b || b == byte.space

-- a single or a double quote
abbrev pub is_quote : ℕ → Bool
is_quote b = b == byte.single_quote || b == byte.double_quote

-- a quoted run after its opening quote: a backslash makes the next byte plain, and the end of the text closes the run
pub data IsRun : ℕ → List ℕ → List ℕ → List ℕ → Type 0 where
  run_closed : {mark : ℕ} {rest : List ℕ} → IsRun mark (mark ∷ rest) [] rest
  run_unclosed : {mark : ℕ} → IsRun mark [] [] []
  run_backslash : {mark : ℕ} → IsRun mark (byte.backslash ∷ []) [] []
  run_escaped : {mark b : ℕ} {text bytes rest : List ℕ} → IsRun mark text bytes rest
      → IsRun mark (byte.backslash ∷ b ∷ text) (b ∷ bytes) rest
  run_plain : {mark b : ℕ} {text bytes rest : List ℕ} → (b == mark) ≡ false → (b == byte.backslash) ≡ false → IsRun mark text bytes rest
      → IsRun mark (b ∷ text) (b ∷ bytes) rest

-- a piece of a word: a plain byte, a backslash with the byte after it, or a quoted run
pub data IsPiece : List ℕ → List ℕ → List ℕ → Type 0 where
  plain : {b : ℕ} {rest : List ℕ} → is_space b ≡ false → is_quote b ≡ false → (b == byte.backslash) ≡ false
      → IsPiece (b ∷ rest) (b ∷ []) rest
  escaped : {b : ℕ} {rest : List ℕ} → IsPiece (byte.backslash ∷ b ∷ rest) (b ∷ []) rest
  backslash : IsPiece (byte.backslash ∷ []) [] []
  quoted : {mark : ℕ} {text bytes rest : List ℕ} → is_quote mark ≡ true → IsRun mark text bytes rest → IsPiece (mark ∷ text) bytes rest

-- a word ends at the end of the text, and before white space
pub data EndsWord : List ℕ → Type 0 where
  at_end : EndsWord []
  at_space : {b : ℕ} {rest : List ℕ} → is_space b ≡ true → EndsWord (b ∷ rest)

-- pieces to the end of the word
pub data ArePieces : List ℕ → List ℕ → List ℕ → Type 0 where
  no_more : {rest : List ℕ} → EndsWord rest → ArePieces rest [] rest
  more : {text bytes mid word rest : List ℕ} → IsPiece text bytes mid → ArePieces mid word rest → ArePieces text (bytes ++ word) rest

-- a text: white space and words in turn
pub data Splits : List ℕ → List (List ℕ) → Type 0 where
  nothing : Splits [] []
  space : {b : ℕ} {rest : List ℕ} {words : List (List ℕ)} → is_space b ≡ true → Splits rest words → Splits (b ∷ rest) words
  one_word : {text bytes mid word rest : List ℕ} {words : List (List ℕ)} → IsPiece text bytes mid → ArePieces mid word rest
      → Splits rest words → Splits text ((bytes ++ word) ∷ words)

-- the words of a text, appended to others
abbrev pub SplitsOnto : List ℕ → List (List ℕ) → List (List ℕ) → Type 0
SplitsOnto text words all = (more : List (List ℕ)) × (all ≡ words ++ more) × Splits text more

-- The response text of words: one line for each.

-- the bytes that need a backslash: white space, both quotes and the backslash
abbrev pub is_marked : ℕ → Bool
is_marked b = is_space b || is_quote b || b == byte.backslash

-- blanks, quotation marks and backslashes have a backslash before them
abbrev pub marked : List ℕ → List ℕ
marked [] = []
marked (b ∷ word) = if is_marked b then byte.backslash ∷ b ∷ marked word else b ∷ marked word

-- the empty word is two quotes
abbrev pub response : List ℕ → List ℕ
response [] = byte.double_quote ∷ byte.double_quote ∷ []
response (b ∷ word) = marked (b ∷ word)

-- each word has a newline after it
abbrev pub response_text : List (List ℕ) → List ℕ
response_text = flat_map (λ word. response word ++ byte.newline ∷ [])
