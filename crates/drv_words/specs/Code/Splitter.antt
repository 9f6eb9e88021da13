use Rattle.drv_words.specs.Bytes as byte
use Rattle.drv_words.specs.Response.{is_marked, is_quote, is_space}
use Rattle.drv_words.specs.declared.response.Splitter.{Splitter}
use Rattle.std.specs.Option.{is_none}
use Rattle.std.specs.Prelude.{◌&&◌, ◌==◌, Bool, List, [], ◌∷◌, ◌++◌, None, Option, Some, false, if◌then◌else◌, not, suc, true, ℕ}

-- A splitter of response text, byte by byte or by runs of plain bytes. Only private clauses cite it: the grammar `Splits` defines what
-- `split` returns.

-- at the start of a text, whose words are appended to others
abbrev pub following : List (List ℕ) → Splitter
following words = record { words = words; word = None; quote = None; escaped = false }

-- the bytes of the word so far
abbrev pub open_word : Option (List ℕ) → List ℕ
open_word None = []
open_word (Some word) = word

-- a word is open: the one at hand, or a new one
abbrev pub opened : Splitter → Splitter
opened splitter = record splitter { word = Some (open_word splitter.word) }

-- one more byte of the word
abbrev pub with_byte : Splitter → ℕ → Splitter
with_byte splitter b = record splitter { word = Some (open_word splitter.word ++ b ∷ []) }

-- the open word, if there is one, has ended
abbrev pub word_ended : Option (List ℕ) → Splitter → Splitter
word_ended None splitter = splitter
word_ended (Some word) splitter = record splitter { words = splitter.words ++ word ∷ []; word = None }

-- the word at hand, if there is one, is complete
abbrev pub ended : Splitter → Splitter
ended splitter = word_ended splitter.word splitter

-- a byte inside a quoted run, and one outside
abbrev pub quoted_step : ℕ → Splitter → ℕ → Splitter
quoted_step mark splitter b =
    if b == byte.backslash then record splitter { escaped = true }
    else if b == mark then record splitter { quote = None }
    else with_byte splitter b

-- a byte outside of quotes
abbrev pub plain_step : Splitter → ℕ → Splitter
plain_step splitter b =
    if is_space b then ended splitter
    else if b == byte.backslash then record (opened splitter) { escaped = true }
    else if is_quote b then record (opened splitter) { quote = Some b }
    else with_byte splitter b

-- a byte, in quotes or outside
abbrev pub step_in : Option ℕ → Splitter → ℕ → Splitter
step_in None splitter b = plain_step splitter b
step_in (Some mark) splitter b = quoted_step mark splitter b

-- a byte is taken; after a backslash it is one of the word, whatever it is
abbrev pub step : Splitter → ℕ → Splitter
step splitter b = if splitter.escaped then record (with_byte splitter b) { escaped = false } else step_in splitter.quote splitter b

-- the words of the rest of the text
abbrev pub words_of : Splitter → List ℕ → List (List ℕ)
words_of splitter [] = (ended splitter).words
words_of splitter (b ∷ text) = words_of (step splitter b) text

-- Runs of plain bytes outside quotes: the length of the run at the front, and the word with its bytes.

-- whether the splitter is outside of quotes and after no backslash
abbrev pub is_outside : Splitter → Bool
is_outside splitter = not splitter.escaped && is_none splitter.quote

-- how many plain bytes a text has at its front
abbrev pub plain_length : List ℕ → ℕ
plain_length [] = 0
plain_length (b ∷ text) = if is_marked b then 0 else suc (plain_length text)

-- plain bytes join the word at hand
abbrev pub with_bytes : Splitter → List ℕ → Splitter
with_bytes splitter bytes = record splitter { word = Some (open_word splitter.word ++ bytes) }
