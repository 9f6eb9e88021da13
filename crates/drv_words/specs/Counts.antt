use Rattle.drv_words.specs.Code.Splitter.{following, words_of}
use Rattle.std.specs.Prelude.{List, [], length, ℕ}

-- The number of words of a response file's text. `one_list_of_words` proves that the grammar `Splits` gives the text that many.
abbrev pub words_in : List ℕ → ℕ
words_in text = length (words_of (following []) text)
