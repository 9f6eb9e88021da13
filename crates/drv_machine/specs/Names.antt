use Rattle.drv_machine.specs.Context.{Source}
use Rattle.drv_words.specs.FileNames.{split_suffix}
use Rattle.std.specs.Cmp.Lexicographic.{pointwise}
use Rattle.std.specs.Prelude.{Bool, List, Option, None, Some, false, nat_eq, ℕ}

-- An input's suffix and language (GCC manual, "Spec Files": `%{.S:X}`, `%{,S:X}`).

-- the suffix of an input, without its period
abbrev pub suffix_of : Option Source → Option (List ℕ)
suffix_of None = None
suffix_of (Some source) = by (split_suffix source.name)
  where
    by : Option (List ℕ × List ℕ) → Option (List ℕ)
    by None = None
    by (Some parts) = Some parts.1

-- the name of an input's language
abbrev pub language_of : Option Source → Option (List ℕ)
language_of None = None
language_of (Some source) = source.language

-- there is one, and it is this word
abbrev pub is_word : List ℕ → Option (List ℕ) → Bool
is_word word None = false
is_word word (Some other) = pointwise nat_eq word other
