use Rattle.drv_words.specs.Bytes.{colon, newline, asterisk}
use Rattle.drv_specs.specs.Sets.{Set, appends}
use Rattle.std.specs.List.{list_all}
use Rattle.std.specs.Prelude.{◌≡◌, List, [], ◌∷◌, ◌++◌, flat_map, not, true, ℕ}

-- The text of a set (GCC manual, "-dumpspecs"; that the pairs are in it is this project's profile).

-- the text of an entry: its name or key, a colon, its text, an empty line
abbrev pub entry_text : List ℕ × List ℕ → List ℕ
entry_text entry = entry.0 ++ (colon ∷ newline ∷ []) ++ entry.1 ++ (newline ∷ newline ∷ [])

-- a named text has an asterisk before its name
abbrev pub named_text : List ℕ × List ℕ → List ℕ
named_text entry = asterisk ∷ entry_text entry

-- the named texts of a set, then its pairs
abbrev pub dumped : Set → List ℕ
dumped set = flat_map named_text set.named ++ flat_map entry_text set.pairs

-- no named text is one that as a body would append
abbrev pub Plain : Set → Type 0
Plain set = list_all (λ entry. not (appends entry.1)) set.named ≡ true

-- a set with its pairs once more after them
abbrev pub doubled : Set → Set
doubled set = record set { pairs = set.pairs ++ set.pairs }
