use Rattle.drv_args.specs.Expansion.{Itself, Large, Text, file_named, replacement_of}
use Rattle.drv_args.specs.declared.fault.ArgsFault.TheVariants.{Memory, ResponseTooLarge}
use Rattle.drv_args.specs.declared.fault.ArgsFault.{ArgsFault}
use Rattle.drv_system.specs.Facts.{Facts}
use Rattle.drv_system.specs.Known.{Is}
use Rattle.drv_words.specs.Response.{SplitsOnto}
use Rattle.std.specs.List.{list_any}
use Rattle.std.specs.Prelude.{◌≡◌, ◌⊎◌, ◌++◌, Err, List, None, Ok, Option, Result, Some, false, is_some, length, reverse, ℕ}

-- The replacement of one word by the words of its response file, and the words that are done (src/expansion.rt). Only private clauses cite
-- it: `Expands` defines what `expand` returns.

-- a word stays, or the words of its file's text are put behind those that are done, from `start` on, or it is refused
abbrev pub IsReplaced : Facts → List ℕ → List (List ℕ) → List (List ℕ) → Result (Option (List ℕ × ℕ)) ArgsFault → Type 0
IsReplaced F word words words' (Ok None) = (replacement_of F word ≡ Is Itself) × (words' ≡ words)
IsReplaced F word words words' (Ok (Some (path, start))) =
    (start ≡ length words) × ((text : List ℕ) × (replacement_of F word ≡ Is (Text path text)) × SplitsOnto text words words')
IsReplaced F word words words' (Err fault) =
    (fault ≡ Memory) ⊎ ((path : List ℕ) × (replacement_of F word ≡ Is (Large path)) × (fault ≡ ResponseTooLarge path))

-- The words of a file join those that are done if none of them names a file. Otherwise they go onto the stack, with the first on top.
abbrev pub IsPut : List (List ℕ) → List (List ℕ) → List (List ℕ) → List (List ℕ) → List (List ℕ) → Type 0
IsPut inner stack stack' words words' =
    ((list_any (λ word. is_some (file_named word)) inner ≡ false) × (stack' ≡ stack) × (words' ≡ words ++ inner))
    ⊎ ((stack' ≡ stack ++ reverse inner) × (words' ≡ words))
