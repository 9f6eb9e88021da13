use Rattle.drv_specs.specs.Lines.{ends_line}
use Rattle.drv_words.specs.Bytes.{newline}
use Rattle.drv_words.specs.FileNames.{split_at_last}
use Rattle.std.specs.List.{position}
use Rattle.std.specs.Prelude.{◌+◌, List, None, Option, Some, drop, filter, length, take, ℕ}

-- The line of a text that has a byte (GNU coding standards, "Formatting Error Messages").

-- the number of the line that has the byte at this place, from 1
abbrev pub line_number : List ℕ → ℕ → ℕ
line_number text at = length (filter ends_line (take at text)) + 1

-- what precedes the byte in it: the column, from 1, is one more than its length

-- what follows the last newline of a front
abbrev pub after_newline : List ℕ → Option (List ℕ × List ℕ) → List ℕ
after_newline front None = front
after_newline front (Some parts) = parts.1

-- the part of the line before a byte
abbrev pub line_before : List ℕ → ℕ → List ℕ
line_before text at = after_newline (take at text) (split_at_last newline (take at text))

-- its rest from the byte on

-- the part before a newline
abbrev pub up_to : Option ℕ → List ℕ → List ℕ
up_to None back = back
up_to (Some end) back = take end back

-- the part of the line from the byte on
abbrev pub line_after : List ℕ → ℕ → List ℕ
line_after text at = up_to (position ends_line (drop at text)) (drop at text)
