use Rattle.drv_words.specs.Bytes.{newline, space}
use Rattle.drv_words.specs.Checksums.{checksum}
use Rattle.drv_words.specs.FileNames.{split_at_last}
use Rattle.drv_compile.specs.Calling.{before_ending}
use Rattle.std.specs.Cmp.Lexicographic.{pointwise}
use Rattle.std.specs.Fmt.{decimal}
use Rattle.std.specs.Option.{option_and_then}
use Rattle.std.specs.Prelude.{◌+◌, List, [], ◌∷◌, ◌++◌, None, Option, Some, codes, if◌then◌else◌, length, nat_eq, take, ℕ}

-- A file that the command for spec files writes is whole where its last line is its mark, which says how many bytes precede it and their
-- sum (this project's profile). A file that was cut short or changed, or to which something was added, has another last line.
-- For clauses of src/written.rt, src/naming.rt and src/finding.rt.

-- how many bytes there are, and their sum
abbrev pub numbers : List ℕ → List ℕ
numbers bytes = decimal (length bytes) ++ space ∷ decimal (checksum bytes)

-- the last line of a whole file that has these bytes before it
abbrev pub mark : List ℕ → List ℕ
mark before = codes "# whole " ++ numbers before

-- the lines of a text before its last one, without the newline that ends them, where the last one is their mark
abbrev pub marked : List ℕ → List ℕ × List ℕ → Option (List ℕ)
marked text parts = if pointwise nat_eq parts.1 (mark (take (length parts.0 + 1) text)) then Some parts.0 else None

-- the lines of a file without its mark, if the mark fits
abbrev pub whole_lines : List ℕ → Option (List ℕ)
whole_lines text = option_and_then (marked text) (option_and_then (split_at_last newline) (before_ending (newline ∷ []) text))
