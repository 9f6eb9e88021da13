use Rattle.drv_compile.specs.Compilers.{lines}
use Rattle.std.specs.List.{starts_with}
use Rattle.std.specs.Prelude.{◌||◌, Bool, List, [], None, Option, Some, length, nat_eq, suc, zero, ℕ}

-- How the code goes over the lines of a text: what is left of it. Only private clauses of src/compilers.rt cite it.
-- Names: `text` is a text, and `lines` its lines (specs/Compilers). `one` and `other` are two keys.

-- the lines that are left, of a text or of none
abbrev pub lines_from : Option (List ℕ) → List (List ℕ)
lines_from None = []
lines_from (Some text) = lines text

-- how much is left, which falls with each line: the loop over lines ends by it
abbrev pub size_left : Option (List ℕ) → ℕ
size_left None = zero
size_left (Some text) = suc (length text)

-- whether a line begins with one of two keys
abbrev pub begins_with : List ℕ → List ℕ → List ℕ → Bool
begins_with one other line = starts_with nat_eq line one || starts_with nat_eq line other
