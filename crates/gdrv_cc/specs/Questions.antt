use Rattle.drv_compile.specs.declared.calling.Front.TheVariants.{C99, Cxx, Gcc}
use Rattle.drv_compile.specs.declared.calling.Front.{Front}
use Rattle.std.specs.Cmp.Lexicographic.{pointwise}
use Rattle.std.specs.Prelude.{Bool, List, [], ◌∷◌, codes, false, nat_eq, ℕ}

-- A call that asks for what bash reads to complete words (this project's profile; GCC, "opts.cc", has --completion= alone).
-- For clauses of src/completion.rt.

-- whether these words are the one that asks for it
abbrev pub is_completion : List (List ℕ) → Bool
is_completion [] = false
is_completion (word ∷ []) = pointwise nat_eq word (codes "--completion")
is_completion (word ∷ other ∷ words) = false

-- whether a call with these words asks for it: c99 and g++ have no such word
abbrev pub asks_completion : Front → List (List ℕ) → Bool
asks_completion Gcc words = is_completion words
asks_completion C99 words = false
asks_completion Cxx words = false
