use Rattle.bstr.specs.Find.{first_of as first_match, rmatches}
use Rattle.drv_cc.specs.Table.{texts}
use Rattle.drv_cc.specs.declared.answer.Variable.{Variable}
use Rattle.drv_compile.specs.Compilers.{values}
use Rattle.drv_compile.specs.Decides.{first_of}
use Rattle.drv_compile.specs.Texts.{is}
use Rattle.drv_words.specs.Bytes.{space}
use Rattle.std.specs.List.{list_any, starts_with}
use Rattle.std.specs.Prelude.{Bool, List, ◌∷◌, None, Option, Some, codes, drop, false, if◌then◌else◌, length, map, nat_eq, take, ℕ}

-- What a gcc before release 11 doesn't give its children: how the names of side files begin. Since then COLLECT_GCC_OPTIONS ends in -dumpdir
-- (GCC 11, "gcc.c", set_collect_gcc_options). The file beside the spec file has what the compiler says of itself: `said gcc version 5.4.0`.
-- For clauses of src/releases.rt and src/driving.rt.

-- whether a version is that of such a release
abbrev pub is_early_version : List ℕ → Bool
is_early_version version = list_any (starts_with nat_eq version) (texts (codes "3. 4. 5. 6. 7. 8. 9. 10."))

-- whether the compiler is of such a release; where it says no version, it isn't
abbrev pub is_early_by : Option (List ℕ) → Bool
is_early_by None = false
is_early_by (Some version) = is_early_version version

-- the same, by a text about the compiler
abbrev pub is_early : List ℕ → Bool
is_early about = is_early_by (first_of (values (codes "said gcc version ") about))

-- what a text has before a place in it, or the whole text
abbrev pub text_before : List ℕ → Option ℕ → List ℕ
text_before text None = text
text_before text (Some at) = take at text

-- what a text has before the last place where a part of it is
abbrev pub before_last : List ℕ → List ℕ → List ℕ
before_last part text = text_before text (first_match (rmatches text part (length text)))

-- the switches of a line, which are between quotes, without -dumpdir and its argument at their end
abbrev pub without_dumps : List ℕ → List ℕ
without_dumps text = drop 1 (before_last (codes " '-dumpdir' '") (space ∷ text))

-- a variable of the children of such a compiler
abbrev pub early_variable : Variable → Variable
early_variable v = record v { value = if is v.name (codes "COLLECT_GCC_OPTIONS") then without_dumps v.value else v.value }

-- the variables of the children, by a text about the compiler
abbrev pub children_by : List ℕ → List Variable → List Variable
children_by about children = if is_early about then map early_variable children else children
