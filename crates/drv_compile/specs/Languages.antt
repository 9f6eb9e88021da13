use Rattle.drv_args.specs.declared.line.Input.TheVariants.{File, Library, LinkWord}
use Rattle.drv_args.specs.declared.line.Input.{Input}
use Rattle.drv_compile.specs.declared.languages.TheConstants.{FOREIGN}
use Rattle.drv_plan.specs.Languages.{Chosen, chosen_for}
use Rattle.drv_plan.specs.declared.fault.PlanFault.{PlanFault}
use Rattle.drv_specs.specs.Sets.{Set}
use Rattle.std.specs.List.{ends_with}
use Rattle.std.specs.Option.{option_map}
use Rattle.std.specs.Prelude.{◌&&◌, Bool, List, [], ◌∷◌, None, Ok, Option, Result, Some, false, find, if◌then◌else◌, length, map, nat_eq}
use Rattle.std.specs.Prelude.{nat_lt, true, ℕ}

-- Sources in languages that gcc compiles and this program doesn't, unless a spec file has texts for their suffixes (GCC manual, "Overall
-- Options"; "gcc.cc", default_compilers, and "cp/lang-specs.h" for headers of C++). The suffixes of C++ and Objective-C are in drv_specs
-- (specs/Builtin.antt).
-- For clauses of src/languages.rt and src/running.rt.

-- a suffix, and the language of the sources that have it
unfoldable pub foreign_suffixes : List (List ℕ × List ℕ)
foreign_suffixes = map (λ row. (row.0.now, row.1.now)) FOREIGN

-- whether a name ends with a suffix, and has more than that
abbrev pub ends_so : List ℕ → List ℕ → Bool
ends_so name suffix = nat_lt (length suffix) (length name) && ends_with nat_eq name suffix

-- the language of a name by its suffix, if it is one of these
abbrev pub language_by : List ℕ → Option (List ℕ)
language_by name = option_map (λ row. row.1) (find (λ row. ends_so name row.0) foreign_suffixes)

-- the language of an input by its name
abbrev pub language_of : Input → Option (List ℕ)
language_of (File name given) = language_by name
language_of (Library word) = None
language_of (LinkWord word) = None

-- whether the specs leave an input to the linker: neither -x nor its suffix makes it a source
abbrev pub is_linkers : Result (Option Chosen) PlanFault → Bool
is_linkers (Ok None) = true
is_linkers _ = false

-- a language that no spec file serves: the input would be left to the linker, which can't read it
abbrev pub unserved_in : Set → Input → Option (List ℕ) → Option (List ℕ)
unserved_in set input None = None
unserved_in set input (Some language) = if is_linkers (chosen_for set input) then Some language else None

-- the language of an input, if no spec file serves it
abbrev pub unserved : Set → Input → Option (List ℕ)
unserved set input = unserved_in set input (language_of input)

-- the first language of two
abbrev pub or_next : Option (List ℕ) → Option (List ℕ) → Option (List ℕ)
or_next None next = next
or_next (Some language) next = Some language

-- the first language of inputs that no spec file serves
abbrev pub first_unserved : Set → List Input → Option (List ℕ)
first_unserved set [] = None
first_unserved set (input ∷ inputs) = or_next (unserved set input) (first_unserved set inputs)
