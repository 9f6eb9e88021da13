use Rattle.drv_words.specs.FileNames.{base, split_at_last}
use Rattle.gdrv_write_specs.specs.declared.calling.Call.TheVariants.{Help, Row, Version, Write}
use Rattle.gdrv_write_specs.specs.declared.calling.Call.{Call}
use Rattle.gdrv_write_specs.specs.declared.calling.CallFault.TheVariants.{Misused, NotSpecs}
use Rattle.gdrv_write_specs.specs.declared.calling.CallFault.{CallFault}
use Rattle.gdrv_write_specs.specs.declared.calling.Fate.TheVariants.{Added, Printed}
use Rattle.gdrv_write_specs.specs.declared.calling.Fate.{Fate}
use Rattle.gdrv_write_specs.specs.declared.calling.Manner.TheVariants.{Compared, Forced}
use Rattle.gdrv_write_specs.specs.declared.calling.Manner.{Manner}
use Rattle.std.specs.Cmp.Lexicographic.{pointwise}
use Rattle.std.specs.List.{ends_with, list_all, starts_with}
use Rattle.std.specs.Prelude.{◌&&◌, ◌++◌, Bool, Err, List, [], ◌∷◌, None, Ok, Option, Result, Some, codes, if◌then◌else◌, length, nat_eq}
use Rattle.std.specs.Prelude.{nat_lt, ℕ}

-- What a call of the program asks for: [--force] [-o X.specs] GCC [OPTION..], or --add X.specs OPTION.., or --row X.specs OPTION.. (this
-- project's profile).

-- a name before the ending, which a slash isn't the last byte of
abbrev pub is_specs : List ℕ → Bool
is_specs path = ends_with nat_eq path (codes ".specs") && nat_lt 6 (length path)

abbrev pub is_option : List ℕ → Bool
is_option word = starts_with nat_eq word (codes "-")

-- the part of a gcc's name before "-gcc"; else the whole name
abbrev pub before_gcc : List ℕ → Option (List ℕ × List ℕ) → List ℕ
before_gcc name (Some (target, rest)) = if pointwise nat_eq rest (codes "gcc") then target else name
before_gcc name None = name

-- the machine of a gcc of this name, as an installation names its spec file
abbrev pub target_of : List ℕ → List ℕ
target_of name = if pointwise nat_eq name (codes "gcc") then codes "host" else before_gcc name (split_at_last 45 name)

-- the spec file of a gcc for which the call names none: in the current folder
abbrev pub usual_output : List ℕ → List ℕ
usual_output gcc = target_of (base gcc) ++ codes ".specs"

abbrev pub written_to : Manner → List ℕ → List ℕ → List (List ℕ) → Result Call CallFault
written_to manner output gcc options =
    if is_specs output then Ok (Write (record { manner = manner; output = output; gcc = gcc; options = options }))
    else Err (NotSpecs output)

-- a gcc, and options for a machine after it
abbrev pub named_order_of : Manner → List ℕ → List (List ℕ) → Result Call CallFault
named_order_of manner output [] = Err Misused
named_order_of manner output (gcc ∷ options) =
    if is_option gcc then Err Misused
    else if list_all is_option options then written_to manner output gcc options else Err Misused

abbrev pub usual_order_of : Manner → List (List ℕ) → Result Call CallFault
usual_order_of manner [] = Err Misused
usual_order_of manner (gcc ∷ options) = named_order_of manner (usual_output gcc) (gcc ∷ options)

abbrev pub order_of : Manner → List (List ℕ) → Result Call CallFault
order_of manner [] = Err Misused
order_of manner (gcc ∷ []) = usual_order_of manner (gcc ∷ [])
order_of manner (word ∷ next ∷ words) =
    if pointwise nat_eq word (codes "-o") then named_order_of manner next words
    else usual_order_of manner (word ∷ next ∷ words)

-- the options for a machine whose words are asked for, at least one
abbrev pub row_of : Fate → List ℕ → List (List ℕ) → Result Call CallFault
row_of fate path options = if is_specs path then Ok (Row fate path options) else Err (NotSpecs path)

abbrev pub row_order_of : Fate → List (List ℕ) → Result Call CallFault
row_order_of fate (path ∷ option ∷ options) = row_of fate path (option ∷ options)
row_order_of fate (path ∷ []) = Err Misused
row_order_of fate [] = Err Misused

abbrev pub question_of : List ℕ → Result Call CallFault
question_of word =
    if pointwise nat_eq word (codes "--help") then Ok Help else if pointwise nat_eq word (codes "--version") then Ok Version
    else order_of Compared (word ∷ [])

abbrev pub call_of : List (List ℕ) → Result Call CallFault
call_of [] = Err Misused
call_of (word ∷ []) = question_of word
call_of (word ∷ next ∷ words) =
    if pointwise nat_eq word (codes "--force") then order_of Forced (next ∷ words)
    else if pointwise nat_eq word (codes "--add") then row_order_of Added (next ∷ words)
    else if pointwise nat_eq word (codes "--row") then row_order_of Printed (next ∷ words)
    else order_of Compared (word ∷ next ∷ words)
