use Rattle.drv_words.specs.Bytes.{slash}
use Rattle.drv_compile.specs.declared.calling.Calling.{Calling}
use Rattle.drv_compile.specs.declared.calling.Front.TheVariants.{C99, Cxx, Gcc}
use Rattle.std.specs.Cmp.Lexicographic.{pointwise}
use Rattle.std.specs.List.{ends_with}
use Rattle.std.specs.Prelude.{◌==◌, ◌-◌, ◌||◌, Bool, List, [], ◌∷◌, None, Option, Some, codes, drop, if◌then◌else◌, length, nat_eq, take, ℕ}

-- By which name the program was called, and what that means (this project's profile).
-- For clauses of src/calling.rt.

-- what follows the last slash of further bytes; `part` is what there was before them, and stays where they have no slash
abbrev pub last_from : List ℕ → List ℕ → List ℕ
last_from part [] = part
last_from part (b ∷ bs) = last_from (if b == slash then bs else part) bs

-- what follows the last slash of a path: the name by which the program was called
abbrev pub last_part : List ℕ → List ℕ
last_part path = last_from path path

-- the path before that name, with its slash
abbrev pub folder : List ℕ → List ℕ
folder path = take (length path - length (last_part path)) path

-- a name, unless it is empty: -gdrv-cc alone names no machine
abbrev pub not_empty : List ℕ → Option (List ℕ)
not_empty [] = None
not_empty (b ∷ bs) = Some (b ∷ bs)

-- what precedes an ending of a name, if the name has it
abbrev pub before_ending : List ℕ → List ℕ → Option (List ℕ)
before_ending ending name =
    if pointwise nat_eq (drop (length name - length ending) name) ending then Some (take (length name - length ending) name) else None

-- a name that was found, unless it is empty
abbrev pub and_not_empty : Option (List ℕ) → Option (List ℕ)
and_not_empty None = None
and_not_empty (Some name) = not_empty name

-- what precedes one of two endings, the second tried where the first isn't there
abbrev pub or_before : List ℕ → List ℕ → Option (List ℕ) → Option (List ℕ)
or_before ending name None = before_ending ending name
or_before ending name (Some stem) = Some stem

-- the machine that the program's name names, before -gdrv-cc or -gdrv-gcc
abbrev pub machine_of : List ℕ → Option (List ℕ)
machine_of name = and_not_empty (or_before (codes "-gdrv-gcc") name (before_ending (codes "-gdrv-cc") name))

-- whether the program was called as POSIX' c99
abbrev pub is_c99 : List ℕ → Bool
is_c99 name = pointwise nat_eq name (codes "c99") || pointwise nat_eq name (codes "c99-gdrv")

-- whether the program was called as a compiler of C++ (g++)
abbrev pub is_cxx : List ℕ → Bool
is_cxx name = ends_with nat_eq name (codes "++")

-- how it was called by another name: for a machine, or for the host
abbrev pub for_machine : List ℕ → Option (List ℕ) → Calling
for_machine name None = record { name = codes "gdrv-cc"; machine = codes "host"; front = Gcc }
for_machine name (Some machine) = record { name = name; machine = machine; front = Gcc }

-- how it was called by this name; in messages it has the name that the user typed, or gdrv-cc
abbrev pub calling_by_name : List ℕ → Calling
calling_by_name name =
    if is_c99 name then record { name = name; machine = codes "host"; front = C99 }
    else if is_cxx name then record { name = name; machine = codes "host"; front = Cxx }
    else for_machine name (machine_of name)

-- how it was called at this path
abbrev pub calling_of : List ℕ → Calling
calling_of path = calling_by_name (last_part path)
