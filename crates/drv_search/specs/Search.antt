use Rattle.drv_words.specs.Bytes.{slash}
use Rattle.drv_search.specs.declared.fault.SearchFault.TheVariants.{ScriptMissing}
use Rattle.drv_search.specs.declared.fault.SearchFault.{SearchFault}
use Rattle.drv_search.specs.declared.prefixes.Prefixes.{Prefixes}
use Rattle.drv_system.specs.Facts.{Facts, kind_of}
use Rattle.drv_system.specs.Known.{◌>>=◌, Is, Known, asked}
use Rattle.drv_system.specs.declared.event.PathKind.TheVariants.{Dir, Missing, Other, Plain}
use Rattle.drv_system.specs.declared.event.PathKind.{PathKind}
use Rattle.std.specs.List.{ends_with, list_any}
use Rattle.std.specs.Prelude.{◌≡◌, ◌-◌, ◌==◌, ◌∷◌, ◌++◌, ◌||◌, Bool, Err, List, [], None, Ok, Option, Result, Some, codes, false, flat_map}
use Rattle.std.specs.Prelude.{if◌then◌else◌, length, nat_eq, take, true, ℕ}

-- Where programs and files are searched for (GCC manual, "Directory Options", -B and -L). Which folders are always searched is this
-- project's profile.

-- whether a path ends with a slash
abbrev pub ends_with_slash : List ℕ → Bool
ends_with_slash path = ends_with nat_eq path (slash ∷ [])

-- the folder of the machine under a prefix
abbrev pub machine_folder : List ℕ
machine_folder = codes "generic-elf/13/"

-- The prefixes of -B.

-- a folder gets a slash at its end if it lacks one
abbrev pub prefix_for : List ℕ → PathKind → List ℕ
prefix_for dir Dir = dir ++ slash ∷ []
prefix_for dir Plain = dir
prefix_for dir Other = dir
prefix_for dir Missing = dir

-- an argument that is empty or ends with a slash is a prefix already
abbrev pub is_prefix : List ℕ → Bool
is_prefix dir = length dir == 0 || ends_with_slash dir

-- the prefix of -B's argument: as it is if it has the form of one, else by the kind of the path
abbrev pub prefix_of : Facts → List ℕ → Known (List ℕ)
prefix_of F dir = if is_prefix dir then Is dir else (asked (kind_of F dir) >>= λ kind. Is (prefix_for dir kind))

-- the prefixes of all -B, in order
abbrev pub given_of : Facts → List (List ℕ) → Known (List (List ℕ))
given_of F [] = Is []
given_of F (dir ∷ dirs) = prefix_of F dir >>= λ prefix. given_of F dirs >>= λ prefixes. Is (prefix ∷ prefixes)

-- The two lists of prefixes: those of -B, and the folders after them.

-- the prefixes that are always searched for programs, after those of -B
abbrev pub program_folders : List (List ℕ)
program_folders = codes "/usr/lib/gcc/" ∷ codes "/usr/local/lib/gcc/" ∷ []

-- and for files and libraries
abbrev pub library_folders : List (List ℕ)
library_folders = codes "/usr/lib/gcc/" ∷ codes "/usr/local/lib/gcc/" ∷ codes "/lib/" ∷ codes "/usr/lib/" ∷ []

-- the prefixes of a line with these -B
abbrev pub prefixes_of : Facts → List (List ℕ) → Known Prefixes
prefixes_of F dirs = given_of F dirs >>= λ given. Is (record { programs = given ++ program_folders; libraries = given ++ library_folders })

-- The candidates for a name, and the result: the first plain file.

-- under a prefix the machine's folder comes first
abbrev pub candidates_under : List ℕ → List ℕ → List (List ℕ)
candidates_under name prefix = (prefix ++ machine_folder ++ name) ∷ (prefix ++ name) ∷ []

-- all candidates for a name
abbrev pub candidates : List (List ℕ) → List ℕ → List (List ℕ)
candidates prefixes name = flat_map (candidates_under name) prefixes

-- whether a path is a plain file; only such a one is found
abbrev pub is_plain : PathKind → Bool
is_plain Plain = true
is_plain Dir = false
is_plain Other = false
is_plain Missing = false

-- the first candidate that is a plain file
abbrev pub found : Facts → List (List ℕ) → Known (Option (List ℕ))
found F [] = Is None
found F (path ∷ paths) = asked (kind_of F path) >>= λ kind. if is_plain kind then Is (Some path) else found F paths

-- a name that is empty or has a slash is not searched for
abbrev pub is_searched : List ℕ → Bool
is_searched [] = false
is_searched (b ∷ name) = if list_any (λ c. c == slash) (b ∷ name) then false else true

-- the file that was found, or else the name
abbrev pub or_name : List ℕ → Option (List ℕ) → List ℕ
or_name name None = name
or_name name (Some path) = path

-- the path that was found, or else the name as it is
abbrev pub found_or_name : Facts → List (List ℕ) → List ℕ → Known (List ℕ)
found_or_name F prefixes name = if is_searched name then (found F (candidates prefixes name) >>= λ hit. Is (or_name name hit)) else Is name

-- a program is searched for under the prefixes of programs
abbrev pub program_found : Facts → Prefixes → List ℕ → Known (List ℕ)
program_found F prefixes name = found_or_name F prefixes.programs name

-- a file is searched for under those of libraries
abbrev pub file_found : Facts → Prefixes → List ℕ → Known (List ℕ)
file_found F prefixes name = found_or_name F prefixes.libraries name

-- the candidates for a linker script: a name with a slash is the only one
abbrev pub script_places : Prefixes → List ℕ → List (List ℕ)
script_places prefixes name = if list_any (λ c. c == slash) name then name ∷ [] else candidates prefixes.libraries name

-- a linker script that isn't found is refused
abbrev pub script_or_fault : List ℕ → Option (List ℕ) → Result (List ℕ) SearchFault
script_or_fault name None = Err (ScriptMissing name)
script_or_fault name (Some path) = Ok path

-- the path of a linker script
abbrev pub script_found : Facts → Prefixes → List ℕ → Known (Result (List ℕ) SearchFault)
script_found F prefixes name = found F (script_places prefixes name) >>= λ hit. Is (script_or_fault name hit)

-- The folders of libraries, as options: without the slash at their end, except for the root.

-- whether a path is a folder
abbrev pub is_dir : PathKind → Bool
is_dir Dir = true
is_dir Plain = false
is_dir Other = false
is_dir Missing = false

-- a path without its last byte, except for the root
abbrev pub without_slash : List ℕ → List ℕ
without_slash [] = []
without_slash (b ∷ []) = b ∷ []
without_slash (b ∷ c ∷ path) = take (length (b ∷ c ∷ path) - 1) (b ∷ c ∷ path)

-- the folders under a prefix: the machine's first; a prefix that is no folder has no other
abbrev pub folders_under : List ℕ → List (List ℕ)
folders_under prefix = without_slash (prefix ++ machine_folder) ∷ (if ends_with_slash prefix then without_slash prefix ∷ [] else [])

-- -L and the folder, if it is there
abbrev pub option_for : List ℕ → PathKind → List (List ℕ)
option_for folder kind = if is_dir kind then (codes "-L" ++ folder) ∷ [] else []

-- the options of all folders that are there
abbrev pub options_for : Facts → List (List ℕ) → Known (List (List ℕ))
options_for F [] = Is []
options_for F (folder ∷ folders) =
    asked (kind_of F folder) >>= λ kind. options_for F folders >>= λ options. Is (option_for folder kind ++ options)

-- the options of a line's prefixes, as %D puts them
abbrev pub folder_options : Facts → Prefixes → Known (List (List ℕ))
folder_options F prefixes = options_for F (flat_map folders_under prefixes.libraries)

-- the list to which these options were added
abbrev pub Adds : Known (List (List ℕ)) → List (List ℕ) → List (List ℕ) → Type 0
Adds more before after = (options : List (List ℕ)) × (more ≡ Is options) × (after ≡ before ++ options)
