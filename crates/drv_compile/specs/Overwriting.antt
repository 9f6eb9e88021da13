use Rattle.drv_args.specs.declared.items.Item.{Item}
use Rattle.drv_args.specs.declared.option_table.Effect.TheVariants as effect
use Rattle.drv_args.specs.declared.option_table.Effect.{Effect}
use Rattle.drv_cc.specs.Items.{is_among}
use Rattle.drv_cc.specs.Table.{texts}
use Rattle.drv_cc.specs.declared.answer.Call.{Call}
use Rattle.drv_compile.specs.Places.{may_link}
use Rattle.drv_compile.specs.Reading.{folders_given, specs_given}
use Rattle.drv_compile.specs.Suffixes.{is_no_file}
use Rattle.drv_compile.specs.declared.host.HostEvent.TheVariants.{Resolved}
use Rattle.drv_compile.specs.declared.host.HostEvent.{HostEvent}
use Rattle.drv_compile.specs.declared.overwriting.Clash.{Clash}
use Rattle.drv_compile.specs.declared.overwriting.FileRead.{FileRead}
use Rattle.drv_compile.specs.declared.overwriting.ReadAs.TheVariants.{Input, Response, Specs}
use Rattle.drv_compile.specs.declared.overwriting.ReadAs.{ReadAs}
use Rattle.drv_words.specs.Bytes.{slash}
use Rattle.std.specs.Cmp.Lexicographic.{pointwise}
use Rattle.std.specs.List.{ends_with, filter_map, flat_map, list_any, starts_with}
use Rattle.std.specs.Prelude.{◌≡◌, ◌||◌, Bool, List, [], ◌∷◌, ◌++◌, None, Option, Some, codes, drop, false, if◌then◌else◌, length, map}
use Rattle.std.specs.Prelude.{nat_eq, true, ℕ}

-- Whether a file that a line writes is one that it reads, by whatever path (GCC, "gcc.cc", process_command: canonical_filename_eq). A
-- failed command removes its output, so the files of -specs= and response files count as inputs do, and so do outputs that no -o names.
-- For clauses of src/overwriting.rt and src/preparing.rt.

-- a file that is read as this
abbrev pub file_read : ReadAs → List ℕ → FileRead
file_read read_as name = record { read_as = read_as; name = name }

-- Without a link an object is not read, and the output of a source may take its place. gcc still refuses the line if -o names it. After -x
-- a name says nothing.

-- whether an item names the output, or the language of the files after it
abbrev pub decides : Effect → Bool
decides effect.Output = true
decides effect.Language = true
decides _ = false

-- whether each input counts
abbrev pub reads_all : Call → Bool
reads_all call = may_link call.stages || list_any (λ i. decides i.effect) call.items

-- whether an input is for a link, by its name
abbrev pub is_left : List ℕ → Bool
is_left name = ends_with nat_eq name (codes ".o")

-- an input, unless it is left to a link
abbrev pub read_or_left : List ℕ → List FileRead
read_or_left name = if is_left name then [] else file_read Input name ∷ []

-- the inputs that a line reads
abbrev pub inputs_read : Call → List FileRead
inputs_read call = if reads_all call then map (file_read Input) call.inputs else flat_map read_or_left call.inputs

-- a file in a folder
abbrev pub in_folder : List ℕ → List ℕ → List ℕ
in_folder folder name = folder ++ slash ∷ name

-- the spec files of -specs=, by their names and in each folder of -B, along which gcc looks for them
abbrev pub specs_read : List Item → List (List ℕ)
specs_read items = specs_given items ++ flat_map (λ folder. map (in_folder folder) (specs_given items)) (folders_given items)

-- the files that a line reads: its inputs, its spec files, and these response files
abbrev pub files_read : Call → List (List ℕ) → List FileRead
files_read call responses =
    inputs_read call ++ map (file_read Specs) (specs_read call.items) ++ map (file_read Response) responses

-- how the word begins that names the file of dependencies of a source
abbrev pub dependencies_word : List ℕ
dependencies_word = codes "--gdrv-dep="

-- the file of dependencies that such a word names
abbrev pub dependencies : List ℕ → Option (List ℕ)
dependencies option =
    if starts_with nat_eq option dependencies_word then Some (drop (length dependencies_word) option) else None

-- the file beside the output that an item names: for dependencies, or for the prototypes of functions
abbrev pub side_file : Item → Option (List ℕ)
side_file i = if is_among (texts (codes "-MF -aux-info")) i.option then Some i.argument else dependencies i.option

-- the files that a line writes: its outputs, and those that its options name
abbrev pub files_written : Call → List (List ℕ)
files_written call = call.outputs ++ filter_map side_file call.items

-- The first of several that a search finds, with what the host was asked for each up to that one. `Step` is the search for one.
pub data First {A B : Type 0} (Step : A → List HostEvent → Option B → Type 0) : List A → List HostEvent → Option B → Type 0 where
  none_left : First Step [] [] None
  at_it : {x : A} {xs : List A} {events : List HostEvent} {found : B} → Step x events (Some found) → First Step (x ∷ xs) events (Some found)
  further : {x : A} {xs : List A} {events more : List HostEvent} {found : Option B} → Step x events None → First Step xs more found
      → First Step (x ∷ xs) (events ++ more) found

-- whether a name leads to this path
abbrev pub is_at : List ℕ → Option (List ℕ) → Bool
is_at path None = false
is_at path (Some found) = pointwise nat_eq found path

-- whether a file that is read is the one at this path, by the host's answer for its name
abbrev pub IsAt : List ℕ → FileRead → List HostEvent → Option ReadAs → Type 0
IsAt path file events found =
    (answer : Option (List ℕ)) × (events ≡ Resolved file.name answer ∷ [])
    × (found ≡ (if is_at path answer then Some file.read_as else None))

-- an output that is read, and as what
abbrev pub clash_of : List ℕ → Option ReadAs → Option Clash
clash_of output None = None
clash_of output (Some read_as) = Some (record { output = output; read_as = read_as })

-- whether an output is a file that is read: the host is asked where it leads, and then each file read does, up to the first that leads
-- there
pub data IsRead (files : List FileRead) (output : List ℕ) : List HostEvent → Option Clash → Type 0 where
  no_file : is_no_file output ≡ true → IsRead files output [] None
  new_output : is_no_file output ≡ false → IsRead files output (Resolved output None ∷ []) None
  old_output : {path : List ℕ} {events : List HostEvent} {found : Option ReadAs} → is_no_file output ≡ false
      → First (IsAt path) files events found → IsRead files output (Resolved output (Some path) ∷ events) (clash_of output found)

-- the first output that is a file that is read
abbrev pub Overwrites : List FileRead → List (List ℕ) → List HostEvent → Option Clash → Type 0
Overwrites files outputs events found = First (IsRead files) outputs events found
