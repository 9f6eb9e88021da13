use Rattle.drv_compile.specs.declared.host.HostEvent.TheVariants.{Tried}
use Rattle.drv_compile.specs.declared.host.HostEvent.{HostEvent}
use Rattle.drv_system.specs.Facts.{Facts, kind_of, read_of, variable_of}
use Rattle.drv_system.specs.Known.{◌>>=◌, Is, Known, asked}
use Rattle.std.specs.Prelude.{◌≡◌, ◌≢◌, Bool, List, [], ◌∷◌, ◌++◌, None, Option, Some, codes, false, true, ℕ}

-- The folder of temporaries (GCC manual, "Environment Variables", TMPDIR; GCC, "libiberty/make-temp-file.c", choose_tmpdir).
-- For clauses of src/temp_folder.rt.

-- the names that may be its, in their order; a variable that is not set has none
abbrev pub if_set : Option (List ℕ) → List (List ℕ)
if_set None = []
if_set (Some name) = name ∷ []

-- the name that a variable has for the folder, if it is set
abbrev pub named_by : Facts → List ℕ → Known (List (List ℕ))
named_by F variable = asked (variable_of F variable) >>= λ value. Is (if_set value)

-- the folders that every system has for temporaries
abbrev pub folders_of_all : List (List ℕ)
folders_of_all = codes "/tmp" ∷ codes "/var/tmp" ∷ []

-- the names that may be the folder's: of TMPDIR, TMP and TEMP, and then the system's
abbrev pub folder_names : Facts → Known (List (List ℕ))
folder_names F =
    named_by F (codes "TMPDIR") >>= λ tmpdir. named_by F (codes "TMP") >>= λ tmp. named_by F (codes "TEMP") >>= λ temp.
    Is (tmpdir ++ tmp ++ temp ++ folders_of_all)

-- The host is asked for each name, up to the first that is a folder in which files can be made. Where none is, the folder of the call is.
pub data Chooses : List (List ℕ) → List HostEvent → List ℕ → Type 0 where
  own : Chooses [] [] (codes ".")
  usable : {name : List ℕ} {names : List (List ℕ)} → Chooses (name ∷ names) (Tried name true ∷ []) name
  unusable : {name folder : List ℕ} {names : List (List ℕ)} {events : List HostEvent} → Chooses names events folder
      → Chooses (name ∷ names) (Tried name false ∷ events) folder

-- Where memory lacks before one is chosen, the host was asked for some of them, one after another, and none but the last was usable.
pub data Tries : List (List ℕ) → List HostEvent → Type 0 where
  tries_none : {names : List (List ℕ)} → Tries names []
  tries_last : {name : List ℕ} {names : List (List ℕ)} {answer : Bool} → Tries (name ∷ names) (Tried name answer ∷ [])
  tries_next : {name : List ℕ} {names : List (List ℕ)} {events : List HostEvent} → Tries names events
      → Tries (name ∷ names) (Tried name false ∷ events)

-- Facts that answer as others do, but for the value of TMPDIR, which is a folder.
pub record IsSettled (F : Facts) (folder : List ℕ) (G : Facts) : Type 0 where
  pub reads : (path : List ℕ) → read_of G path ≡ read_of F path
  pub kinds : (path : List ℕ) → kind_of G path ≡ kind_of F path
  pub variables : (name : List ℕ) → name ≢ codes "TMPDIR" → variable_of G name ≡ variable_of F name
  pub folder_is : variable_of G (codes "TMPDIR") ≡ Some (Some folder)
