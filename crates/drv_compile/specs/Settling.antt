use Rattle.drv_compile.specs.TempFolder.{Chooses, IsSettled, Tries, folder_names}
use Rattle.drv_compile.specs.declared.host.HostEvent.{HostEvent}
use Rattle.drv_system.specs.Asking.{AreNew, Extends}
use Rattle.drv_system.specs.Facts.{Facts, learn, no_facts}
use Rattle.drv_system.specs.Known.{Is}
use Rattle.drv_system.specs.declared.event.Event.{Event}
use Rattle.std.specs.Prelude.{◌≡◌, ◌⊎◌, List, [], ◌++◌, ℕ}

-- What a call goes by while it asks, of two journals. For clauses of src/temp_folder.rt and src/compiling.rt.
-- Names: `F` is what is known of the outside, and `G` that with the folder. `names` is the names that may be the folder's. `events` is what
-- the host was asked. `journal` and `notes` are the events of the system and of the host before, and `journal'` and `notes'` after. `asked`
-- and `tried` are what was added to these. `AreNew F asked`: none of these questions was answered before. `learn F asked`: F with their
-- answers.

-- a folder of temporaries, by these facts and all that extend them
abbrev pub IsFolder : Facts → List HostEvent → List ℕ → Type 0
IsFolder F events folder = (names : List (List ℕ)) × (folder_names F ≡ Is names) × Chooses names events folder

-- what the host was asked for, by these facts and all that extend them: nothing, or some of the names
abbrev pub IsTried : Facts → List HostEvent → Type 0
IsTried F events = (events ≡ []) ⊎ ((names : List (List ℕ)) × (folder_names F ≡ Is names) × Tries names events)

-- What was asked since a journal began: first for the folder of temporaries, of the system and then of the host.
pub record Going (journal journal' : List Event) (notes notes' : List HostEvent) (G : Facts) : Type 0 where
  pub asked : List Event
  pub tried : List HostEvent
  pub folder : List ℕ
  pub questions : AreNew no_facts asked
  pub journal_grows : journal' ≡ journal ++ asked
  pub notes_grow : notes' ≡ notes ++ tried
  pub is_folder : (F : Facts) → Extends (learn no_facts asked) F → IsFolder F tried folder
  pub settles : IsSettled (learn no_facts asked) folder G

-- what was asked of the system and the host before memory lacked for the folder of temporaries
pub record BeginsToGo (journal journal' : List Event) (notes notes' : List HostEvent) : Type 0 where
  pub asked : List Event
  pub tried : List HostEvent
  pub questions : AreNew no_facts asked
  pub journal_grows : journal' ≡ journal ++ asked
  pub notes_grow : notes' ≡ notes ++ tried
  pub is_tried : IsTried (learn no_facts asked) tried
