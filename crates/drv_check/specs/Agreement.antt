use Rattle.drv_check.specs.declared.findings.Fault.{Fault}
use Rattle.drv_search.specs.declared.prefixes.Prefixes.{Prefixes}
use Rattle.drv_specs.specs.Loading.{file_loaded, then_by}
use Rattle.drv_specs.specs.Sets.{Set}
use Rattle.drv_specs.specs.declared.fault.SpecsFault.{SpecsFault}
use Rattle.drv_system.specs.Facts.{Facts}
use Rattle.drv_system.specs.Known.{Is, Known, Unasked}
use Rattle.std.specs.Prelude.{◌≡◌, Err, List, [], ◌∷◌, Ok, Result, map, ℕ}

-- How a check and the driver agree on spec files (GCC manual, "Spec Files").
-- For the laws of src/laws.rt.

-- the faults that were found, in their order, without their places
abbrev pub faults_of : List Fault → List SpecsFault
faults_of = map (λ found. found.fault)

-- files loaded by the driver, each over what the earlier ones made, up to the first refusal
abbrev pub all_loaded : Facts → Prefixes → Set → List (List ℕ) → Known (Result Set SpecsFault)
all_loaded F prefixes set [] = Is (Ok set)
all_loaded F prefixes set (name ∷ names) = then_by (file_loaded F prefixes set name) (λ next. all_loaded F prefixes next names)

-- no fault where the driver loads them, and its refusal is the first fault
abbrev pub Agrees : List SpecsFault → Known (Result Set SpecsFault) → Type 0
Agrees faults Unasked = ⊥
Agrees faults (Is (Ok set)) = faults ≡ []
Agrees faults (Is (Err fault)) = (more : List SpecsFault) × (faults ≡ fault ∷ more)
