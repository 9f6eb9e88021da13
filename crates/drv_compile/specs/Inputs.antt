use Rattle.drv_compile.specs.Texts.{absent_text, variable_text}
use Rattle.drv_compile.specs.declared.host.HostEvent.{HostEvent}
use Rattle.drv_system.specs.Facts.{Facts, kind_of, variable_of}
use Rattle.drv_system.specs.Known.{◌>>=◌, Is, Known, asked}
use Rattle.drv_system.specs.declared.event.PathKind.TheVariants.{Dir, Missing, Other, Plain}
use Rattle.drv_system.specs.declared.event.PathKind.{PathKind}
use Rattle.std.specs.Prelude.{◌≡◌, List, [], ◌∷◌, ◌++◌, None, Option, Some, codes, ℕ}

-- What is asked of a line that is carried out, before anything is started (GCC, "gcc.cc", process_command).
-- For clauses of src/inputs.rt, src/preparing.rt, src/temp_folder.rt and src/compiling.rt.

-- Inputs that are not there, each with a line of its own.
abbrev pub absent_by : List ℕ → List ℕ → PathKind → List ℕ
absent_by name path Missing = absent_text name path
absent_by name path Plain = []
absent_by name path Dir = []
absent_by name path Other = []

-- the line for an input, if it isn't there
abbrev pub absent_at : Facts → List ℕ → List ℕ → Known (List ℕ)
absent_at F name path = asked (kind_of F path) >>= λ kind. Is (absent_by name path kind)

-- the lines for all inputs that aren't there
abbrev pub absent_of : Facts → List ℕ → List (List ℕ) → Known (List ℕ)
absent_of F name [] = Is []
absent_of F name (input ∷ inputs) = absent_at F name input >>= λ line. absent_of F name inputs >>= λ lines. Is (line ++ lines)

-- The text of what speaks against a line, over facts: a variable that gcc's driver takes, then inputs that are not there; no text where
-- nothing does.
abbrev pub objection_by : Facts → List ℕ → List (List ℕ) → Option (List ℕ) → Known (List ℕ)
objection_by F name inputs None = absent_of F name inputs
objection_by F name inputs (Some value) = Is (variable_text name)

-- what speaks against a line before anything is started: GCC_EXEC_PREFIX is set, or inputs aren't there
abbrev pub objection : Facts → List ℕ → List (List ℕ) → Known (List ℕ)
objection F name inputs = asked (variable_of F (codes "GCC_EXEC_PREFIX")) >>= λ value. objection_by F name inputs value

-- events that were added after others
abbrev pub Noted : List HostEvent → List HostEvent → (List HostEvent → Type 0) → Type 0
Noted before after what = (events : List HostEvent) × (after ≡ before ++ events) × what events
