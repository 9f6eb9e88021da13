use Rattle.drv_cc.specs.declared.answer.Answer.TheVariants.{Ask, Refuse, Run}
use Rattle.drv_cc.specs.declared.answer.Call.{Call}
use Rattle.drv_cc.specs.declared.answer.Surroundings.{Surroundings}
use Rattle.drv_cc.specs.declared.refusal.Refusal.{Refusal}
use Rattle.drv_compile.specs.Compilers.{values}
use Rattle.drv_compile.specs.Near.{AreTold}
use Rattle.drv_compile.specs.Texts.{damaged_text, no_compiler_text, no_place_text, no_specs_text}
use Rattle.drv_compile.specs.declared.calling.Calling.{Calling}
use Rattle.drv_compile.specs.declared.deciding.Decision.TheVariants.{Damaged, NoCompiler, NoSpecs, Read}
use Rattle.drv_compile.specs.declared.deciding.Decision.{Decision}
use Rattle.drv_compile.specs.declared.deciding.SpecFile.{SpecFile}
use Rattle.drv_compile.specs.declared.running.DriverLine.{DriverLine}
use Rattle.drv_compile.specs.declared.stop.Stop.TheVariants.{Memory, Told, Undone}
use Rattle.drv_compile.specs.declared.stop.Stop.{Stop}
use Rattle.drv_compile.specs.declared.tasks.Task.TheVariants.{Compilation, Question}
use Rattle.drv_compile.specs.declared.tasks.Task.{Task}
use Rattle.std.specs.Prelude.{List, [], None, Some, ℕ, ⊤}

-- What a call does by what its words ask for: it asks the compiler the line, or carries it out, or says a text.
-- For clauses of src/tasks.rt, src/refusing.rt, src/preparing.rt and others.

pub data Leads : Decision → Task → Type 0 where
  asks : {file : SpecFile} {around : Surroundings} {known : List ℕ}
      → Leads (Read file around (record { known = known; answer = Ask })) (Question file around.compiler)
  runs : {file : SpecFile} {around : Surroundings} {known : List ℕ} {call : Call}
      → Leads (Read file around (record { known = known; answer = Run call }))
      (Compilation (record { specs = file.path; about = file.about; around = around; known = known }) call)

pub data Declines (calling : Calling) : Decision → List ℕ → Type 0 where
  no_place : Declines calling (NoSpecs None) (no_place_text calling.name)
  no_specs : {path : List ℕ} → Declines calling (NoSpecs (Some path)) (no_specs_text calling.name path calling.machine)
  no_compiler : {specs : List ℕ} → Declines calling (NoCompiler specs) (no_compiler_text calling.name specs calling.machine)
  damaged : {specs path : List ℕ} → Declines calling (Damaged specs path) (damaged_text calling.name path specs calling.machine)
  refused : {file : SpecFile} {text : List ℕ} {around : Surroundings} {known : List ℕ} {refusals : List Refusal}
      → AreTold calling.name (values [] known) refusals text
      → Declines calling (Read file around (record { known = known; answer = Refuse refusals })) text

-- why a call ends before its work, unless that is lack of memory
abbrev pub IfTold : Stop → (List ℕ → Type 0) → Type 0
IfTold (Told text) what = what text
IfTold (Undone text line) what = what text
IfTold Memory what = ⊤

-- why a call ends by what the driver said of this line
abbrev pub undone : Stop → DriverLine → Stop
undone (Told text) line = Undone text line
undone (Undone text other) line = Undone text other
undone Memory line = Memory
