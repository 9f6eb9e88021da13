use Rattle.drv_cc.specs.declared.answer.Call.{Call}
use Rattle.drv_compile.specs.Compiles.{Fails, IsPlanned, Performs, question}
use Rattle.drv_compile.specs.Driven.{IsWorker, Undriven}
use Rattle.drv_compile.specs.Overwriting.{Overwrites, files_read, files_written}
use Rattle.drv_compile.specs.Runs.{Stops}
use Rattle.drv_compile.specs.Texts.{gone_text, help_text, overwritten_text, unworded_text, version_text}
use Rattle.drv_compile.specs.Words.{told_refusal}
use Rattle.drv_compile.specs.declared.calling.Calling.{Calling}
use Rattle.drv_compile.specs.declared.deciding.SpecFile.{SpecFile}
use Rattle.drv_compile.specs.declared.driving.Driven.{Driven}
use Rattle.drv_compile.specs.declared.driving.Worker.TheVariants.{Driver, Nobody}
use Rattle.drv_compile.specs.declared.host.HostEvent.{HostEvent}
use Rattle.drv_compile.specs.declared.overwriting.Clash.{Clash}
use Rattle.drv_compile.specs.declared.preparing.Prepared.{Prepared}
use Rattle.drv_compile.specs.declared.request.GccLine.{GccLine}
use Rattle.drv_compile.specs.declared.running.DriverLine.{DriverLine}
use Rattle.drv_run.specs.declared.ending.Ending.TheVariants.{Refused}
use Rattle.drv_run.specs.declared.ending.Refusal.{Refusal}
use Rattle.drv_system.specs.Facts.{Facts}
use Rattle.std.specs.Prelude.{◌≡◌, ◌⊎◌, List, [], None, Some, ℕ}

-- The steps of a line that is carried out. Only private clauses of src/preparing.rt cite them.
-- Names: `F` is what is known of the outside. `line` is the line of gcc, with what the call is given, its words and its chain (spec file,
-- compiler, known names). `call` is what the front made of it. `events` is what the host was asked. `driven` is what the driver is called
-- with. `prepared` is what the call has to do. `text` is the text of a refusal. `Stops` is how a
-- line of the driver ends (specs/Runs), and `IsWorker` who carries a line out (specs/Driven).

-- a line of the driver is refused
abbrev pub IsFailure : Facts → List ℕ → DriverLine → ℕ → List ℕ → Type 0
IsFailure F name line seed text = (refusal : Refusal) × Stops F line seed (Refused refusal) × (text ≡ told_refusal name refusal)

-- an output is a file that it reads
abbrev pub IsOverwriting : GccLine → Call → List HostEvent → List ℕ → Type 0
IsOverwriting line call events text =
    (clash : Clash) × Overwrites (files_read call line.given.files) (files_written call) events (Some clash)
    × (text ≡ overwritten_text line.request.now.calling.now.name clash)

-- what is done for a line that the driver carries out
abbrev pub IsPrepared : Facts → GccLine → Call → List HostEvent → Prepared → Type 0
IsPrepared F line call events prepared =
    (driven : Driven) × IsWorker F line.chain call line.given events (Driver driven)
    × IsPlanned F line.request.now.calling.now line.chain driven line.request.now.seed prepared

-- nobody carries a line out, as the words for its machine are not known
abbrev pub IsUnworded : Facts → GccLine → Call → List HostEvent → List ℕ → Type 0
IsUnworded F line call events text =
    (options : List ℕ) × IsWorker F line.chain call line.given events (Nobody options)
    × (text ≡ unworded_text line.request.now.calling.now.name line.chain.specs options)

-- why nothing is done for a line: it can't be called, nobody carries it out, or the driver refuses its items
abbrev pub IsUnplanned : Facts → GccLine → Call → List HostEvent → List ℕ → Type 0
IsUnplanned F line call events text =
    Undriven F line.request.now.calling.now line.chain call line.given events text
    ⊎ IsUnworded F line call events text
    ⊎ ((driven : Driven) × IsWorker F line.chain call line.given events (Driver driven)
    × IsFailure F line.request.now.calling.now.name driven.line line.request.now.seed text)

-- a line that is carried out, as `Performs` says
abbrev pub IsDone : Facts → GccLine → Call → List HostEvent → Prepared → Type 0
IsDone F line call events prepared =
    Performs F line.request.now.calling.now line.chain call line.given line.request.now.seed events prepared

-- why it is refused, as `Fails` says
abbrev pub IsUndone : Facts → GccLine → Call → List HostEvent → List ℕ → Type 0
IsUndone F line call events text =
    Fails F line.request.now.calling.now line.chain call line.given line.request.now.seed events text

-- what is done for a question
abbrev pub IsQuestion : Calling → SpecFile → List ℕ → List (List ℕ) → Prepared → Type 0
IsQuestion calling file compiler args prepared =
    prepared ≡ record {
      work = question compiler args;
      line = None;
      children = [];
      wrapper = [];
      said = help_text calling.name compiler args;
      hint = gone_text calling.name file.path calling.machine;
      about = file.about;
      remark = version_text calling.name compiler args;
    }
