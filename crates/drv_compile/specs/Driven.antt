use Rattle.drv_args.specs.declared.line.Expanded.{Expanded}
use Rattle.drv_args.specs.declared.items.Item.{Item}
use Rattle.drv_args.specs.declared.option_table.Effect.TheVariants as effect
use Rattle.drv_cc.specs.LineItems.{alone, item_of}
use Rattle.drv_cc.specs.declared.answer.Answer.TheVariants.{Ask, Refuse, Run}
use Rattle.drv_cc.specs.declared.answer.Answer.{Answer}
use Rattle.drv_cc.specs.declared.answer.Call.{Call}
use Rattle.drv_cc.specs.declared.answer.Variable.{Variable}
use Rattle.drv_cc.specs.declared.refusal.Refusal.{Refusal}
use Rattle.drv_compile.specs.Compilers.{values}
use Rattle.drv_compile.specs.Machines.{RowAsked, items_by}
use Rattle.drv_compile.specs.Near.{AreTold}
use Rattle.drv_compile.specs.Parts.{texts_of}
use Rattle.drv_compile.specs.Passed.{line_passed}
use Rattle.drv_compile.specs.Releases.{children_by}
use Rattle.drv_compile.specs.SelfSpecs.{Ended, answer_given}
use Rattle.drv_compile.specs.Suffixes.{suffixed_by}
use Rattle.drv_compile.specs.Texts.{damaged_text}
use Rattle.drv_compile.specs.Words.{told_refusal}
use Rattle.drv_compile.specs.declared.calling.Calling.{Calling}
use Rattle.drv_compile.specs.declared.driving.Driven.{Driven}
use Rattle.drv_compile.specs.declared.driving.Worker.TheVariants.{Driver, Nobody}
use Rattle.drv_compile.specs.declared.driving.Worker.{Worker}
use Rattle.drv_compile.specs.declared.host.HostEvent.{HostEvent}
use Rattle.drv_compile.specs.declared.machines.LineRow.{LineRow}
use Rattle.drv_compile.specs.declared.machines.MachineItems.TheVariants.{Lacks, Made}
use Rattle.drv_compile.specs.declared.machines.MachineItems.{MachineItems}
use Rattle.drv_compile.specs.declared.parts.Texts.TheVariants.{Damaged, Whole}
use Rattle.drv_compile.specs.declared.running.DriverLine.{DriverLine}
use Rattle.drv_compile.specs.declared.tasks.Toolchain.{Toolchain}
use Rattle.drv_run.specs.declared.ending.Ending.TheVariants.{Refused}
use Rattle.drv_run.specs.declared.ending.Refusal as driver
use Rattle.drv_system.specs.Facts.{Facts}
use Rattle.drv_system.specs.Known.{Is}
use Rattle.std.specs.Prelude.{◌≡◌, List, [], ◌∷◌, ◌++◌, None, Ok, Err, Option, Some, codes, ℕ}

-- Who carries out a line, over facts: the driver, with the file that has the line's texts and its items, with the options that its spec
-- files give it (GCC, "gcc.cc", set_up_specs, do_self_spec; GCC manual, "Overall Options", -specs=). Or it is nobody, where no row has the
-- words for the line's machine: another row's words would make another object.
-- For clauses of src/driving.rt.

-- The items of the driver's line: the spec file, that a front precedes it, and those of the front.

-- the file that has the line's texts comes first, so that the line's own spec files change it
abbrev pub driver_items : List ℕ → List Item → List Item
driver_items path items = item_of effect.Specs (codes "-specs=") path ∷ alone effect.Switch (codes "--gdrv-front") ∷ items

-- the driver's line for a front's items; whether response files gave words of it stays known
abbrev pub driver_line : List ℕ → List Item → Expanded → DriverLine
driver_line path items given = record { items = driver_items path items; from_file = given.from_file }

-- with the words for its machine in these items, if a row has them, and the suffix of programs that the file of the rows names
abbrev pub IsMade : List ℕ → Option (List ℕ) → MachineItems → Expanded → Worker → Type 0
IsMade path rows made given (Driver driven) =
    (items : List Item) × (children : List Variable) × (made ≡ Made items children)
    × (driven ≡ record { line = driver_line path (suffixed_by rows items) given; children = children })
IsMade path rows made given (Nobody options) = made ≡ Lacks options

-- with the words for its machine, by its row in the text about the compiler, or by that compiler's answer
abbrev pub IsMachined : Toolchain → List ℕ → Call → Expanded → List HostEvent → Worker → Type 0
IsMachined chain path call given events worker =
    (row : LineRow) × RowAsked chain.specs (Some chain.about) call.items events row
    × IsMade path (Some chain.about) (items_by row call.items (children_by chain.about call.children)) given worker

-- a line by itself, with the file that has its texts, if that is whole, and with what the host was asked for its row
abbrev pub IsCalled : Facts → Toolchain → Call → Expanded → List HostEvent → Worker → Type 0
IsCalled F chain call given events worker =
    (path : List ℕ) × (texts_of F chain.specs call.items call.stages ≡ Is (Whole path)) × IsMachined chain path call given events worker

-- the refusal of a line by itself, as the file with its texts isn't whole: the host was asked nothing
pub data IsUncalled (F : Facts) (calling : Calling) (specs : List ℕ) (call : Call) : List HostEvent → List ℕ → Type 0 where
  not_whole : {path : List ℕ} → texts_of F specs call.items call.stages ≡ Is (Damaged path)
      → IsUncalled F calling specs call [] (damaged_text calling.name path specs calling.machine)

-- the line that its spec files put in the place of a line, if they do
pub data Replaces : Option Answer → Option Call → Type 0 where
  stays : Replaces None None
  asks : Replaces (Some Ask) None
  runs : {call : Call} → Replaces (Some (Run call)) (Some call)

-- the refusal of what a line's spec files give it
pub data IsDenied (calling : Calling) (chain : Toolchain) : Option Answer → List ℕ → Type 0 where
  refuses : {refusals : List Refusal} {text : List ℕ} → AreTold calling.name (values [] chain.known) refusals text
      → IsDenied calling chain (Some (Refuse refusals)) text

-- the answer that a line's spec files give, or how they end the call
abbrev pub answer_of : Facts → Toolchain → Expanded → Driven → Ended (Option Answer)
answer_of F chain given first = answer_given F chain.specs chain.around chain.known given.words first.line

-- the spec files of a line end the call by a refusal, and this text says it
abbrev pub IsUnanswered : Facts → List ℕ → Toolchain → Expanded → Driven → List ℕ → Type 0
IsUnanswered F name chain given first text =
    (refusal : driver.Refusal) × (answer_of F chain given first ≡ Is (Err (Refused refusal))) × (text ≡ told_refusal name refusal)

-- a line that the driver would be called with so, after its spec files: the line in its place, or itself
pub data IsWorkerAfter (F : Facts) (chain : Toolchain) (given : Expanded) (first : Driven) : List HostEvent → Worker → Type 0 where
  in_place : {answer : Option Answer} {call : Call} {events : List HostEvent} {worker : Worker}
      → answer_of F chain given first ≡ Is (Ok answer) → Replaces answer (Some call) → IsCalled F chain call given events worker
      → IsWorkerAfter F chain given first events worker
  unchanged : {answer : Option Answer} → answer_of F chain given first ≡ Is (Ok answer) → Replaces answer None
      → IsWorkerAfter F chain given first [] (Driver first)

-- the text of a refusal after a line's spec files: they refuse by themselves, or what they give is refused
pub data IsUndrivenAfter (F : Facts) (calling : Calling) (chain : Toolchain) (given : Expanded) (first : Driven)
    : List HostEvent → List ℕ → Type 0 where
  not_answered : {text : List ℕ} → IsUnanswered F calling.name chain given first text → IsUndrivenAfter F calling chain given first [] text
  denied : {answer : Option Answer} {text : List ℕ} → answer_of F chain given first ≡ Is (Ok answer) → IsDenied calling chain answer text
      → IsUndrivenAfter F calling chain given first [] text
  uncalled_after : {answer : Option Answer} {call : Call} {events : List HostEvent} {text : List ℕ}
      → answer_of F chain given first ≡ Is (Ok answer) → Replaces answer (Some call) → IsUncalled F calling chain.specs call events text
      → IsUndrivenAfter F calling chain given first events text

-- who carries out a line: nobody at once, or the driver unless the line's spec files give it another
pub data IsChosen (F : Facts) (chain : Toolchain) (call : Call) (given : Expanded) : List HostEvent → Worker → Type 0 where
  at_once : {options : List ℕ} {events : List HostEvent} → IsCalled F chain call given events (Nobody options)
      → IsChosen F chain call given events (Nobody options)
  later : {first : Driven} {worker : Worker} {events more : List HostEvent} → IsCalled F chain call given events (Driver first)
      → IsWorkerAfter F chain given first more worker → IsChosen F chain call given (events ++ more) worker

-- what the driver is called with, with the libraries of its link
abbrev pub Passes : Facts → Driven → Driven → Type 0
Passes F driven made = (line : DriverLine) × (line_passed F driven.line ≡ Is line) × (made ≡ record driven { line = line })

-- who carries out a line, and its line has the libraries of its link where the driver does
pub data IsWorker (F : Facts) (chain : Toolchain) (call : Call) (given : Expanded) : List HostEvent → Worker → Type 0 where
  drives : {driven made : Driven} {events : List HostEvent} → IsChosen F chain call given events (Driver driven) → Passes F driven made
      → IsWorker F chain call given events (Driver made)
  unworded : {options : List ℕ} {events : List HostEvent} → IsChosen F chain call given events (Nobody options)
      → IsWorker F chain call given events (Nobody options)

-- the line can't be called, or what its spec files give it can't: the text of the refusal
pub data Undriven (F : Facts) (calling : Calling) (chain : Toolchain) (call : Call) (given : Expanded)
    : List HostEvent → List ℕ → Type 0 where
  uncalled : {events : List HostEvent} {text : List ℕ} → IsUncalled F calling chain.specs call events text
      → Undriven F calling chain call given events text
  undriven_after : {first : Driven} {events more : List HostEvent} {text : List ℕ} → IsCalled F chain call given events (Driver first)
      → IsUndrivenAfter F calling chain given first more text → Undriven F calling chain call given (events ++ more) text
