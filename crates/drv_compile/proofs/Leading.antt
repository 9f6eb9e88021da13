use Rattle.drv_cc.specs.declared.answer.Answer.TheVariants.{Ask, Refuse, Run}
use Rattle.drv_cc.specs.declared.answer.Call.{Call}
use Rattle.drv_cc.specs.declared.answer.Surroundings.{Surroundings}
use Rattle.drv_cc.specs.declared.refusal.Refusal.{Refusal}
use Rattle.drv_compile.specs.Compilers.{values}
use Rattle.drv_compile.specs.Near.{AreTold}
use Rattle.drv_compile.specs.Tasks.{Declines, Leads, asks, damaged, no_compiler, no_place, no_specs, refused, runs}
use Rattle.drv_compile.specs.Texts.{damaged_text, no_compiler_text, no_place_text, no_specs_text}
use Rattle.drv_compile.specs.declared.calling.Calling.{Calling}
use Rattle.drv_compile.specs.declared.deciding.Decision.TheVariants.{Damaged, NoCompiler, NoSpecs, Read}
use Rattle.drv_compile.specs.declared.deciding.Decision.{Decision}
use Rattle.drv_compile.specs.declared.deciding.SpecFile.{SpecFile}
use Rattle.drv_compile.specs.declared.reading.Reading.{Reading}
use Rattle.drv_compile.specs.declared.tasks.Task.TheVariants.{Compilation, Question}
use Rattle.std.proofs.Common.{◌≡◌, ◌∙◌, Err, IfOk, List, [], None, Ok, Option, Result, Some, ap, subst, sym, ℕ}

-- For the functions of `tasks` (src/tasks.rt): what a call does by the answer to its line.
-- Names: `calling` is the program's name and machine. `specs` is the path of the spec file, and `file` the same with the text beside it.
-- `around` is the compiler and its folders. `reading` is what was read of the line: its answer and the known names. `decision` is what the
-- line is decided to be. `text` is the text of a refusal. `slice`, `place`, `name` and `known` are parts of these, as the code lends them.
-- `Leads decision task`: the decision leads to that task. `Declines calling decision text`: it is refused with that text (specs/Tasks).

-- For `task_by`: if the answer is a question, then the line leads to a question for the compiler.
pub answer_asks : (file : SpecFile) (around : Surroundings) (reading : Reading) → reading.answer ≡ Ask
    → Leads (Read file around reading) (Question file around.compiler)
answer_asks file around reading is = subst (λ a. Leads (Read file around (record { known = reading.known; answer = a }))
    (Question file around.compiler)) (sym is) asks

-- If the answer is a line that is carried out, then the line leads to its compilation.
pub answer_runs : (file : SpecFile) (around : Surroundings) (reading : Reading) (call : Call) → reading.answer ≡ Run call
    → Leads (Read file around reading)
    (Compilation (record { specs = file.path; about = file.about; around = around; known = reading.known }) call)
answer_runs file around reading call is =
    subst (λ a. Leads (Read file around (record { known = reading.known; answer = a }))
    (Compilation (record { specs = file.path; about = file.about; around = around; known = reading.known }) call))
    (sym is) runs

-- For `task_by`: if the answer is refusals, and the text has them all, then that text declines the line.
pub answer_refused : (calling : Calling) (file : SpecFile) (around : Surroundings) (reading : Reading) (refusals slice : List Refusal)
    (name known text : List ℕ)
    → reading.answer ≡ Refuse refusals → name ≡ calling.name → known ≡ reading.known → slice ≡ refusals
    → AreTold name (values [] known) slice text
    → Declines calling (Read file around reading) text
answer_refused calling file around reading refusals slice name known text is named same are told =
    subst (λ a. Declines calling (Read file around (record { known = reading.known; answer = a })) text) (sym is)
    (refused (subst (λ n. AreTold n (values [] reading.known) refusals text) named
    (subst (λ k. AreTold name (values [] k) refusals text) same (subst (λ rs. AreTold name (values [] known) rs text) are told))))

-- the text where there is no spec file

-- For `without_specs`: if the spec file isn't there, then the text that names it declines the line.
pub specs_declined : {E : Type 0} (calling : Calling) (given : Option (List ℕ)) (path place : List ℕ)
    (result : Result (List ℕ) E) → given ≡ Some path
    → place ≡ path → IfOk result (λ text. text ≡ no_specs_text calling.name place calling.machine)
    → IfOk result (λ text. Declines calling (NoSpecs given) text)
specs_declined calling given path place (Err e) some placed is = tt
specs_declined calling given path place (Ok text) some placed is =
    subst (λ g. Declines calling (NoSpecs g) text) (sym some)
    (subst (λ t. Declines calling (NoSpecs (Some path)) t)
    (sym (is ∙ ap (λ p. no_specs_text calling.name p calling.machine) placed)) no_specs)

-- For `without_specs`: if the place of the spec file isn't known, then the text that says so declines the line.
pub place_declined : {E : Type 0} (calling : Calling) (given : Option (List ℕ)) (name : List ℕ) (result : Result (List ℕ) E) → given ≡ None
    → name ≡ calling.name
    → IfOk result (λ text. text ≡ no_place_text name) → IfOk result (λ text. Declines calling (NoSpecs given) text)
place_declined calling given name (Err e) none named is = tt
place_declined calling given name (Ok text) none named is =
    subst (λ g. Declines calling (NoSpecs g) text) (sym none)
    (subst (λ t. Declines calling (NoSpecs None) t) (sym (is ∙ ap no_place_text named)) no_place)

-- Refusals for lack of a compiler or of a whole file.

-- For `task_of`: if no compiler is named beside the spec file, then the text about that declines the line.
pub compiler_declined : (calling : Calling) (decision : Decision) (specs slice text : List ℕ) → decision ≡ NoCompiler specs
    → slice ≡ specs → text ≡ no_compiler_text calling.name slice calling.machine → Declines calling decision text
compiler_declined calling decision specs slice text decided same is =
    subst (λ d. Declines calling d text) (sym decided)
    (subst (λ t. Declines calling (NoCompiler specs) t)
    (sym (is ∙ ap (λ s. no_compiler_text calling.name s calling.machine) same)) no_compiler)

-- For `task_of`: if a file of the line isn't whole, then the text about that declines the line.
pub damaged_declined : (calling : Calling) (decision : Decision) (specs path slice place text : List ℕ)
    → decision ≡ Damaged specs path → slice ≡ specs
    → place ≡ path → text ≡ damaged_text calling.name place slice calling.machine → Declines calling decision text
damaged_declined calling decision specs path slice place text decided same placed is =
    subst (λ d. Declines calling d text) (sym decided)
    (subst (λ t. Declines calling (Damaged specs path) t)
    (sym (is ∙ ap (λ p. damaged_text calling.name p slice calling.machine) placed
    ∙ ap (λ s. damaged_text calling.name path s calling.machine) same)) damaged)
