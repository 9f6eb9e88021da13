use Rattle.drv_args.specs.declared.line.Input.TheVariants.{File, Library, LinkWord}
use Rattle.drv_args.specs.declared.line.Input.{Input}
use Rattle.drv_args.specs.declared.line.Line.{Line}
use Rattle.drv_machine.specs.Context.{Context, Source}
use Rattle.drv_machine.specs.Outcome.{outcome}
use Rattle.drv_machine.specs.Working.{Answer}
use Rattle.drv_machine.specs.declared.fault.MachineFault.TheVariants as machine
use Rattle.drv_machine.specs.declared.fault.MachineFault.{MachineFault}
use Rattle.drv_machine.specs.declared.outcome.Outcome.{Outcome}
use Rattle.drv_plan.specs.Languages.{Chosen, chosen_for}
use Rattle.drv_plan.specs.declared.fault.PlanFault.TheVariants.{Machine, Memory}
use Rattle.drv_plan.specs.declared.fault.PlanFault.{PlanFault}
use Rattle.drv_plan.specs.declared.progress.Progress.{Progress}
use Rattle.drv_search.specs.Search.{prefixes_of}
use Rattle.drv_search.specs.declared.prefixes.Prefixes.{Prefixes}
use Rattle.drv_specs.specs.Sets.{Set, text_of}
use Rattle.drv_syntax.specs.Parsed.{tree_of}
use Rattle.drv_system.specs.Facts.{Facts}
use Rattle.drv_system.specs.Known.{◌>>=◌, Is, Known, Unasked}
use Rattle.drv_words.specs.declared.plan.Job.{Job}
use Rattle.drv_words.specs.declared.plan.Plan.{Plan}
use Rattle.std.specs.Prelude.{◌+◌, ◌==◌, Err, List, [], ◌∷◌, ◌++◌, None, Ok, Option, Result, Some, codes, if◌then◌else◌, length, map, ℕ}

-- The plan of a line with its specs: each source, and the link (GCC manual, "Overall Options" and "Spec Files"). The wording of notices,
-- and when there is a link, are this project's profile.

-- a value, a refusal, or a question that the facts don't answer
abbrev pub Planned : Type 0 → Type 0
Planned X = Known (Result X PlanFault)

-- a step, and what follows it unless it is refused
abbrev pub then_by : {X Y : Type 0} → Planned X → (X → Planned Y) → Planned Y
then_by Unasked next = Unasked
then_by (Is (Ok x)) next = next x
then_by (Is (Err fault)) next = Is (Err fault)

-- why a line has no plan, if a text has no job
abbrev pub lifted : MachineFault → PlanFault
lifted machine.Memory = Memory
lifted fault = Machine fault

-- the result of a text, where its refusal is that of the line
abbrev pub of_text : {X : Type 0} → Answer X → Planned X
of_text Unasked = Unasked
of_text (Is (Ok x)) = Is (Ok x)
of_text (Is (Err fault)) = Is (Err (lifted fault))

-- the context of a line's first text: no option was added, temporaries are numbered from 1, and their names contain the seed
abbrev pub context_of : Line → Set → Prefixes → ℕ → Context
context_of line set prefixes seed = record {
  switches = line.switches;
  assembler = line.asm_opts;
  preprocessor = line.cpp_opts;
  texts = set.named;
  prefixes = prefixes;
  is_piping = line.settings.pipe;
  from_file = line.settings.from_file;
  seed = seed;
  number = 1;
  accumulated = [];
  input = None;
  outputs = [];
}

-- the progress before the first text
abbrev pub begun : Context → Progress
begun C = record { context = C; notices = []; jobs = []; outputs = []; passed_on = [] }

-- after a text: the options of %x and the number of the next temporary go on to the next text; hidden switches don't
abbrev pub after_text : Outcome → Progress → Progress
after_text worked g = record g {
  context = record g.context { accumulated = worked.accumulated; number = worked.next_number };
  notices = g.notices ++ worked.notices;
}

-- a text is run: its job, and the progress after it
abbrev pub worked : Facts → List ℕ → Progress → Planned (Job × Progress)
worked F text g = then_by (of_text (outcome F g.context (tree_of text))) (λ done. Is (Ok (done.job, after_text done g)))

-- the progress, with this source as the input of the next text
abbrev pub for_source : Source → Progress → Progress
for_source source g = record g { context = record g.context { input = Some source } }

-- the context of the link's text: no input, and all outputs
abbrev pub for_link : Progress → Progress
for_link g = record g { context = record g.context { input = None; outputs = g.outputs }; outputs = [] }

-- the output of a job, if it has one
abbrev pub output_list : Option (List ℕ) → List (List ℕ)
output_list None = []
output_list (Some output) = output ∷ []

-- the job of the source at this place of the line
abbrev pub of_source : ℕ → Job → Job
of_source place job = record job { source = Some place }

-- after the job of a source: its output goes to the link
abbrev pub after_job : Job → Progress → Progress
after_job job g = record g { jobs = g.jobs ++ job ∷ []; outputs = g.outputs ++ output_list job.output }

-- after a word for the link: a library, or a word of -Wl and -Xlinker
abbrev pub after_word : List ℕ → Progress → Progress
after_word word g = record g { outputs = g.outputs ++ word ∷ [] }

-- after a file of the linker
abbrev pub after_object : List ℕ → Progress → Progress
after_object name g = record g { outputs = g.outputs ++ name ∷ []; passed_on = g.passed_on ++ name ∷ [] }

-- the source at this place of the line, which uses this text
abbrev pub with_source : Facts → ℕ → Source → List ℕ → Progress → Planned Progress
with_source F place source text g = then_by (worked F text (for_source source g))
    (λ done. Is (Ok (after_job (of_source place done.0) done.1)))

-- the progress after a file, by its language
abbrev pub with_file : Facts → ℕ → List ℕ → Result (Option Chosen) PlanFault → Progress → Planned Progress
with_file F place name (Err fault) g = Is (Err fault)
with_file F place name (Ok None) g = Is (Ok (after_object name g))
with_file F place name (Ok (Some c)) g = with_source F place (record { name = name; language = c.name }) c.text g

-- the progress after one more input
abbrev pub with_input : Facts → Set → ℕ → Input → Progress → Planned Progress
with_input F set place (File name language) g = with_file F place name (chosen_for set (File name language)) g
with_input F set place (Library word) g = Is (Ok (after_word word g))
with_input F set place (LinkWord word) g = Is (Ok (after_word word g))

-- the inputs; the first one has this place in the line
abbrev pub with_inputs : Facts → Set → ℕ → List Input → Progress → Planned Progress
with_inputs F set place [] g = Is (Ok g)
with_inputs F set place (input ∷ inputs) g = then_by (with_input F set place input g) (λ g'. with_inputs F set (place + 1) inputs g')

-- the link, if its job has a command
abbrev pub with_command : Job → Option Job
with_command job = if length job.groups == 0 then None else Some job

-- a job without commands is no link
abbrev pub linked : Job × Progress → Option Job × Progress
linked done = (with_command done.0, done.1)

-- the link, if there is something to link and a text for it
abbrev pub with_text : Facts → Option (List ℕ) → Progress → Planned (Option Job × Progress)
with_text F None g = Is (Ok (None, g))
with_text F (Some text) g = then_by (worked F text (for_link g)) (λ done. Is (Ok (linked done)))

-- the link; without outputs there is none
abbrev pub with_link : Facts → Set → Progress → Planned (Option Job × Progress)
with_link F set g = if length g.outputs == 0 then Is (Ok (None, g)) else with_text F (text_of set (codes "link_command")) g

-- a word with a text before it and one after it
abbrev pub between : List ℕ → List ℕ → List ℕ → List ℕ
between before after word = before ++ word ++ after

-- without a link there is a notice for each file of the linker
abbrev pub unused : Option Job → List (List ℕ) → List (List ℕ)
unused (Some link) names = []
unused None names = map (between (codes "warning: ") (codes ": linker input file unused because linking not done")) names

-- the notices of the texts, followed by those for files that no link takes
abbrev pub notices : Option Job → Progress → List (List ℕ)
notices link g = g.notices ++ unused link g.passed_on

-- the plan of a link and a progress
abbrev pub plan_of : Option Job × Progress → Plan
plan_of done = record { notices = notices done.0 done.1; jobs = done.1.jobs; link = done.0 }

-- the plan, once all inputs are done
abbrev pub finished : Facts → Set → Progress → Planned Plan
finished F set g = then_by (with_link F set g) (λ done. Is (Ok (plan_of done)))

-- the plan of inputs, in this context
abbrev pub planned : Facts → Set → List Input → Context → Planned Plan
planned F set inputs C = then_by (with_inputs F set 0 inputs (begun C)) (λ g. finished F set g)

-- The plan of a line, or the first refusal in the order of its inputs, with the link last. It doesn't depend on the settings `dry`,
-- `verbose`, `pass_codes` and `jobs`.
abbrev pub denoted : Facts → Line → Set → ℕ → Planned Plan
denoted F line set seed = prefixes_of F line.settings.prefixes >>= λ prefixes. planned F set line.inputs (context_of line set prefixes seed)
