use Rattle.drv_args.specs.declared.line.Input.TheVariants.{File, Library, LinkWord}
use Rattle.drv_args.specs.declared.line.Input.{Input}
use Rattle.drv_machine.specs.Context.{Context, Source}
use Rattle.drv_machine.specs.Outcome.{outcome}
use Rattle.drv_machine.specs.Working.{Answer}
use Rattle.drv_machine.specs.declared.fault.MachineFault.TheVariants as machine
use Rattle.drv_machine.specs.declared.fault.MachineFault.{MachineFault}
use Rattle.drv_plan.proofs.Refusals.{no_text}
use Rattle.drv_plan.specs.Denoted.{Planned, after_job, after_text, begun, finished, for_link, for_source, lifted, linked, of_source}
use Rattle.drv_plan.specs.Denoted.{of_text, plan_of, planned, then_by, with_file, with_input, with_inputs, with_link, with_source}
use Rattle.drv_plan.specs.Denoted.{with_text, worked}
use Rattle.drv_plan.specs.Languages.{Chosen, chosen_for}
use Rattle.drv_plan.specs.declared.fault.PlanFault.TheVariants.{Machine, Memory}
use Rattle.drv_plan.specs.declared.fault.PlanFault.{PlanFault}
use Rattle.drv_plan.specs.declared.progress.Progress.{Progress}
use Rattle.drv_specs.specs.Sets.{Set, text_of}
use Rattle.drv_syntax.specs.Parsed.{tree_of}
use Rattle.drv_system.specs.Facts.{Facts}
use Rattle.drv_system.specs.Gives.{GivesKnown}
use Rattle.drv_system.specs.Known.{Is, Unasked}
use Rattle.drv_words.specs.declared.plan.Plan.{Plan}
use Rattle.std.proofs.Common.{◌≡◌, ◌+◌, ◌∙◌, Bool, List, [], ◌∷◌, Err, None, Ok, Option, Result, Some, ap, false, if◌then◌else◌, inl, inr}
use Rattle.std.proofs.Common.{length, sym, true, ℕ}
use Rattle.std.specs.Prelude.{◌≢◌, ◌==◌, IfErr, codes}

-- For `plan`: its refusal is never the machine's lack of memory, since `lifted` makes that the plan's own.
-- Names: `F` is what is known of the outside. `set` is the specs. `place` is the place of an input on the line. `g` is what the inputs
-- before gave. `next` is what follows a step. NAME_apart: what NAME gives is no such refusal.

-- what a step of a plan gives is not the machine's lack of memory
abbrev Apart : {X : Type 0} → Planned X → Type 0
Apart given = given ≢ Is (Err (Machine machine.Memory))

-- two steps: the first one is apart, and so is what follows each of its values
then_apart : {X Y : Type 0} (step : Planned X) (next : X → Planned Y) → Apart step → ((x : X) → Apart (next x)) → Apart (then_by step next)
then_apart Unasked next apart goes e = absurd cc
then_apart (Is (Ok x)) next apart goes e = goes x e
then_apart (Is (Err fault)) next apart goes e =
    let same : fault ≡ Machine machine.Memory = cc in apart (ap (λ f. Is (Err f)) same)

-- what `lifted` makes of a refusal of the machine
lifted_apart : (fault : MachineFault) → lifted fault ≢ Machine machine.Memory
lifted_apart machine.Memory e = absurd cc
lifted_apart _ e = absurd cc

-- an answer of the machine, lifted
text_apart : {X : Type 0} (answer : Answer X) → Apart (of_text answer)
text_apart Unasked e = absurd cc
text_apart (Is (Ok x)) e = absurd cc
text_apart (Is (Err fault)) e = let same : lifted fault ≡ Machine machine.Memory = cc in lifted_apart fault same

-- a value is no refusal
value_apart : {X : Type 0} (x : X) → Apart (Is (Ok x))
value_apart x e = absurd cc

-- the work of a text
worked_apart : (F : Facts) (text : List ℕ) (g : Progress) → Apart (worked F text g)
worked_apart F text g = then_apart (of_text (outcome F g.context (tree_of text))) (λ done. Is (Ok (done.job, after_text done g)))
    (text_apart (outcome F g.context (tree_of text))) (λ done. value_apart (done.job, after_text done g))

-- a source
source_apart : (F : Facts) (place : ℕ) (source : Source) (text : List ℕ) (g : Progress) → Apart (with_source F place source text g)
source_apart F place source text g = then_apart (worked F text (for_source source g))
    (λ done. Is (Ok (after_job (of_source place done.0) done.1)))
    (worked_apart F text (for_source source g)) (λ done. value_apart (after_job (of_source place done.0) done.1))

-- an input that is a file, by the text that was chosen for it
file_apart : (F : Facts) (place : ℕ) (name : List ℕ) (given : Result (Option Chosen) PlanFault) (g : Progress)
    → given ≢ Err (Machine machine.Memory) → Apart (with_file F place name given g)
file_apart F place name (Err fault) g apart e =
    let same : fault ≡ Machine machine.Memory = cc in apart (ap (λ f. Err f) same)
file_apart F place name (Ok None) g apart e = absurd cc
file_apart F place name (Ok (Some c)) g apart e = source_apart F place (record { name = name; language = c.name }) c.text g e

-- an input
input_apart : (F : Facts) (set : Set) (place : ℕ) (input : Input) (g : Progress) → Apart (with_input F set place input g)
input_apart F set place (File name language) g e =
    file_apart F place name (chosen_for set (File name language)) g (no_text set (File name language) machine.Memory) e
input_apart F set place (Library word) g e = absurd cc
input_apart F set place (LinkWord word) g e = absurd cc

-- the inputs that are left
inputs_apart : (F : Facts) (set : Set) (place : ℕ) (inputs : List Input) (g : Progress) → Apart (with_inputs F set place inputs g)
inputs_apart F set place [] g e = absurd cc
inputs_apart F set place (input ∷ inputs) g e = then_apart (with_input F set place input g)
    (λ g'. with_inputs F set (place + 1) inputs g') (input_apart F set place input g)
    (λ g'. inputs_apart F set (place + 1) inputs g') e

-- the link: there is none without outputs or without a text for it
link_apart : (F : Facts) (set : Set) (g : Progress) → Apart (with_link F set g)
link_apart F set g = by (length g.outputs == 0)
  where
    -- Plan: `by` goes by whether there are outputs, and `of_link` by whether the set has a text for the link.
    of_link : (text : Option (List ℕ)) → Apart (with_text F text g)
    of_link None e = absurd cc
    of_link (Some text) e = then_apart (worked F text (for_link g)) (λ done. Is (Ok (linked done)))
        (worked_apart F text (for_link g)) (λ done. value_apart (linked done)) e

    by : (t : Bool) → Apart (if t then Is (Ok (None, g)) else with_text F (text_of set (codes "link_command")) g)
    by true e = absurd cc
    by false e = of_link (text_of set (codes "link_command")) e

-- the whole plan
planned_apart : (F : Facts) (set : Set) (inputs : List Input) (C : Context) → Apart (planned F set inputs C)
planned_apart F set inputs C = then_apart (with_inputs F set 0 inputs (begun C)) (λ g. finished F set g)
    (inputs_apart F set 0 inputs (begun C))
    (λ g. then_apart (with_link F set g) (λ done. Is (Ok (plan_of done))) (link_apart F set g) (λ done. value_apart (plan_of done)))

-- the plan in a context is not refused by the machine's lack of memory
pub plan_apart : {X : Type 0} (F : Facts) (set : Set) (inputs : List Input) (C : Context) (result : Result X PlanFault) (view : X → Plan)
    → GivesKnown Memory view result (planned F set inputs C) → IfErr result (λ fault. fault ≢ Machine machine.Memory)
plan_apart F set inputs C (Ok plan) view gives = tt
plan_apart F set inputs C (Err fault) view (inl memory) =
    λ e. absurd (let no : Memory ≡ Machine machine.Memory = sym memory ∙ e in cc)
plan_apart F set inputs C (Err fault) view (inr refused) = λ e. planned_apart F set inputs C (refused ∙ ap (λ f. Is (Err f)) e)
