use Rattle.drv_args.specs.declared.line.Input.TheVariants.{File, Library, LinkWord}
use Rattle.drv_args.specs.declared.line.Input.{Input}
use Rattle.drv_args.specs.declared.line.Line.{Line}
use Rattle.drv_machine.specs.Context.{Context, Source}
use Rattle.drv_machine.specs.Outcome.{outcome}
use Rattle.drv_machine.specs.Working.{Answer}
use Rattle.drv_machine.specs.declared.fault.MachineFault.TheVariants as machine
use Rattle.drv_machine.specs.declared.fault.MachineFault.{MachineFault}
use Rattle.drv_machine.specs.declared.outcome.Outcome.{Outcome}
use Rattle.drv_plan.specs.Denoted.{Planned, begun, after_job, after_text, context_of, denoted, finished, for_link, for_source, lifted}
use Rattle.drv_plan.specs.Denoted.{linked, of_source, of_text, plan_of, planned, then_by, with_command, with_file, with_input, with_inputs}
use Rattle.drv_plan.specs.Denoted.{with_link, with_source, with_text, worked}
use Rattle.drv_plan.specs.Languages.{Chosen, chosen_for}
use Rattle.drv_plan.specs.declared.fault.PlanFault.TheVariants.{Memory}
use Rattle.drv_plan.specs.declared.fault.PlanFault.{PlanFault}
use Rattle.drv_plan.specs.declared.progress.Progress.{Progress}
use Rattle.drv_search.specs.Search.{prefixes_of}
use Rattle.drv_search.specs.declared.prefixes.Prefixes.{Prefixes}
use Rattle.drv_specs.specs.Sets.{Set, text_of}
use Rattle.drv_syntax.specs.Parsed.{tree_of}
use Rattle.drv_system.specs.Facts.{Facts}
use Rattle.drv_system.specs.Gives.{GivesKnown}
use Rattle.drv_system.specs.Known.{◌>>=◌, Is}
use Rattle.drv_words.specs.declared.plan.Job.{Job}
use Rattle.drv_words.specs.declared.plan.Plan.{Plan}
use Rattle.std.proofs.Common.{[], ◌≡◌, ◌<◌, ◌+◌, ◌⊎◌, ◌∙◌, Bool, List, ◌∷◌, ◌++◌, Err, IsErrAnd, None, Ok, Option, Result, Some, ap, drop}
use Rattle.std.proofs.Common.{false, if◌then◌else◌, inl, inr, length, subst, sym, ℕ}
use Rattle.std.proofs.lemmas.List.{drop_more}
use Rattle.std.specs.Option.{option_map}
use Rattle.std.specs.Prelude.{◌==◌, codes, get_or}

-- For `plan` (the code of `denoted`): the steps of a plan, one after another: each input, by its language, is a source whose text is
-- processed, or a word for the link; then the link's text is processed. `Progress` is what the inputs so far gave; `whole` is what the
-- definition gives of all of them.
-- Names: `F` is what is known of the outside. `set` is the specs: named texts, and pairs of suffixes and languages. `inputs` is the inputs
-- of the line, from here on. `place` is the place of an input on the line. `C` is the context in which a text is processed. `g` is what the
-- inputs before gave: jobs, outputs, notices, options. `after` is the progress after one more input. `text` is the text of a language, or
-- of the link. `source` is an input with its language. `fault` is a refusal. `X` is the type of what a step gives. `Y` is the type of what
-- all steps give. `defined` is what the definition gives of a step. `next` is what follows the step. `Planned` is a value, a refusal, or
-- `Unasked` if the facts lack an answer. `worked` processes a text and adds its job. `with_inputs` is what all inputs give.
-- `then_by step next` goes on with what a step gives, unless it is refused. `finished` is the plan after the inputs, with the link.
-- `planned F set inputs C` is the defined plan. `outcome` is what processing a text gives. The names of temporaries contain the `seed`.

-- a refusal of a step is that of the plan
pub refusal_given : {X Y : Type 0} (fault : PlanFault) (result : Result X PlanFault) (view : X → Y) (defined : Planned Y)
    → IsErrAnd result (λ e. e ≡ fault) → (fault ≡ Memory) ⊎ (defined ≡ Is (Err fault)) → GivesKnown Memory view result defined
refusal_given fault (Ok x) view defined is refused = absurd is
refusal_given fault (Err e) view defined is (inl memory) = inl (is ∙ memory)
refusal_given fault (Err e) view defined is (inr refused) = inr (refused ∙ ap (λ f. Is (Err f)) (sym is))

-- an answer to one definition is an answer to an equal one
pub given_alike : {X Y : Type 0} (view : X → Y) (result : Result X PlanFault) (found defined : Planned Y) → defined ≡ found
    → GivesKnown Memory view result found → GivesKnown Memory view result defined
given_alike view result found defined alike given = subst (λ d. GivesKnown Memory view result d) (sym alike) given

-- a step that is refused stops what follows it
pub stops : {X Y : Type 0} (fault : PlanFault) (step : Planned X) (next : X → Planned Y) → (fault ≡ Memory) ⊎ (step ≡ Is (Err fault))
    → (fault ≡ Memory) ⊎ (then_by step next ≡ Is (Err fault))
stops fault step next (inl memory) = inl memory
stops fault step next (inr refuses) = inr (ap (λ p. then_by p next) refuses)

-- a step that gives a value is followed by what comes next
pub goes : {X Y : Type 0} (x : X) (step : Planned X) (next : X → Planned Y) → step ≡ Is (Ok x) → then_by step next ≡ next x
goes x step next is = ap (λ p. then_by p next) is

-- a text that has no job stops the plan, with its refusal
pub text_stops : {X Y : Type 0} (fault : MachineFault) (answer : Answer X) (next : X → Planned Y)
    → (fault ≡ machine.Memory) ⊎ (answer ≡ Is (Err fault))
    → (lifted fault ≡ Memory) ⊎ (then_by (of_text answer) next ≡ Is (Err (lifted fault)))
text_stops fault answer next (inl memory) = inl (ap lifted memory)
text_stops fault answer next (inr refuses) = inr (ap (λ a. then_by (of_text a) next) refuses)

-- a text that has a job is followed by what comes next
pub text_goes : {X Y : Type 0} (x : X) (answer : Answer X) (next : X → Planned Y) → answer ≡ Is (Ok x)
    → then_by (of_text answer) next ≡ next x
text_goes x answer next is = ap (λ a. then_by (of_text a) next) is

-- a refusal of one definition, or lack of memory, is one of an equal definition
pub refused_alike : {Y : Type 0} (fault : PlanFault) (found defined : Planned Y) → defined ≡ found
    → (fault ≡ Memory) ⊎ (found ≡ Is (Err fault)) → (fault ≡ Memory) ⊎ (defined ≡ Is (Err fault))
refused_alike fault found defined alike (inl memory) = inl memory
refused_alike fault found defined alike (inr refuses) = inr (alike ∙ refuses)

-- a file is processed by the language that was found for it
pub file_chosen : (F : Facts) (set : Set) (place : ℕ) (input : Input) (name : List ℕ) (language : Option (List ℕ))
    (chosen : Option Chosen) (g : Progress)
    → input ≡ File name language → chosen_for set input ≡ Ok chosen → with_input F set place input g ≡ with_file F place name (Ok chosen) g
file_chosen F set place input name language chosen g is chose =
    ap (λ i. with_input F set place i g) is ∙ ap (λ r. with_file F place name r g) (ap (chosen_for set) (sym is) ∙ chose)

-- an input without a language has no plan; words of the link need no language
pub language_refused : (F : Facts) (set : Set) (place : ℕ) (input : Input) (g : Progress) (fault : PlanFault)
    → (fault ≡ Memory) ⊎ (chosen_for set input ≡ Err fault)
    → (fault ≡ Memory) ⊎ (with_input F set place input g ≡ Is (Err fault))
language_refused F set place input g fault (inl memory) = inl memory
language_refused F set place (File name language) g fault (inr refuses) = inr (ap (λ r. with_file F place name r g) refuses)
language_refused F set place (Library word) g fault (inr refuses) = absurd cc
language_refused F set place (LinkWord word) g fault (inr refuses) = absurd cc

-- a source is processed by its name, its language and the text of that
pub source_chosen : (F : Facts) (place : ℕ) (name : List ℕ) (c : Chosen) (source : Source) (text : List ℕ) (g : Progress)
    → source ≡ record { name = name; language = c.name } → text ≡ c.text → with_file F place name (Ok (Some c)) g
    ≡ with_source F place source text g
source_chosen F place name c source text g is same =
    ap (λ (s : Source). with_source F place s c.text g) (sym is) ∙ ap (λ t. with_source F place source t g) (sym same)

-- the next input, if the first one is done
abbrev then_inputs : Facts → Set → ℕ → List Input → Planned Progress → Planned Progress
then_inputs F set place inputs step = then_by step (λ g. with_inputs F set place inputs g)

-- the inputs from this place on: that one, and those after it
at_input : (F : Facts) (set : Set) (inputs : List Input) (place : ℕ) (next : Input) (g : Progress) → place < length inputs
    → next ≡ get_or inputs place next
    → with_inputs F set place (drop place inputs) g ≡ then_inputs F set (place + 1) (drop (place + 1) inputs)
    (with_input F set place next g)
at_input F set inputs place next g below here =
    ap (λ left. with_inputs F set place left g) (drop_more inputs place next below
    ∙ ap (λ input. input ∷ drop (place + 1) inputs) (sym here))

-- the next input was processed: those after it are left
pub input_taken : (F : Facts) (set : Set) (inputs : List Input) (place : ℕ) (next : Input) (g after : Progress) (whole : Planned Progress)
    → place < length inputs → next ≡ get_or inputs place next → with_input F set place next g ≡ Is (Ok after)
    → with_inputs F set place (drop place inputs) g ≡ whole
    → with_inputs F set (place + 1) (drop (place + 1) inputs) after ≡ whole
input_taken F set inputs place next g after whole below here is before =
    sym (at_input F set inputs place next g below here ∙ ap (then_inputs F set (place + 1) (drop (place + 1) inputs)) is) ∙ before

-- where the next input is refused, so is the whole
pub input_refused : (F : Facts) (set : Set) (inputs : List Input) (place : ℕ) (next : Input) (g : Progress) (fault : PlanFault)
    (whole : Planned Progress)
    → place < length inputs → next ≡ get_or inputs place next → (fault ≡ Memory) ⊎ (with_input F set place next g ≡ Is (Err fault))
    → with_inputs F set place (drop place inputs) g ≡ whole
    → (fault ≡ Memory) ⊎ (whole ≡ Is (Err fault))
input_refused F set inputs place next g fault whole below here (inl memory) before = inl memory
input_refused F set inputs place next g fault whole below here (inr refuses) before =
    inr (sym before ∙ at_input F set inputs place next g below here ∙ ap (then_inputs F set (place + 1) (drop (place + 1) inputs)) refuses)

-- a borrowed item that is there shows a value
pub lent_is : {T V : Type 0} (now : T → V) (lent : Option T) (item : T) (value : Option V) → option_map now lent ≡ value → lent ≡ Some item
    → value ≡ Some (now item)
lent_is now lent item value shows is = sym shows ∙ ap (option_map now) is

-- the link: with nothing to link, and with something
abbrev by_emptiness : Facts → Progress → Option (List ℕ) → Bool → Planned (Option Job × Progress)
by_emptiness F g text none = if none then Is (Ok (None, g)) else with_text F text g

-- with an output the text of the link is looked up
pub link_tried : (F : Facts) (set : Set) (g : Progress) (outputs : List (List ℕ)) (empty : Bool) (name : List ℕ) (text : Option (List ℕ))
    → outputs ≡ g.outputs → empty ≡ (length outputs == 0) → empty ≡ false → name ≡ codes "link_command" → text_of set name ≡ text
    → with_link F set g ≡ with_text F text g
link_tried F set g outputs empty name text are tests some named has =
    ap (by_emptiness F g (text_of set (codes "link_command"))) (ap (λ list. length list == 0) (sym are) ∙ sym tests ∙ some)
    ∙ ap (λ t. with_text F t g) (ap (text_of set) (sym named) ∙ has)

-- the inputs first, and then the rest
abbrev after_inputs : Facts → Set → List Input → Progress → Planned Plan
after_inputs F set inputs g = then_by (with_inputs F set 0 inputs g) (λ g'. finished F set g')

-- all inputs are done: the rest of the plan follows
pub inputs_worked : (F : Facts) (set : Set) (inputs : List Input) (g after : Progress) → with_inputs F set 0 inputs g ≡ Is (Ok after)
    → after_inputs F set inputs g ≡ finished F set after
inputs_worked F set inputs g after went = goes after (with_inputs F set 0 inputs g) (λ g'. finished F set g') went

-- an input is refused, and so is the plan
pub inputs_refused : (F : Facts) (set : Set) (inputs : List Input) (g : Progress) (fault : PlanFault)
    → (fault ≡ Memory) ⊎ (with_inputs F set 0 inputs g ≡ Is (Err fault))
    → (fault ≡ Memory) ⊎ (after_inputs F set inputs g ≡ Is (Err fault))
inputs_refused F set inputs g fault refused = stops fault (with_inputs F set 0 inputs g) (λ g'. finished F set g') refused

-- a plan begins with no input done
pub plan_begun : (F : Facts) (set : Set) (inputs : List Input) (C : Context) (start : Progress) → start ≡ begun C
    → planned F set inputs C ≡ after_inputs F set inputs start
plan_begun F set inputs C start is = ap (after_inputs F set inputs) (sym is)

-- a plan is made in the context with the prefixes of the line
pub prefixes_first : (F : Facts) (line : Line) (set : Set) (seed : ℕ) (dirs : List (List ℕ)) (inputs : List Input)
    (prefixes : Prefixes) (C : Context)
    → dirs ≡ line.settings.prefixes → inputs ≡ line.inputs → prefixes_of F dirs ≡ Is prefixes → C ≡ context_of line set prefixes seed
    → denoted F line set seed ≡ planned F set inputs C
prefixes_first F line set seed dirs inputs prefixes C dirs_are inputs_are made is =
    ap (λ known. known >>= λ p. planned F set line.inputs (context_of line set p seed)) (ap (prefixes_of F) (sym dirs_are) ∙ made)
    ∙ ap (planned F set line.inputs) (sym is) ∙ ap (λ list. planned F set list C) (sym inputs_are)

-- a text gives its job, and its options and numbers go on to the next text
pub text_worked : (F : Facts) (text : List ℕ) (g after : Progress) (done : Outcome) (job : Job)
    → outcome F g.context (tree_of text) ≡ Is (Ok done)
    → after ≡ after_text done g → job ≡ done.job → worked F text g ≡ Is (Ok (job, after))
text_worked F text g after done job works kept same =
    text_goes done (outcome F g.context (tree_of text)) (λ o. Is (Ok (o.job, after_text o g))) works
    ∙ ap (λ (j : Job). Is (Ok (j, after_text done g))) (sym same) ∙ ap (λ (g' : Progress). Is (Ok (job, g'))) (sym kept)

-- a text whose outcome is a refusal refuses the plan
pub text_refused : (F : Facts) (text : List ℕ) (g : Progress) (fault : MachineFault)
    → (fault ≡ machine.Memory) ⊎ (outcome F g.context (tree_of text) ≡ Is (Err fault))
    → (lifted fault ≡ Memory) ⊎ (worked F text g ≡ Is (Err (lifted fault)))
text_refused F text g fault refused = text_stops fault (outcome F g.context (tree_of text)) (λ o. Is (Ok (o.job, after_text o g))) refused

-- the context of a source's text
pub source_set : (g : Progress) (source : Source) (C : Context) → C ≡ record g.context { input = Some source }
    → for_source source g ≡ record g { context = C }
source_set g source C is = ap (λ (D : Context). record g { context = D }) (sym is)

-- a source's job goes to the plan, and its output to the link
pub source_worked : (F : Facts) (place : ℕ) (source : Source) (text : List ℕ) (g : Progress) (C : Context) (job placed : Job)
    (worked_on after : Progress) → C ≡ record g.context { input = Some source }
    → worked F text (record g { context = C }) ≡ Is (Ok (job, worked_on)) → placed ≡ of_source place job
    → after ≡ after_job placed worked_on → with_source F place source text g ≡ Is (Ok after)
source_worked F place source text g C job placed worked_on after is works its added =
    goes (job, worked_on) (worked F text (for_source source g)) (λ done. Is (Ok (after_job (of_source place done.0) done.1)))
    (ap (worked F text) (source_set g source C is) ∙ works)
    ∙ ap (λ (j : Job). Is (Ok (after_job j worked_on))) (sym its) ∙ ap (λ (g' : Progress). Is (Ok g')) (sym added)

-- a source whose text is refused refuses the plan
pub source_refused : (F : Facts) (place : ℕ) (source : Source) (text : List ℕ) (g : Progress) (C : Context) (fault : PlanFault)
    → C ≡ record g.context { input = Some source }
    → (fault ≡ Memory) ⊎ (worked F text (record g { context = C }) ≡ Is (Err fault))
    → (fault ≡ Memory) ⊎ (with_source F place source text g ≡ Is (Err fault))
source_refused F place source text g C fault is refused =
    stops fault (worked F text (for_source source g)) (λ done. Is (Ok (after_job (of_source place done.0) done.1)))
    (refused_alike fault (worked F text (record g { context = C })) (worked F text (for_source source g))
    (ap (worked F text) (source_set g source C is)) refused)

-- the context of the link's text: the outputs go to it
pub link_set : (g : Progress) (C D : Context) (outputs left none : List (List ℕ)) → C ≡ record g.context { input = None }
    → D ≡ record C { outputs = outputs }
    → outputs ≡ g.outputs → left ≡ none → none ≡ [] → for_link g ≡ record g { context = D; outputs = left }
link_set g C D outputs left none first second are following empty =
    ap (λ list. record g { context = record g.context { input = None; outputs = list }; outputs = [] }) (sym are)
    ∙ ap (λ (E : Context). record g { context = record E { outputs = outputs }; outputs = [] }) (sym first)
    ∙ ap (λ (E : Context). record g { context = E; outputs = [] }) (sym second)
    ∙ ap (λ list. record g { context = D; outputs = list }) (sym empty ∙ sym following)

-- the link's text gives a job, which is the link if it has a command
pub link_done : (F : Facts) (text : List ℕ) (g after : Progress) (job : Job) (link : Option Job)
    → worked F text (for_link g) ≡ Is (Ok (job, after)) → link ≡ with_command job
    → with_text F (Some text) g ≡ Is (Ok (link, after))
link_done F text g after job link works is =
    goes (job, after) (worked F text (for_link g)) (λ done. Is (Ok (linked done))) works ∙ ap (λ l. Is (Ok (l, after))) (sym is)

-- where the link's text is refused, so is the link
pub link_refused : (F : Facts) (text : List ℕ) (g : Progress) (fault : PlanFault)
    → (fault ≡ Memory) ⊎ (worked F text (for_link g) ≡ Is (Err fault)) → (fault ≡ Memory) ⊎ (with_text F (Some text) g ≡ Is (Err fault))
link_refused F text g fault refused = stops fault (worked F text (for_link g)) (λ done. Is (Ok (linked done))) refused

-- the plan, where the link is processed or there is none
pub plan_finished : (F : Facts) (set : Set) (g after : Progress) (link : Option Job) (plan : Plan)
    → with_link F set g ≡ Is (Ok (link, after)) → plan ≡ plan_of (link, after)
    → finished F set g ≡ Is (Ok plan)
plan_finished F set g after link plan works is =
    goes (link, after) (with_link F set g) (λ done. Is (Ok (plan_of done))) works ∙ ap (λ (p : Plan). Is (Ok p)) (sym is)

-- where the link is refused, so is the plan
pub plan_refused : (F : Facts) (set : Set) (g : Progress) (fault : PlanFault) → (fault ≡ Memory) ⊎ (with_link F set g ≡ Is (Err fault))
    → (fault ≡ Memory) ⊎ (finished F set g ≡ Is (Err fault))
plan_refused F set g fault refused = stops fault (with_link F set g) (λ done. Is (Ok (plan_of done))) refused
