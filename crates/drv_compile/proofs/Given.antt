use Rattle.drv_args.specs.declared.fault.ArgsFault.TheVariants as args_fault
use Rattle.drv_args.specs.declared.fault.ArgsFault.{ArgsFault}
use Rattle.drv_args.specs.declared.items.Item.{Item}
use Rattle.drv_args.specs.declared.line.Line.{Line}
use Rattle.drv_args.specs.declared.line.Settings.{Settings}
use Rattle.drv_cc.specs.SelfSpecs.{front_with, seen_items}
use Rattle.drv_cc.specs.declared.answer.Answer.{Answer}
use Rattle.drv_cc.specs.declared.answer.Surroundings.{Surroundings}
use Rattle.drv_cc.specs.declared.giving.Given.{Given}
use Rattle.drv_compile.specs.Beside.{known_names}
use Rattle.drv_compile.specs.Reading.{items_names}
use Rattle.drv_compile.specs.Runs.{specs_of}
use Rattle.drv_compile.specs.SelfSpecs.{Ended, answer_after, answer_by, of_job, of_outcome, self_worked, worked_along, worked_by}
use Rattle.drv_compile.specs.SelfSpecs.{worked_for, worked_of}
use Rattle.drv_compile.specs.SelfSpecs.{worked_over}
use Rattle.drv_compile.specs.declared.request.GccLine.{GccLine}
use Rattle.drv_compile.specs.declared.running.DriverLine.{DriverLine}
use Rattle.drv_compile.specs.declared.self_specs.Worked.TheVariants.{Gives, Nothing}
use Rattle.drv_compile.specs.declared.self_specs.Worked.{Worked}
use Rattle.drv_machine.specs.Context.{Context}
use Rattle.drv_machine.specs.Outcome.{outcome}
use Rattle.drv_machine.specs.declared.outcome.Outcome.{Outcome}
use Rattle.drv_plan.specs.Denoted.{context_of, of_text}
use Rattle.drv_plan.specs.declared.fault.PlanFault.TheVariants as plan_fault
use Rattle.drv_plan.specs.declared.fault.PlanFault.{PlanFault}
use Rattle.drv_run.specs.Drives.{stopped_by_args, stopped_by_plan, stopped_by_specs}
use Rattle.drv_run.specs.declared.ending.Ending.TheVariants.{OutOfMemory}
use Rattle.drv_run.specs.declared.ending.Ending.{Ending}
use Rattle.drv_search.specs.Search.{prefixes_of}
use Rattle.drv_search.specs.declared.prefixes.Prefixes.{Prefixes}
use Rattle.drv_specs.specs.Sets.{Set, text_of}
use Rattle.drv_specs.specs.declared.fault.SpecsFault.TheVariants as specs_fault
use Rattle.drv_specs.specs.declared.fault.SpecsFault.{SpecsFault}
use Rattle.drv_syntax.specs.Parsed.{tree_of}
use Rattle.drv_system.specs.Facts.{Facts}
use Rattle.drv_system.specs.Gives.{GivesKnown}
use Rattle.drv_system.specs.Known.{◌>>=◌, Is, Known}
use Rattle.std.proofs.Common.{◌≡◌, ◌⊎◌, ◌∙◌, Err, IfOk, IsErrAnd, List, None, Ok, Option, Result, Some, ap, inl, inr, refl, subst}
use Rattle.std.proofs.Common.{sym, ℕ}
use Rattle.std.specs.Option.{option_map, unwrap_or}

-- For the options that spec files give (src/self_specs.rt): the text of the self specs is run step by step.
-- Names: `F` is what is known of the outside. `line` is the line of gcc, or that of the driver with the switches that the text sees.
-- `first` is what the driver is called with before the line's spec files. `own` is the same as a line. `settings` is its settings, `set`
-- its spec texts, and `text` the text that is run. `name` is the name of that text. `judged` is the line of the switches, and `read` that
-- of the driver, or why each is refused. `worked` is what the text gives. `items` is the items that it sees. `fault` is why a step is
-- refused, and `ending` how the call ends then. `found` and `defined` are values of definitions. `result` is what the code's call gives.
-- `Ended X` is a value over facts, or how it ends the call. `GivesKnown fault view result defined`: the result is the defined one, or
-- memory lacked (drv_system). `IsErrAnd result P`: there is a fault, of which P holds. `worked_of`, `worked_by`, `worked_for` and
-- `worked_along` are the work of a text, from its name to its last step (specs/SelfSpecs).

-- a step that ends the call
pub ends_as : {X Y : Type 0} (ending : Ending) (result : Result X Ending) (view : X → Y) (defined : Ended Y)
    → IsErrAnd result (λ e. e ≡ ending) → (ending ≡ OutOfMemory) ⊎ (defined ≡ Is (Err ending)) → GivesKnown OutOfMemory view result defined
ends_as ending (Ok x) view defined is given = absurd is
ends_as ending (Err e) view defined is (inl memory) = inl (is ∙ memory)
ends_as ending (Err e) view defined is (inr refused) = inr (refused ∙ ap (λ f. Is (Err f)) (sym is))

-- what answers one definition answers another that is the same
pub alike : {X Y : Type 0} (view : X → Y) (result : Result X Ending) (found defined : Ended Y) → defined ≡ found
    → GivesKnown OutOfMemory view result found → GivesKnown OutOfMemory view result defined
alike view result found defined same given = subst (λ d. GivesKnown OutOfMemory view result d) (sym same) given

-- the text, once the prefixes and the context are known
pub text_worked : (found : Known (Result Outcome PlanFault)) (done : Outcome) (worked : Worked)
    → found ≡ Is (Ok done) → worked ≡ of_job done.job → of_outcome found ≡ Is (Ok worked)
text_worked found done worked is job = ap of_outcome is ∙ ap (λ w. Is (Ok w)) (sym job)

-- For `worked_line`: if the context is the one of the line, the set and the prefixes, then the outcome of the text in it is the work along
-- the line.
pub context_made : (F : Facts) (set : Set) (text : List ℕ) (line : Line) (prefixes : Prefixes) (context : Context)
    → context ≡ context_of line set prefixes 0
    → worked_along F set text line prefixes ≡ of_outcome (of_text (outcome F context (tree_of text)))
context_made F set text line prefixes context made = ap (λ c. of_outcome (of_text (outcome F c (tree_of text)))) (sym made)

-- For `worked_line`: if the prefixes are those of the settings, then working the text along the line with them is working it for the line.
pub prefixes_made : (F : Facts) (settings : Settings) (set : Set) (text : List ℕ) (line : Line) (prefixes : Prefixes)
    → prefixes_of F settings.prefixes ≡ Is prefixes → worked_for F settings set text (Ok line) ≡ worked_along F set text line prefixes
prefixes_made F settings set text line prefixes known = ap (λ k. k >>= worked_along F set text line) known

-- a fault of the plan ends the call, unless it is lack of memory
by_plan : (fault : PlanFault) (found : Known (Result Outcome PlanFault)) (defined : Ended Worked) → defined ≡ of_outcome found
    → (fault ≡ plan_fault.Memory) ⊎ (found ≡ Is (Err fault))
    → (stopped_by_plan fault ≡ OutOfMemory) ⊎ (defined ≡ Is (Err (stopped_by_plan fault)))
by_plan fault found defined same (inl memory) = inl (ap stopped_by_plan memory)
by_plan fault found defined same (inr refused) = inr (same ∙ ap of_outcome refused)

-- For `worked_in`: if the plan has a fault, or memory lacked, then the work of the text ends so.
pub text_refused : (found : Known (Result Outcome PlanFault)) (fault : PlanFault) (result : Result Worked Ending)
    → IsErrAnd result (λ e. e ≡ stopped_by_plan fault) → (fault ≡ plan_fault.Memory) ⊎ (found ≡ Is (Err fault))
    → GivesKnown OutOfMemory (λ worked. worked) result (of_outcome found)
text_refused found fault result is given =
    ends_as (stopped_by_plan fault) result (λ worked. worked) (of_outcome found) is (by_plan fault found (of_outcome found) refl given)

-- the line of the switches
by_args : (fault : ArgsFault) (read : Result Line ArgsFault) (next : Result Line ArgsFault → Ended Worked)
    → next (Err fault) ≡ Is (Err (stopped_by_args fault))
    → (fault ≡ args_fault.Memory) ⊎ (read ≡ Err fault)
    → (stopped_by_args fault ≡ OutOfMemory) ⊎ (next read ≡ Is (Err (stopped_by_args fault)))
by_args fault read next stops (inl memory) = inl (ap stopped_by_args memory)
by_args fault read next stops (inr refused) = inr (ap next refused ∙ stops)

-- For `worked_for` and `text_worked`: if a line was refused, or memory lacked, then what follows ends so.
pub line_refused : (fault : ArgsFault) (read : Result Line ArgsFault) (next : Result Line ArgsFault → Ended Worked)
    (result : Result Worked Ending) → next (Err fault) ≡ Is (Err (stopped_by_args fault))
    → IsErrAnd result (λ e. e ≡ stopped_by_args fault) → (fault ≡ args_fault.Memory) ⊎ (read ≡ Err fault)
    → GivesKnown OutOfMemory (λ worked. worked) result (next read)
line_refused fault read next result stops is given =
    ends_as (stopped_by_args fault) result (λ worked. worked) (next read) is (by_args fault read next stops given)

-- the specs that are loaded
by_specs : (fault : SpecsFault) (F : Facts) (name : List ℕ) (own : Line) (judged read : Result Line ArgsFault) → read ≡ Ok own
    → (fault ≡ specs_fault.Memory) ⊎ (specs_of F own.settings ≡ Is (Err fault))
    → (stopped_by_specs fault ≡ OutOfMemory) ⊎ (worked_of F name judged read ≡ Is (Err (stopped_by_specs fault)))
by_specs fault F name own judged read reads (inl memory) = inl (ap stopped_by_specs memory)
by_specs fault F name own judged read reads (inr refused) =
    inr (ap (worked_of F name judged) reads ∙ ap (worked_over F name own.settings judged) refused)

-- For `text_worked`: if a spec file was refused, or memory lacked, then the work of the text ends so.
pub specs_refused : (fault : SpecsFault) (F : Facts) (name : List ℕ) (own : Line) (judged read : Result Line ArgsFault)
    (result : Result Worked Ending) → read ≡ Ok own
    → IsErrAnd result (λ e. e ≡ stopped_by_specs fault) → (fault ≡ specs_fault.Memory) ⊎ (specs_of F own.settings ≡ Is (Err fault))
    → GivesKnown OutOfMemory (λ worked. worked) result (worked_of F name judged read)
specs_refused fault F name own judged read result reads is given =
    ends_as (stopped_by_specs fault) result (λ worked. worked) (worked_of F name judged read) is
    (by_specs fault F name own judged read reads given)

-- For `text_worked`: if the set was loaded, then the work of the named text is that of the text in this set.
pub specs_go : (F : Facts) (name : List ℕ) (own : Line) (set : Set) (judged read : Result Line ArgsFault) → read ≡ Ok own
    → specs_of F own.settings ≡ Is (Ok set)
    → worked_of F name judged read ≡ worked_by F own.settings set judged (text_of set name)
specs_go F name own set judged read reads loads = ap (worked_of F name judged) reads ∙ ap (worked_over F name own.settings judged) loads

-- the text, if there is one
pub text_there : {T : Type 0} (now : T → List ℕ) (lent : Option T) (text : T) (F : Facts) (settings : Settings) (set : Set)
    (line : Result Line ArgsFault) (found : Option (List ℕ))
    → option_map now lent ≡ found → lent ≡ Some text → worked_by F settings set line found ≡ worked_for F settings set (now text) line
text_there now lent text F settings set line found shows is = ap (worked_by F settings set line) (sym shows ∙ ap (option_map now) is)

-- where the set has no such text, the spec files give nothing
pub no_text : {T : Type 0} (now : T → List ℕ) (lent : Option T) (F : Facts) (settings : Settings) (set : Set) (line : Result Line ArgsFault)
    (found : Option (List ℕ))
    → option_map now lent ≡ found → lent ≡ None → worked_by F settings set line found ≡ Is (Ok Nothing)
no_text now lent F settings set line found shows is = ap (worked_by F settings set line) (sym shows ∙ ap (option_map now) is)

-- the answer, once the names are known
abbrev with_names : Surroundings → List ℕ → List (List ℕ) → Given → Option (List ℕ) → List (List ℕ) → Ended (Option Answer)
with_names around known args given options named = Is (Ok (Some (front_with (unwrap_or options known) named around args given)))

-- For `answer_with`: if the names in the line's own spec files were read, and those of the compiler's options, then the answer by both is
-- the answer.
pub options_given : {E : Type 0} (F : Facts) (line : GccLine) (first : DriverLine) (given : Given) (specs known names : List ℕ)
    (words slice : List (List ℕ)) (options : Option (List ℕ)) (all : List Item) (named : List (List ℕ)) (result : Result Answer E)
    → specs ≡ line.chain.specs → known ≡ line.chain.known → words ≡ line.given.words
    → known_names F specs ≡ Is options → all ≡ first.items → items_names F all ≡ Is named → names ≡ unwrap_or options known → slice ≡ named
    → IfOk result (λ answer. answer ≡ front_with names slice line.chain.around words given)
    → IfOk result (λ answer. answer_by F line.chain.specs line.chain.around line.chain.known line.given.words first (Gives given)
    ≡ Is (Ok (Some answer)))
options_given F line first given specs known names words slice options all named (Err e) at knows are asked same found names_are lent is =
    tt
options_given F line first given specs known names words slice options all named (Ok answer) at knows are asked same found names_are lent
    is =
    ap (λ k. k >>= λ o. items_names F first.items >>= λ n. with_names line.chain.around line.chain.known line.given.words given o n)
    (ap (known_names F) (sym at) ∙ asked)
    ∙ ap (λ w. items_names F w >>= λ n. with_names line.chain.around line.chain.known line.given.words given options n) (sym same)
    ∙ ap (λ k. k >>= λ n. with_names line.chain.around line.chain.known line.given.words given options n) found
    ∙ ap (λ k. with_names line.chain.around k line.given.words given options named) (sym knows)
    ∙ ap (λ w. with_names line.chain.around known w given options named) (sym are)
    ∙ ap (λ o. Is (Ok (Some (front_with o named line.chain.around words given)))) (sym names_are)
    ∙ ap (λ n. Is (Ok (Some (front_with names n line.chain.around words given)))) (sym lent)
    ∙ ap (λ a. Is (Ok (Some a))) (sym is)

-- If the items are those by the code's copies of names and words, then they are those by the line's own.
pub seen_by : (line : GccLine) (known : List ℕ) (words : List (List ℕ)) (items : List Item)
    → known ≡ line.chain.known → words ≡ line.given.words → items ≡ seen_items known words
    → items ≡ seen_items line.chain.known line.given.words
seen_by line known words items same_known same_words are =
    are ∙ ap (λ k. seen_items k words) same_known ∙ ap (seen_items line.chain.known) same_words

-- the answer, once the text was run
abbrev after_work : Facts → GccLine → DriverLine → List Item → Ended (Option Answer)
after_work F line first items =
    answer_after F line.chain.specs line.chain.around line.chain.known line.given.words first (self_worked F first items)

-- the end of the work is that of the answer
by_work : (F : Facts) (line : GccLine) (first : DriverLine) (items : List Item) (ending : Ending)
    → items ≡ seen_items line.chain.known line.given.words → (ending ≡ OutOfMemory) ⊎ (self_worked F first items ≡ Is (Err ending))
    → (ending ≡ OutOfMemory) ⊎ (after_work F line first (seen_items line.chain.known line.given.words) ≡ Is (Err ending))
by_work F line first items ending are (inl memory) = inl memory
by_work F line first items ending are (inr ends) =
    inr (ap (after_work F line first) (sym are)
    ∙ ap (answer_after F line.chain.specs line.chain.around line.chain.known line.given.words first) ends)

-- For `answer_of_specs`: if the work ends the call, then the answer ends it in the same way.
pub work_ends : (F : Facts) (line : GccLine) (first : DriverLine) (items : List Item) (ending : Ending)
    (result : Result (Option Answer) Ending)
    → items ≡ seen_items line.chain.known line.given.words → IsErrAnd result (λ e. e ≡ ending)
    → (ending ≡ OutOfMemory) ⊎ (self_worked F first items ≡ Is (Err ending))
    → GivesKnown OutOfMemory (λ answer. answer) result (after_work F line first (seen_items line.chain.known line.given.words))
work_ends F line first items ending result are is given =
    ends_as ending result (λ answer. answer) (after_work F line first (seen_items line.chain.known line.given.words)) is
    (by_work F line first items ending are given)

-- For `answer_of_specs`: if the work gave something, and the answer is by that, then it is the answer after the work.
pub work_answers : (F : Facts) (line : GccLine) (first : DriverLine) (items : List Item) (worked : Worked) (answer : Option Answer)
    → items ≡ seen_items line.chain.known line.given.words → self_worked F first items ≡ Is (Ok worked)
    → answer_by F line.chain.specs line.chain.around line.chain.known line.given.words first worked ≡ Is (Ok answer)
    → after_work F line first (seen_items line.chain.known line.given.words) ≡ Is (Ok answer)
work_answers F line first items worked answer are done is =
    ap (after_work F line first) (sym are)
    ∙ ap (answer_after F line.chain.specs line.chain.around line.chain.known line.given.words first) done ∙ is
