use Rattle.drv_args.specs.declared.line.Input.TheVariants.{File, Library, LinkWord}
use Rattle.drv_args.specs.declared.line.Input.{Input}
use Rattle.drv_args.specs.declared.line.Line.{Line}
use Rattle.drv_machine.specs.Context.{Context, Source}
use Rattle.drv_machine.specs.Outcome.{outcome}
use Rattle.drv_machine.specs.declared.outcome.Outcome.{Outcome}
use Rattle.drv_plan.specs.Denoted.{context_of, of_source, output_list, unused, with_command}
use Rattle.drv_plan.specs.Languages.{Chosen, chosen_for}
use Rattle.drv_plan.specs.declared.fault.PlanFault.{PlanFault}
use Rattle.drv_search.specs.Search.{prefixes_of}
use Rattle.drv_search.specs.declared.prefixes.Prefixes.{Prefixes}
use Rattle.drv_specs.specs.Sets.{Set, text_of}
use Rattle.drv_syntax.specs.Parsed.{tree_of}
use Rattle.drv_system.specs.Facts.{Facts}
use Rattle.drv_system.specs.Known.{Is}
use Rattle.drv_words.specs.declared.plan.Job.{Job}
use Rattle.drv_words.specs.declared.plan.Plan.{Plan}
use Rattle.std.specs.List.{flat_map}
use Rattle.std.specs.Prelude.{◌≡◌, ◌+◌, ◌==◌, ⊤, Err, List, [], ◌∷◌, ◌++◌, None, Ok, Option, Result, Some, codes, if◌then◌else◌, length, ℕ}

-- The plan of a line, by the outcomes of its texts (GCC manual, "Overall Options" and "Spec Files").

-- a text that is run for a source: the source's place in the line, the source, and the text
pub record Text : Type 0 where
  pub place : ℕ
  pub source : Source
  pub text : List ℕ

-- the part of an input in the plan
pub data Part : Type 0 where
  Work : Text → Part  -- a file that is worked with a text
  Object : List ℕ → Part  -- a file that is the linker's
  Word : List ℕ → Part  -- a library, or what -Wl and -Xlinker say

-- a file, by its language; a line with a refused file has no plan
abbrev pub file_part : ℕ → List ℕ → Result (Option Chosen) PlanFault → List Part
file_part place name (Ok (Some c)) = Work (record { place = place; source = record { name = name; language = c.name }; text = c.text }) ∷ []
file_part place name (Ok None) = Object name ∷ []
file_part place name (Err fault) = []

-- the parts of the inputs, from this place on
abbrev pub parts : Set → ℕ → List Input → List Part
parts set place [] = []
parts set place (File name language ∷ inputs) = file_part place name (chosen_for set (File name language)) ++ parts set (place + 1) inputs
parts set place (Library word ∷ inputs) = Word word ∷ parts set (place + 1) inputs
parts set place (LinkWord word ∷ inputs) = Word word ∷ parts set (place + 1) inputs

-- what the text before passes to the next one: the options that %x has added, and the number of the next temporary
abbrev pub accumulated_after : Option Outcome → List (List ℕ)
accumulated_after None = []
accumulated_after (Some o) = o.accumulated

-- the number of the next temporary
abbrev pub number_after : Option Outcome → ℕ
number_after None = 1
number_after (Some o) = o.next_number

-- the context after a text
abbrev pub context_after : Option Outcome → Context → Context
context_after before C = record C { accumulated = accumulated_after before; number = number_after before }

-- the last of these outcomes, after an earlier one
abbrev pub last : Option Outcome → List Outcome → Option Outcome
last before [] = before
last before (o ∷ os) = last (Some o) os

-- The k-th outcome is that of the k-th text, in the context that the text before it leaves.
abbrev pub EachWorked : Facts → Context → Option Outcome → List Part → List Outcome → Type 0
EachWorked F C before [] [] = ⊤
EachWorked F C before [] (o ∷ os) = ⊥
EachWorked F C before (Work t ∷ ps) [] = ⊥
EachWorked F C before (Work t ∷ ps) (o ∷ os) = (outcome F (record (context_after before C) { input = Some t.source }) (tree_of t.text)
    ≡ Is (Ok o)) × EachWorked F C (Some o) ps os
EachWorked F C before (Object name ∷ ps) os = EachWorked F C before ps os
EachWorked F C before (Word word ∷ ps) os = EachWorked F C before ps os

-- the jobs of the sources, each with its place
abbrev pub jobs_of : List Part → List Outcome → List Job
jobs_of (Work t ∷ ps) (o ∷ os) = of_source t.place o.job ∷ jobs_of ps os
jobs_of (Work t ∷ ps) [] = []
jobs_of (Object name ∷ ps) os = jobs_of ps os
jobs_of (Word word ∷ ps) os = jobs_of ps os
jobs_of [] os = []

-- the words of the link, each at the place of its input; for a source this is its output, if it has one
abbrev pub link_words : List Part → List Outcome → List (List ℕ)
link_words (Work t ∷ ps) (o ∷ os) = output_list o.job.output ++ link_words ps os
link_words (Work t ∷ ps) [] = []
link_words (Object name ∷ ps) os = name ∷ link_words ps os
link_words (Word word ∷ ps) os = word ∷ link_words ps os
link_words [] os = []

-- the names of the files of the linker
abbrev pub objects : List Part → List (List ℕ)
objects [] = []
objects (Work t ∷ ps) = objects ps
objects (Object name ∷ ps) = name ∷ objects ps
objects (Word word ∷ ps) = objects ps

-- the text of the link, if there is something to link
abbrev pub link_text : Set → List (List ℕ) → Option (List ℕ)
link_text set words = if length words == 0 then None else text_of set (codes "link_command")

-- the link is the outcome of its text, if the job has a command; its notices are these
pub record LinkWorked (F : Facts) (C : Context) (text : List ℕ) (link : Option Job) (notices : List (List ℕ)) : Type 0 where
  pub o : Outcome
  pub is : outcome F C (tree_of text) ≡ Is (Ok o)
  pub link_is : link ≡ with_command o.job
  pub notices_are : notices ≡ o.notices

-- the link and the notices are those of the link's text, or there is no link
abbrev pub LinkIs : Facts → Context → Option (List ℕ) → Option Job → List (List ℕ) → Type 0
LinkIs F C None link notices = (link ≡ None) × (notices ≡ [])
LinkIs F C (Some text) link notices = LinkWorked F C text link notices

-- Each source's text is run in the order of the line, with the options and numbers that the text before it leaves. These jobs are the jobs
-- of the plan. The link's text is run last, over the words of the link. The notices are those of the texts in this order, followed by those
-- for the files that no link takes. `prefixes` are where the line's files are searched (`prefixes_are`). `outcomes` are those of the
-- sources' texts (`each`). The names of temporaries contain the `seed`.
pub record IsPlanOf (F : Facts) (line : Line) (set : Set) (seed : ℕ) (plan : Plan) : Type 0 where
  pub prefixes : Prefixes
  pub prefixes_are : prefixes_of F line.settings.prefixes ≡ Is prefixes
  pub outcomes : List Outcome
  pub each : EachWorked F (context_of line set prefixes seed) None (parts set 0 line.inputs) outcomes
  pub jobs_are : plan.jobs ≡ jobs_of (parts set 0 line.inputs) outcomes
  pub link_notices : List (List ℕ)
  pub link_is :
      LinkIs F (record (context_after (last None outcomes) (context_of line set prefixes seed))
      { outputs = link_words (parts set 0 line.inputs) outcomes })
      (link_text set (link_words (parts set 0 line.inputs) outcomes)) plan.link link_notices
  pub notices_are : plan.notices ≡ flat_map (λ o. o.notices) outcomes ++ link_notices
      ++ unused plan.link (objects (parts set 0 line.inputs))
