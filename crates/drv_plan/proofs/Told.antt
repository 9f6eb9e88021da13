use Rattle.drv_args.specs.declared.line.Input.TheVariants.{File, Library, LinkWord}
use Rattle.drv_args.specs.declared.line.Input.{Input}
use Rattle.drv_args.specs.declared.line.Line.{Line}
use Rattle.drv_machine.specs.Context.{Context, Source}
use Rattle.drv_machine.specs.Outcome.{outcome}
use Rattle.drv_machine.specs.Working.{Answer}
use Rattle.drv_machine.specs.declared.outcome.Outcome.{Outcome}
use Rattle.drv_plan.specs.Denoted.{Planned, after_job, after_text, begun, context_of, denoted, finished, for_link, for_source, linked}
use Rattle.drv_plan.specs.Denoted.{of_source, of_text, output_list, plan_of, planned, then_by, unused, with_file, with_inputs, with_link}
use Rattle.drv_plan.specs.Denoted.{with_text}
use Rattle.drv_plan.specs.Languages.{Chosen, chosen_for}
use Rattle.drv_plan.specs.Plans.{EachWorked, IsPlanOf, LinkIs, Object, Part, Word, context_after, file_part, jobs_of, last, link_text}
use Rattle.drv_plan.specs.Plans.{link_words, objects, parts}
use Rattle.drv_plan.specs.declared.fault.PlanFault.{PlanFault}
use Rattle.drv_plan.specs.declared.progress.Progress.{Progress}
use Rattle.drv_search.specs.Search.{prefixes_of}
use Rattle.drv_search.specs.declared.prefixes.Prefixes.{Prefixes}
use Rattle.drv_specs.specs.Sets.{Set, text_of}
use Rattle.drv_syntax.specs.Parsed.{tree_of}
use Rattle.drv_system.specs.Facts.{Facts}
use Rattle.drv_system.specs.Known.{◌>>=◌, Is, Known, Unasked}
use Rattle.drv_words.specs.declared.plan.Job.{Job}
use Rattle.drv_words.specs.declared.plan.Plan.{Plan}
use Rattle.std.proofs.Common.{[], ◌≡◌, ◌+◌, ◌∙◌, Bool, List, ◌∷◌, ◌++◌, Err, None, Ok, Option, Result, Some, ap, append-nil, append_assoc}
use Rattle.std.proofs.Common.{false, if◌then◌else◌, length, refl, subst, sym, true, ℕ}
use Rattle.std.specs.List.{flat_map}
use Rattle.std.specs.Prelude.{◌==◌, codes}

-- For plan_law: the defined plan is the one that the outcomes of its texts give (`IsPlanOf`, specs/Plans). A part is what an input gives: a
-- text to be processed, an object file, or a word for the linker. `Ran` says what the outcomes of some parts make of the progress before
-- them.
-- Names: `F` is what is known of the outside. `set` is the specs: named texts, and pairs of suffixes and languages. `C` is the context in
-- which a text is processed. `g` is what the inputs before gave: jobs, outputs, notices, options. `before` is the outcome of the text
-- before, if there was one. `notices` is the notices of all texts. `jobs` is the jobs so far. `words` is the words for the link. `names` is
-- the names of outputs. `ps` is the parts that follow. `plan` is the plan. `then_by step next` goes on with what a step gives, unless it is
-- refused. `Planned` is a value, a refusal, or `Unasked` if the facts lack an answer. `with_inputs` is what all inputs give. `outcome` is
-- what processing a text gives. `tree_of` is the tree of a text. `context_after` is the context after a text: its options, and the next
-- number of a temporary. `of_source` is the job of a source. The names of temporaries contain the `seed`.

-- the progress after a text, with these parts
abbrev state : Context → Option Outcome → Option Source → List (List ℕ) → List Job → List (List ℕ) → List (List ℕ) → Progress
state C before input notices jobs words names = record {
  context = record (context_after before C) { input = input };
  notices = notices;
  jobs = jobs;
  outputs = words;
  passed_on = names;
}

-- what these parts, with the outcomes of their texts, make of the progress before them
record Ran (F : Facts) (C : Context) (before : Option Outcome) (ps : List Part) (notices : List (List ℕ)) (jobs : List Job)
    (words names : List (List ℕ)) (g : Progress) : Type 0 where
  outcomes : List Outcome
  input : Option Source
  each : EachWorked F C before ps outcomes
  is : g ≡ state C (last before outcomes) input (notices ++ flat_map (λ o. o.notices) outcomes) (jobs ++ jobs_of ps outcomes)
      (words ++ link_words ps outcomes) (names ++ objects ps)

-- progress by the same lists is the same
same_state : (C : Context) (b : Option Outcome) (i : Option Source) {ns ns' : List (List ℕ)} {js js' : List Job}
    {ws ws' zs zs' : List (List ℕ)}
    → ns ≡ ns' → js ≡ js' → ws ≡ ws' → zs ≡ zs' → state C b i ns js ws zs ≡ state C b i ns' js' ws' zs'
same_state C b i {ns' = ns'} {js = js} {js' = js'} {ws = ws} {ws' = ws'} {zs = zs} p q r s = ap (λ l. state C b i l js ws zs) p
    ∙ ap (λ l. state C b i ns' l ws zs) q ∙ ap (λ l. state C b i ns' js' l zs) r ∙ ap (λ l. state C b i ns' js' ws' l) s

-- the result of a text: its job, and the progress after it
abbrev with_outcome : Progress → Outcome → Planned (Job × Progress)
with_outcome g o = Is (Ok (o.job, after_text o g))

-- the rest of the plan after a part, if that succeeds
abbrev Follows : Facts → Context → List Part → (Progress → Planned Progress) → Progress → Type 0
Follows F C ps next g = (before : Option Outcome) (input : Option Source) (notices : List (List ℕ)) (jobs : List Job)
    (words names : List (List ℕ))
    → next (state C before input notices jobs words names) ≡ Is (Ok g) → Ran F C before ps notices jobs words names g

-- a word for the linker, and the parts after it
a_word : (F : Facts) (C : Context) (before : Option Outcome) (word : List ℕ) (ps : List Part) (notices : List (List ℕ)) (jobs : List Job)
    (words names : List (List ℕ)) (g : Progress)
    → Ran F C before ps notices jobs (words ++ word ∷ []) names g → Ran F C before (Word word ∷ ps) notices jobs words names g
a_word F C before word ps notices jobs words names g r = record {
  outcomes = r.outcomes;
  input = r.input;
  each = r.each;
  is = r.is ∙ same_state C (last before r.outcomes) r.input refl refl (append_assoc words (word ∷ []) (link_words ps r.outcomes)) refl;
}

-- a file of the linker, and the parts after it
an_object : (F : Facts) (C : Context) (before : Option Outcome) (name : List ℕ) (ps : List Part) (notices : List (List ℕ)) (jobs : List Job)
    (words names : List (List ℕ)) (g : Progress)
    → Ran F C before ps notices jobs (words ++ name ∷ []) (names ++ name ∷ []) g
    → Ran F C before (Object name ∷ ps) notices jobs words names g
an_object F C before name ps notices jobs words names g r = record {
  outcomes = r.outcomes;
  input = r.input;
  each = r.each;
  is = r.is ∙ same_state C (last before r.outcomes) r.input refl refl (append_assoc words (name ∷ []) (link_words ps r.outcomes))
      (append_assoc names (name ∷ []) (objects ps));
}

-- a file of any kind, and the parts after it
a_file : (F : Facts) (C : Context) (before : Option Outcome) (input : Option Source) (place : ℕ) (name : List ℕ)
    (r : Result (Option Chosen) PlanFault) (ps : List Part) (next : Progress → Planned Progress) (notices : List (List ℕ)) (jobs : List Job)
    (words names : List (List ℕ)) (g : Progress)
    → Follows F C ps next g → then_by (with_file F place name r (state C before input notices jobs words names)) next ≡ Is (Ok g)
    → Ran F C before (file_part place name r ++ ps) notices jobs words names g
a_file F C before input place name (Err fault) ps next notices jobs words names g follows e = absurd cc
a_file F C before input place name (Ok None) ps next notices jobs words names g follows e = an_object F C before name ps notices jobs words
    names g (follows before input notices jobs (words ++ name ∷ []) (names ++ name ∷ []) e)
a_file F C before input place name (Ok (Some c)) ps next notices jobs words names g follows e =
    by (outcome F (record (context_after before C) { input = Some source }) (tree_of c.text)) refl e
  where
    -- Plan: by the outcome of the file's text: a refusal ends the plan, and a job is added to the progress.
    source : Source
    source = record { name = name; language = c.name }

    by : (answer : Answer Outcome) → outcome F (record (context_after before C)
        { input = Some (record { name = name; language = c.name }) }) (tree_of c.text) ≡ answer
        → then_by (then_by (then_by (of_text answer)
        (with_outcome (for_source (record { name = name; language = c.name }) (state C before input notices jobs words names))))
        (λ done. Is (Ok (after_job (of_source place done.0) done.1)))) next ≡ Is (Ok g)
        → Ran F C before (file_part place name (Ok (Some c)) ++ ps) notices jobs words names g
    by Unasked is e = absurd cc
    by (Is (Err fault)) is e = absurd cc
    by (Is (Ok o)) is e =
        let r = follows (Some o) (Some (record { name = name; language = c.name })) (notices ++ o.notices)
        (jobs ++ of_source place o.job ∷ []) (words ++ output_list o.job.output) names e in
        record {
          outcomes = o ∷ r.outcomes;
          input = r.input;
          each = (is, r.each);
          is = r.is ∙ same_state C (last (Some o) r.outcomes) r.input
              (append_assoc notices o.notices (flat_map (λ o. o.notices) r.outcomes))
              (append_assoc jobs (of_source place o.job ∷ []) (jobs_of ps r.outcomes))
              (append_assoc words (output_list o.job.output) (link_words ps r.outcomes)) refl;
        }

-- all inputs of a line, as parts with the outcomes of their texts
ran : (F : Facts) (C : Context) (set : Set) (place : ℕ) (inputs : List Input) (g : Progress)
    → Follows F C (parts set place inputs) (λ p. with_inputs F set place inputs p) g
ran F C set place [] g before input notices jobs words names e = record {
  outcomes = [];
  input = input;
  each = tt;
  is =
      let at : g ≡ state C before input notices jobs words names = cc in
      at ∙ same_state C before input (sym (append-nil notices)) (sym (append-nil jobs)) (sym (append-nil words)) (sym (append-nil names));
}
ran F C set place (File name language ∷ inputs) g before input notices jobs words names e =
    a_file F C before input place name (chosen_for set (File name language)) (parts set (place + 1) inputs)
    (λ p. with_inputs F set (place + 1) inputs p) notices jobs words names g (ran F C set (place + 1) inputs g) e
ran F C set place (Library word ∷ inputs) g before input notices jobs words names e =
    a_word F C before word (parts set (place + 1) inputs) notices jobs words names g
    (ran F C set (place + 1) inputs g before input notices jobs
    (words ++ word ∷ []) names e)
ran F C set place (LinkWord word ∷ inputs) g before input notices jobs words names e =
    a_word F C before word (parts set (place + 1) inputs) notices jobs words names g
    (ran F C set (place + 1) inputs g before input notices jobs
    (words ++ word ∷ []) names e)

-- the link

-- what the end of the plan makes of the progress: its jobs, link and notices
record Ends (F : Facts) (C : Context) (text : Option (List ℕ)) (g : Progress) (plan : Plan) : Type 0 where
  jobs_are : plan.jobs ≡ g.jobs
  link_notices : List (List ℕ)
  link_is : LinkIs F (record g.context { input = None; outputs = g.outputs }) text plan.link link_notices
  notices_are : plan.notices ≡ g.notices ++ link_notices ++ unused plan.link g.passed_on

-- without a link the plan has the jobs and the notices so far
with_no_link : (F : Facts) (C : Context) (g : Progress) → Ends F C None g (plan_of (None, g))
with_no_link F C g = record {
  jobs_are = refl;
  link_notices = [];
  link_is = (refl, refl);
  notices_are = ap (λ l. l ++ unused None g.passed_on)
      (sym (append-nil g.notices));
}

-- the link, and the end of the plan
ended : (F : Facts) (C : Context) (text : Option (List ℕ)) (g : Progress) (plan : Plan)
    → then_by (with_text F text g) (λ done. Is (Ok (plan_of done))) ≡ Is (Ok plan) → Ends F C text g plan
ended F C None g plan e = let at : plan_of (None, g) ≡ plan = cc in subst (λ p. Ends F C None g p) at (with_no_link F C g)
ended F C (Some text) g plan e = by (outcome F (record g.context { input = None; outputs = g.outputs }) (tree_of text)) refl e
  where
    -- Plan: by the outcome of the link's text.
    by : (answer : Answer Outcome) → outcome F (record g.context { input = None; outputs = g.outputs }) (tree_of text) ≡ answer
        → then_by (then_by (then_by (of_text answer) (with_outcome (for_link g))) (λ done. Is (Ok (linked done))))
        (λ done. Is (Ok (plan_of done))) ≡ Is (Ok plan)
        → Ends F C (Some text) g plan
    by Unasked is e = absurd cc
    by (Is (Err fault)) is e = absurd cc
    by (Is (Ok o)) is e =
        let at : plan_of (linked (o.job, after_text o (for_link g))) ≡ plan = cc in
        subst (λ p. Ends F C (Some text) g p) at (record {
          jobs_are = refl;
          link_notices = o.notices;
          link_is = record { o = o; is = is; link_is = refl; notices_are = refl };
          notices_are = refl;
        })

-- the link, by the text that is looked up for it
with_link_is : (F : Facts) (set : Set) (g : Progress) → with_link F set g ≡ with_text F (link_text set g.outputs) g
with_link_is F set g = by (length g.outputs == 0)
  where
    -- Plan: `by` goes by both answers of `length g.outputs == 0`.
    by : (t : Bool) → (if t then Is (Ok (None, g)) else with_text F (text_of set (codes "link_command")) g) ≡ with_text F
        (if t then None else text_of set (codes "link_command")) g
    by true = refl
    by false = refl

-- a line

-- a plan that the definition gives for known prefixes
over : (F : Facts) (line : Line) (set : Set) (seed : ℕ) (plan : Plan) (prefixes : Prefixes)
    → prefixes_of F line.settings.prefixes ≡ Is prefixes → planned F set line.inputs (context_of line set prefixes seed) ≡ Is (Ok plan)
    → IsPlanOf F line set seed plan
over F line set seed plan prefixes known e = by (with_inputs F set 0 line.inputs (begun (context_of line set prefixes seed))) refl e
  where
    -- Plan: by what the inputs give: a refusal, nothing known, or a progress from which the link follows.
    by : (found : Planned Progress) → with_inputs F set 0 line.inputs (begun (context_of line set prefixes seed)) ≡ found
        → then_by found (λ g. finished F set g) ≡ Is (Ok plan) → IsPlanOf F line set seed plan
    by Unasked is e = absurd cc
    by (Is (Err fault)) is e = absurd cc
    by (Is (Ok g)) is e = whole g (ran F (context_of line set prefixes seed) set 0 line.inputs g None None [] [] [] [] is) e
      where
        whole : (g : Progress) → Ran F (context_of line set prefixes seed) None (parts set 0 line.inputs) [] [] [] [] g
            → finished F set g ≡ Is (Ok plan) → IsPlanOf F line set seed plan
        whole g r e = told (subst (λ p. Ends F (context_of line set prefixes seed) (link_text set p.outputs) p plan) r.is
            (ended F (context_of line set prefixes seed) (link_text set g.outputs) g plan
            (ap (λ l. then_by l (λ done. Is (Ok (plan_of done)))) (sym (with_link_is F set g)) ∙ e)))
          where
            -- Plan: `told` makes the record of the plan of how the link ends.
            told : Ends F (context_of line set prefixes seed) (link_text set (link_words (parts set 0 line.inputs) r.outcomes))
                (state (context_of line set prefixes seed) (last None r.outcomes) r.input (flat_map (λ o. o.notices) r.outcomes)
                (jobs_of (parts set 0 line.inputs) r.outcomes) (link_words (parts set 0 line.inputs) r.outcomes)
                (objects (parts set 0 line.inputs))) plan
                → IsPlanOf F line set seed plan
            told x = record {
              prefixes = prefixes;
              prefixes_are = known;
              outcomes = r.outcomes;
              each = r.each;
              jobs_are = x.jobs_are;
              link_notices = x.link_notices;
              link_is = x.link_is;
              notices_are = x.notices_are;
            }

-- a plan that the definition gives is the one of its texts' outcomes
pub is_plan_of : (F : Facts) (line : Line) (set : Set) (seed : ℕ) (plan : Plan) → denoted F line set seed ≡ Is (Ok plan)
    → IsPlanOf F line set seed plan
is_plan_of F line set seed plan e = by (prefixes_of F line.settings.prefixes) refl e
  where
    -- Plan: `by` goes by whether the prefixes are known.
    by : (found : Known Prefixes) → prefixes_of F line.settings.prefixes ≡ found
        → (found >>= λ prefixes. planned F set line.inputs (context_of line set prefixes seed)) ≡ Is (Ok plan)
        → IsPlanOf F line set seed plan
    by Unasked is e = absurd cc
    by (Is prefixes) is e = over F line set seed plan prefixes is e
