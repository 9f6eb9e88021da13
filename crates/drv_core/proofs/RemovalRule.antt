use Rattle.drv_core.proofs.Counting.{is_less, is_not_less}
use Rattle.drv_core.proofs.Files.{Each, all_each, due_each}
use Rattle.drv_core.proofs.LinkRuns.{link_or}
use Rattle.drv_core.proofs.OneJob.{OnlyOf, none_and, own_link, own_source, quiet_last}
use Rattle.drv_core.proofs.Outcomes.{acts_only}
use Rattle.drv_core.proofs.Serial.{told}
use Rattle.drv_core.proofs.StartedFirst.{failed_is, has_fail}
use Rattle.drv_core.proofs.Tests.{and_false, and_true, or_true}
use Rattle.drv_core.specs.Events.{Block, events_of, none, positive, source_of}
use Rattle.drv_core.specs.Links.{job_failed}
use Rattle.drv_core.specs.Removals.{end_at, end_removal, end_removals_in, failure_places, is_removing, own_at, own_removal, own_removals_in}
use Rattle.drv_core.specs.Removals.{removed_by_job, RemovesByRule}
use Rattle.drv_core.specs.Started.{Act, act_of, acts_in, starts_of}
use Rattle.drv_core.specs.Story.{Goes, Kid, Left, Over, Removes, Starting, Starts, Story, Waits, after_starts, begin_with, begins}
use Rattle.drv_core.specs.Story.{claimed, exited, last, lost, more, next, over, refused_first, refused_later, removed, signalled, started}
use Rattle.drv_core.specs.Story.{stays}
use Rattle.drv_core.specs.Story.{to_claims, to_groups, to_removals, to_waits, unclaimed}
use Rattle.drv_core.specs.Windowed.{Leads, Removals, SourceBlock, Windowed, all_removed, blocks_of, due, goes_on}
use Rattle.drv_core.specs.Windowed.{link_after, no_more, of, removed as file_removed, source_at, stays as file_stays}
use Rattle.drv_words.specs.Places.{job_at, no_job}
use Rattle.drv_words.specs.declared.plan.Command.{Command}
use Rattle.drv_words.specs.declared.plan.Job.{Job}
use Rattle.drv_words.specs.declared.plan.Plan.{Plan}
use Rattle.drv_words.specs.declared.plan.Temp.{Temp}
use Rattle.drv_words.specs.declared.steps.Place.{Place}
use Rattle.drv_words.specs.declared.steps.Place.TheVariants as place
use Rattle.drv_words.specs.declared.steps.RunEvent.{RunEvent}
use Rattle.drv_words.specs.declared.steps.Step.{Step}
use Rattle.drv_words.specs.declared.steps.Step.TheVariants as step
use Rattle.std.proofs.Common.{◌≡◌, ◌<◌, ◌≤◌, ◌+◌, ◌∙◌, ◌&&◌, ◌||◌, Bool, false, true, List, [], ◌∷◌, ◌++◌, ◌⊎◌, ap, append_assoc, arith}
use Rattle.std.proofs.Common.{if◌then◌else◌, length}
use Rattle.std.proofs.Common.{inl, inr, nat_eq, nat_lt, not, refl, subst, suc}
use Rattle.std.proofs.Common.{sym, zero, ℕ}
use Rattle.std.proofs.lemmas.Cmp.{nat_eq_equiv}
use Rattle.std.proofs.lemmas.Grind.{flat_map-append}
use Rattle.std.proofs.lemmas.List.{get_or_append_left}
use Rattle.std.specs.List.{list_any}
use Rattle.std.specs.Option.{option_to_list}

-- For removal_law: a job removes its failure files exactly if it fails after it has started a command.

abbrev has_start : List Act → Bool
has_start acts = not (none (starts_of acts))

-- the files that are removed, if this holds
abbrev files_if : Bool → ℕ → Job → List Place
files_if t k job = if t then failure_places k 0 job.on_failure else []

-- what a stage says of the acts and removals to come
abbrev Rule : ℕ → Job → Left → List Act → List Place → Type 0
Rule k job Over acts ps = (acts ≡ []) × (ps ≡ [])
Rule k job (Removes i fs) acts ps = ps ≡ place.OnFailure k i ∷ failure_places k (i + 1) fs
Rule k job (Waits g fault kid kids gs) acts ps = ps ≡ files_if (fault || has_fail acts) k job
Rule k job (Starts g m gs) acts ps = ps ≡ files_if (has_fail acts && (positive g || has_start acts)) k job
Rule k job s acts ps = ps ≡ files_if (has_fail acts && has_start acts) k job

of_removals : (k i : ℕ) (job : Job) (fs : List (List ℕ)) (acts : List Act) (ps : List Place) → Rule k job (to_removals i fs) acts ps
    → ps ≡ failure_places k i fs
of_removals k i job [] acts ps h = h.1
of_removals k i job (f ∷ fs) acts ps h = h

of_groups : (k : ℕ) (job : Job) (g : ℕ) (gs : List (List Command)) (acts : List Act) (ps : List Place) → Rule k job (to_groups g gs) acts ps
    → ps ≡ files_if (has_fail acts && (positive g || has_start acts)) k job
of_groups k job g [] acts ps h = subst (λ l. ps ≡ files_if (has_fail l && (positive g || has_start l)) k job) (sym h.0) h.1
of_groups k job g (c ∷ gs) acts ps h = h

of_claims : (k : ℕ) (job : Job) (i : ℕ) (ts : List Temp) (acts : List Act) (ps : List Place) → Rule k job (to_claims job i ts) acts ps
    → ps ≡ files_if (has_fail acts && has_start acts) k job
of_claims k job i [] acts ps h = of_groups k job 0 job.groups acts ps h
of_claims k job i (t ∷ ts) acts ps h = h

of_waits : (k : ℕ) (job : Job) (g : ℕ) (fault : Bool) (kids : List Kid) (gs : List (List Command)) (acts : List Act) (ps : List Place)
    → Rule k job (to_waits job g fault kids gs) acts ps → ps ≡ files_if (fault || has_fail acts) k job
of_waits k job g fault (kid ∷ kids) gs acts ps h = h
of_waits k job g true [] gs acts ps h = of_removals k 0 job job.on_failure acts ps h
of_waits k job g false [] gs acts ps h = of_groups k job (g + 1) gs acts ps h
    ∙ ap (λ t. files_if (has_fail acts && (t || has_start acts)) k job) (ap positive (let e : g + 1 ≡ suc g = omega arith in e))
    ∙ ap (λ t. files_if t k job) (and_true (has_fail acts))

-- the starts of a group
starts_fail : {k g i m : ℕ} {b : Block} {kids : List Kid} {fault : Bool} → Starting k g i m b kids fault → (acts : List Act)
    → has_fail (acts_in k b ++ acts) ≡ (fault || has_fail acts)
starts_fail {k = k} last acts = rw (nat_eq_equiv.refl k) refl
starts_fail {k = k} (more s) acts = rw (nat_eq_equiv.refl k) (starts_fail s acts)
starts_fail {k = k} refused_first acts = rw (nat_eq_equiv.refl k) refl
starts_fail {k = k} refused_later acts = rw (nat_eq_equiv.refl k) refl

starts_some : {k g i m : ℕ} {b : Block} {kids : List Kid} {fault : Bool} → Starting k g i m b kids fault → (acts : List Act)
    → has_start (acts_in k b ++ acts) ≡ (not (none kids) || has_start acts)
starts_some {k = k} last acts = rw (nat_eq_equiv.refl k) refl
starts_some {k = k} (more s) acts = rw (nat_eq_equiv.refl k) refl
starts_some {k = k} refused_first acts = rw (nat_eq_equiv.refl k) refl
starts_some {k = k} refused_later acts = rw (nat_eq_equiv.refl k) refl

of_starts : (k : ℕ) (job : Job) (g : ℕ) (fault : Bool) (kids : List Kid) (gs : List (List Command)) (acts : List Act) (ps : List Place)
    → Rule k job (after_starts job g fault kids gs) acts ps
    → ps ≡ files_if ((fault || has_fail acts) && (positive g || (not (none kids) || has_start acts))) k job
of_starts k job zero fault [] gs acts ps h = h.1 ∙ sym (ap (λ l. files_if ((fault || has_fail l) && has_start l) k job) h.0
    ∙ ap (λ t. files_if t k job) (and_false (fault || false)))
of_starts k job (suc g) fault [] gs acts ps h = of_waits k job (suc g) fault [] gs acts ps h
    ∙ ap (λ t. files_if t k job) (sym (and_true (fault || has_fail acts)))
of_starts k job g fault (kid ∷ kids) gs acts ps h = h
    ∙ ap (λ t. files_if t k job) (sym (ap (λ t. (fault || has_fail acts) && t) (or_true (positive g))
    ∙ and_true (fault || has_fail acts)))

-- a block, and what follows it
block_rule : {k : ℕ} {job : Job} {s m : Left} {b : Block} → Goes k job s b m → (acts : List Act) (ps : List Place) → Rule k job m acts ps
    → Rule k job s (acts_in k b ++ acts) (own_removals_in k b ++ ps)
block_rule {k = k} {job = job} (begins {b = b} d) acts ps h =
    of_claims k job 0 job.temps (acts_in k b ++ acts) (own_removals_in k b ++ ps) (block_rule d acts ps h)
block_rule {k = k} {job = job} (claimed {i = i} {ts = ts}) acts ps h = rw (nat_eq_equiv.refl k) (of_claims k job (i + 1) ts acts ps h)
block_rule {k = k} {job = job} (unclaimed e) acts ps h = rw (nat_eq_equiv.refl k, e)
    (subst (λ l. ps ≡ files_if (true && has_start l) k job) (sym h.0) h.1)
block_rule {k = k} {job = job} (started {g = g} {gs = gs} {b = b} {kids = kids} {fault = fault} s) acts ps h =
    rw (starts_fail s acts, starts_some s acts) (ap (λ l. l ++ ps) (no_removal s) ∙ of_starts k job g fault kids gs acts ps h)
  where
    no_removal : {i m : ℕ} {b : Block} {kids : List Kid} {fault : Bool} → Starting k g i m b kids fault → own_removals_in k b ≡ []
    no_removal last = refl
    no_removal (more s) = no_removal s
    no_removal refused_first = refl
    no_removal refused_later = refl
block_rule {k = k} {job = job} (exited {g = g} {code = zero} {fault = true} {kids = kids} {gs = gs}) acts ps h =
    of_waits k job g true kids gs acts ps h
block_rule {k = k} {job = job} (exited {g = g} {code = zero} {fault = false} {kids = kids} {gs = gs}) acts ps h =
    rw (nat_eq_equiv.refl k) (of_waits k job g false kids gs acts ps h)
block_rule {k = k} {job = job} (exited {g = g} {code = suc n} {fault = true} {kids = kids} {gs = gs}) acts ps h =
    of_waits k job g true kids gs acts ps h
block_rule {k = k} {job = job} (exited {g = g} {code = suc n} {fault = false} {kids = kids} {gs = gs}) acts ps h =
    rw (nat_eq_equiv.refl k) (of_waits k job g true kids gs acts ps h)
block_rule {k = k} {job = job} (signalled {g = g} {fault = fault} {kids = kids} {gs = gs}) acts ps h =
    rw (nat_eq_equiv.refl k, or_true fault) (of_waits k job g true kids gs acts ps h)
block_rule {k = k} {job = job} (lost {g = g} {fault = fault} {kids = kids} {gs = gs}) acts ps h =
    rw (nat_eq_equiv.refl k, or_true fault) (of_waits k job g true kids gs acts ps h)
block_rule {k = k} {job = job} (removed {i = i} {fs = fs} e) acts ps h =
    rw (nat_eq_equiv.refl k) (ap (λ l. place.OnFailure k i ∷ l) (of_removals k (i + 1) job fs acts ps h))
block_rule {k = k} {job = job} (stays {i = i} {fs = fs} e) acts ps h =
    rw (nat_eq_equiv.refl k) (ap (λ l. place.OnFailure k i ∷ l) (of_removals k (i + 1) job fs acts ps h))

story_rule : {k : ℕ} {job : Job} {s : Left} {bs : List Block} → Story k job s bs
    → Rule k job s (acts_in k (events_of bs)) (own_removals_in k (events_of bs))
story_rule over = (refl, refl)
story_rule {k = k} {job = job} {s = s} (next {b = b} {bs = bs} d t) =
    subst (λ l. Rule k job s l (own_removals_in k (b ++ events_of bs)))
    (sym (flat_map-append (λ e. act_of k e.step e.answer) b (events_of bs)))
    (subst (λ l. Rule k job s (acts_in k b ++ acts_in k (events_of bs)) l)
    (sym (flat_map-append (λ e. own_removal k e.step) b (events_of bs)))
    (block_rule d (acts_in k (events_of bs)) (own_removals_in k (events_of bs)) (story_rule t)))

-- the whole story of a job
pub job_rule : (k : ℕ) (job : Job) (bs : List Block) → Story k job (begin_with job.groups) bs
    → own_removals_in k (events_of bs) ≡ files_if (has_fail (acts_in k (events_of bs)) && has_start (acts_in k (events_of bs))) k job
job_rule k job bs t = by job.groups (story_rule t)
  where
    by : (gs : List (List Command)) → Rule k job (begin_with gs) (acts_in k (events_of bs)) (own_removals_in k (events_of bs))
        → own_removals_in k (events_of bs) ≡ files_if (has_fail (acts_in k (events_of bs)) && has_start (acts_in k (events_of bs))) k job
    by [] h = subst (λ l. own_removals_in k (events_of bs) ≡ files_if (has_fail l && has_start l) k job) (sym h.0) h.1
    by (c ∷ gs) h = h

-- removals of failure files are of a job's own steps
removals_only : (k : ℕ) → OnlyOf (λ e. own_removal k e.step) k
removals_only k = record { other = λ e h. by e.step h; no_report = λ n t. refl; no_close = refl }
  where
    by : (s : Step) → nat_eq (source_of s) k ≡ false → own_removal k s ≡ []
    by (step.Remove (place.OnFailure j i)) h = rw h refl
    by (step.Remove p) h = refl
    by s h = refl

-- what is removed at the end are temporaries and marked files

abbrev AtEnd : Place → Type 0
AtEnd p = end_at p ≡ p ∷ []

last_end : {ps : List Place} {last : List RunEvent} → Each AtEnd ps → Removals ps last → end_removals_in last ≡ ps
last_end h all_removed = refl
last_end h (file_removed e r) = rw (h.0, last_end h.1 r) refl
last_end h (file_stays e r) = rw (h.0, last_end h.1 r) refl

not_own : (k : ℕ) (p : Place) → AtEnd p → own_at k p ≡ []
not_own k (place.OnFailure j i) h = absurd cc
not_own k p h = refl

last_own : (k : ℕ) {ps : List Place} {last : List RunEvent} → Each AtEnd ps → Removals ps last → own_removals_in k last ≡ []
last_own k h all_removed = refl
last_own k h (file_removed e r) = rw (not_own k _ h.0, last_own k h.1 r) refl
last_own k h (file_stays e r) = rw (not_own k _ h.0, last_own k h.1 r) refl

last_alone : {ps : List Place} {last : List RunEvent} → Removals ps last → list_any (λ e. not (is_removing e.step)) last ≡ false
last_alone all_removed = refl
last_alone (file_removed e r) = last_alone r
last_alone (file_stays e r) = last_alone r

-- no block removes one

starts_none : {k g i m : ℕ} {b : Block} {kids : List Kid} {fault : Bool} → Starting k g i m b kids fault → end_removals_in b ≡ []
starts_none last = refl
starts_none (more s) = starts_none s
starts_none refused_first = refl
starts_none refused_later = refl

block_none : {k : ℕ} {job : Job} {s m : Left} {b : Block} → Goes k job s b m → end_removals_in b ≡ []
block_none (begins d) = block_none d
block_none claimed = refl
block_none (unclaimed e) = refl
block_none (started s) = starts_none s
block_none exited = refl
block_none signalled = refl
block_none lost = refl
block_none (removed e) = refl
block_none (stays e) = refl

leads_none : {n N : ℕ} {job : ℕ → Job} {st x : ℕ → Left} {bs : List SourceBlock} → Leads n N job st bs x
    → end_removals_in (events_of (blocks_of bs)) ≡ []
leads_none no_more = refl
leads_none (goes_on {b = b} {bs = bs} may g l) = flat_map-append (λ e. end_removal e.step) b (events_of (blocks_of bs))
    ∙ none_and (block_none g) (leads_none l)

story_none : {k : ℕ} {job : Job} {s : Left} {bs : List Block} → Story k job s bs → end_removals_in (events_of bs) ≡ []
story_none over = refl
story_none (next {b = b} {bs = bs} d t) = flat_map-append (λ e. end_removal e.step) b (events_of bs)
    ∙ none_and (block_none d) (story_none t)

pub removes_by_rule : (plan : Plan) (N : ℕ) (events : List RunEvent) → Windowed plan N events → RemovesByRule plan events
removes_by_rule plan N events w = record {
  own = λ k le. by k (nat_lt k (length plan.jobs)) refl le;
  before = events_of (blocks_of w.blocks) ++ events_of w.link;
  after = w.last;
  parts = w.events ∙ sym (append_assoc (events_of (blocks_of w.blocks)) (events_of w.link) w.last);
  none_before = flat_map-append (λ e. end_removal e.step) (events_of (blocks_of w.blocks)) (events_of w.link)
      ∙ none_and (leads_none w.leads) (story_none w.link_story);
  at_end = last_end files w.last_removals;
  alone = last_alone w.last_removals;
}
  where
    files : Each AtEnd (due plan (events_of (blocks_of w.blocks) ++ events_of w.link))
    files = due_each AtEnd plan (events_of (blocks_of w.blocks) ++ events_of w.link)
        (all_each AtEnd plan (λ k i lt h. refl) (λ k i lt h. refl))

    quiet : (k : ℕ) → own_removals_in k w.last ≡ []
    quiet k = last_own k files w.last_removals

    acts_quiet : (k : ℕ) → acts_in k w.last ≡ []
    acts_quiet k = quiet_last (acts_only k) (λ p x. refl) w.last_removals

    -- the rule, where the job of the number is this
    rule : (k : ℕ) (job : Job) (bs : List Block) → Story k job (begin_with job.groups) bs → acts_in k events ≡ acts_in k (events_of bs)
        → own_removals_in k events ≡ own_removals_in k (events_of bs)
        → own_removals_in k events ≡ files_if (job_failed k events && has_start (acts_in k events)) k job
    rule k job bs t acts own = own ∙ job_rule k job bs t
        ∙ sym (ap (λ t. files_if (t && has_start (acts_in k events)) k job) (failed_is k events)
        ∙ ap (λ l. files_if (has_fail l && has_start l) k job) acts)

    by : (k : ℕ) (t : Bool) → nat_lt k (length plan.jobs) ≡ t → k ≤ length plan.jobs
        → own_removals_in k events ≡ removed_by_job plan k events
    by k true e le =
        let lt : k < length plan.jobs = is_less k (length plan.jobs) e in
        rule k (source_at plan k) (of k w.blocks) (told w.leads w.ended k) (own_source (acts_only k) w (acts_quiet k) lt)
        (own_source (removals_only k) w (quiet k) lt) ∙ ap (files_if (job_failed k events && has_start (acts_in k events)) k)
        (sym (get_or_append_left plan.jobs (option_to_list plan.link) no_job k lt))
    by k false e le = subst (λ n. own_removals_in n events ≡ removed_by_job plan n events)
        (let ge = is_not_less k (length plan.jobs) e in let is : length plan.jobs ≡ k = omega (arith, ge, le) in is) link
      where
        link : own_removals_in (length plan.jobs) events ≡ removed_by_job plan (length plan.jobs) events
        link = rule (length plan.jobs) (link_after plan (events_of (blocks_of w.blocks))) w.link w.link_story
            (own_link (acts_only (length plan.jobs)) w (acts_quiet (length plan.jobs)))
            (own_link (removals_only (length plan.jobs)) w (quiet (length plan.jobs)))
            ∙ same_files (link_or plan (events_of (blocks_of w.blocks)))
          where
            idle : {bs : List Block} → Story (length plan.jobs) no_job Over bs → acts_in (length plan.jobs) (events_of bs) ≡ []
            idle over = refl
            idle (next d t) = elim d [ ]

            same_files : (link_after plan (events_of (blocks_of w.blocks)) ≡ no_job)
                ⊎ (link_after plan (events_of (blocks_of w.blocks)) ≡ job_at plan (length plan.jobs))
                → files_if (job_failed (length plan.jobs) events && has_start (acts_in (length plan.jobs) events)) (length plan.jobs)
                (link_after plan (events_of (blocks_of w.blocks))) ≡ removed_by_job plan (length plan.jobs) events
            same_files (inr e) = ap (files_if (job_failed (length plan.jobs) events && has_start (acts_in (length plan.jobs) events))
                (length plan.jobs)) e
            same_files (inl e) =
                let acts : acts_in (length plan.jobs) events ≡ [] = own_link (acts_only (length plan.jobs)) w
                (acts_quiet (length plan.jobs))
                ∙ idle (subst (λ j. Story (length plan.jobs) j (begin_with j.groups) w.link) e w.link_story) in
                let fine : job_failed (length plan.jobs) events ≡ false = failed_is (length plan.jobs) events ∙ ap has_fail acts in
                rw fine refl
