use Rattle.drv_core.proofs.Counting.{is_less, is_not_less, same}
use Rattle.drv_core.proofs.Files.{Each, all_each, due_each}
use Rattle.drv_core.proofs.LinkRuns.{link_or}
use Rattle.drv_core.proofs.Opened.{all_open}
use Rattle.drv_core.proofs.Serial.{begin_beyond}
use Rattle.drv_core.specs.Events.{Block, events_of, positive}
use Rattle.drv_core.specs.Filled.{AllFilled, Filled}
use Rattle.drv_core.specs.Possible.{AllPossible}
use Rattle.drv_core.specs.Story.{Claims, Goes, Kid, Left, Over, Removes, Starting, Starts, Story, Waits, after_starts, begin, begin_with}
use Rattle.drv_core.specs.Story.{begins}
use Rattle.drv_core.specs.Story.{claimed, exited, last, lost, more, next, over, refused_first, refused_later, removed, signalled, started}
use Rattle.drv_core.specs.Story.{stays}
use Rattle.drv_core.specs.Story.{to_claims, to_groups, to_removals, to_waits, unclaimed}
use Rattle.drv_core.specs.Windowed.{Leads, Removals, SourceBlock, Windowed, all_removed, blocks_of, due, goes_on}
use Rattle.drv_core.specs.Windowed.{link_after, no_more, removed as file_removed, source_at, stays as file_stays}
use Rattle.drv_words.specs.Places.{group_at, is_command, is_file, is_note, is_temp, job_at, no_job}
use Rattle.drv_words.specs.Stepping.{can_make, pending_from, pending_with, pipe_pending, same_bool}
use Rattle.drv_words.specs.declared.answers.Answer.{Answer}
use Rattle.drv_words.specs.declared.plan.Command.{Command}
use Rattle.drv_words.specs.declared.plan.Job.{Job}
use Rattle.drv_words.specs.declared.plan.Plan.{Plan}
use Rattle.drv_words.specs.declared.plan.Temp.{Temp}
use Rattle.drv_words.specs.declared.steps.Place.{Place}
use Rattle.drv_words.specs.declared.steps.Place.TheVariants as place
use Rattle.drv_words.specs.declared.steps.RunEvent.{RunEvent}
use Rattle.drv_words.specs.declared.steps.Step.{Step}
use Rattle.drv_words.specs.declared.steps.Step.TheVariants as step
use Rattle.std.proofs.Common.{◌≡◌, ◌<◌, ◌+◌, ◌-◌, ◌∙◌, ◌||◌, ◌⊎◌, Bool, false, true, List, [], ◌∷◌, ◌++◌, ap, append_assoc, arith, drop}
use Rattle.std.proofs.Common.{get_or, if◌then◌else◌, inl, inr, length, nat_eq, nat_lt, refl, subst, suc, sym, zero, ℕ}
use Rattle.std.proofs.lemmas.Bool.{and_from}
use Rattle.std.proofs.lemmas.Bool.Decides.{nat_tests}
use Rattle.std.proofs.lemmas.List.{get_or_append_left}
use Rattle.std.specs.Option.{option_to_list}
use Rattle.std.specs.Prelude.{⊤}

-- For possible_law: each step can be made.

-- Pipes: a start reads one exactly if one is pending, and at the end none is.

-- whether a step may be made while this is pending
abbrev pipe_fits : Bool → Step → Bool
pipe_fits pending (step.Start p from_pipe to_pipe) = same_bool from_pipe pending
pipe_fits pending step.ClosePipe = pending
pipe_fits pending s = true

abbrev Piped : Bool → List RunEvent → Type 0
Piped pending [] = pending ≡ false
Piped pending (e ∷ events) = (pipe_fits pending e.step ≡ true) × Piped (pending_with pending e.step e.answer) events

itself : (t : Bool) → same_bool t t ≡ true
itself true = refl
itself false = refl

more_pipe : (i : ℕ) → positive (i + 1) ≡ true
more_pipe i = ap positive (let e : i + 1 ≡ suc i = omega arith in e)

starts_piped : {k g i m : ℕ} {b : Block} {kids : List Kid} {fault : Bool} → Starting k g i m b kids fault
    → (F : List RunEvent) → Piped false F
    → Piped (positive i) (b ++ F)
starts_piped {i = i} last F h = (itself (positive i), h)
starts_piped {i = i} (more {b = b} s) F h = (itself (positive i), subst (λ t. Piped t (b ++ F)) (more_pipe i) (starts_piped s F h))
starts_piped refused_first F h = (refl, (refl, h))
starts_piped refused_later F h = (refl, (refl, (refl, h)))

block_piped : {k : ℕ} {job : Job} {s m : Left} {b : Block} → Goes k job s b m → (F : List RunEvent) → Piped false F → Piped false (b ++ F)
block_piped (begins d) F h = block_piped d F h
block_piped claimed F h = (refl, h)
block_piped (unclaimed e) F h = (refl, (refl, h))
block_piped (started s) F h = starts_piped s F h
block_piped exited F h = (refl, h)
block_piped signalled F h = (refl, (refl, h))
block_piped lost F h = (refl, (refl, h))
block_piped (removed e) F h = (refl, h)
block_piped (stays e) F h = (refl, (refl, h))

leads_piped : {n N : ℕ} {job : ℕ → Job} {st x : ℕ → Left} {bs : List SourceBlock} → Leads n N job st bs x
    → (F : List RunEvent) → Piped false F
    → Piped false (events_of (blocks_of bs) ++ F)
leads_piped no_more F h = h
leads_piped (goes_on {b = b} {bs = bs} may g l) F h =
    subst (λ l. Piped false l) (sym (append_assoc b (events_of (blocks_of bs)) F))
    (block_piped g (events_of (blocks_of bs) ++ F) (leads_piped l F h))

story_piped : {k : ℕ} {job : Job} {s : Left} {bs : List Block} → Story k job s bs → (F : List RunEvent) → Piped false F
    → Piped false (events_of bs ++ F)
story_piped over F h = h
story_piped (next {b = b} {bs = bs} d t) F h =
    subst (λ l. Piped false l) (sym (append_assoc b (events_of bs) F)) (block_piped d (events_of bs ++ F) (story_piped t F h))

last_piped : {ps : List Place} {last : List RunEvent} → Removals ps last → Piped false last
last_piped all_removed = refl
last_piped (file_removed e r) = (refl, last_piped r)
last_piped (file_stays e r) = (refl, (refl, last_piped r))

all_piped : {plan : Plan} {N : ℕ} {E : List RunEvent} → Windowed plan N E → Piped false E
all_piped w = subst (λ l. Piped false l) (sym w.events) (leads_piped w.leads _ (story_piped w.link_story _ (last_piped w.last_removals)))

pipe_at : (t : Bool) (before : List RunEvent) (e : RunEvent) (after : List RunEvent) → Piped t (before ++ e ∷ after)
    → pipe_fits (pending_from t before) e.step ≡ true
pipe_at t [] e after h = h.0
pipe_at t (x ∷ before) e after h = pipe_at (pending_with t x.step x.answer) before e after h.1

pipe_end : (t : Bool) (E : List RunEvent) → Piped t E → pending_from t E ≡ false
pipe_end t [] h = h
pipe_end t (e ∷ E) h = pipe_end (pending_with t e.step e.answer) E h.1

pub none_pending : {plan : Plan} {N : ℕ} {E : List RunEvent} → Windowed plan N E → pipe_pending E ≡ false
none_pending {E = E} w = pipe_end false E (all_piped w)

-- Places: each is one of the plan.

abbrev has_place : Plan → Step → Bool
has_place plan (step.Claim p) = is_temp plan p
has_place plan (step.Start p from_pipe to_pipe) = is_command plan p
has_place plan step.ClosePipe = true
has_place plan (step.Wait p id) = is_command plan p
has_place plan (step.Remove p) = is_file plan p
has_place plan (step.Report n) = is_note plan n

abbrev Placed : Plan → List RunEvent → Type 0
Placed plan [] = ⊤
Placed plan (e ∷ events) = (has_place plan e.step ≡ true) × Placed plan events

placed_append : (plan : Plan) (xs ys : List RunEvent) → Placed plan xs → Placed plan ys → Placed plan (xs ++ ys)
placed_append plan [] ys a b = b
placed_append plan (x ∷ xs) ys a b = (a.0, placed_append plan xs ys a.1 b)

placed_at : (plan : Plan) (before : List RunEvent) (e : RunEvent) (after : List RunEvent) → Placed plan (before ++ e ∷ after)
    → has_place plan e.step ≡ true
placed_at plan [] e after h = h.0
placed_at plan (x ∷ before) e after h = placed_at plan before e after h.1

-- the members of these children are below n
abbrev Below : ℕ → List Kid → Type 0
Below n [] = ⊤
Below n (kid ∷ kids) = (kid.member < n) × Below n kids

-- the numbers of a stage are those of its job
abbrev Within : Job → Left → Type 0
Within job (Claims i ts) = i + length ts + 1 ≡ length job.temps
Within job (Starts g m gs) = (drop (g + 1) job.groups ≡ gs) × (length (group_at job g) ≡ m + 1)
Within job (Waits g fault kid kids gs) = (drop (g + 1) job.groups ≡ gs) × Below (length (group_at job g)) (kid ∷ kids)
Within job (Removes i fs) = i + length fs + 1 ≡ length job.on_failure
Within job s = ⊤

-- the rest of a list, from one of its items on
drop_cons : {X : Type 0} (n : ℕ) (xs ys : List X) (y d : X) → drop n xs ≡ y ∷ ys
    → (get_or xs n d ≡ y) × (drop (n + 1) xs ≡ ys) × (n < length xs)
drop_cons zero [] ys y d e = absurd cc
drop_cons zero (x ∷ xs) ys y d e = ((let h : x ≡ y = cc in h), (let h : xs ≡ ys = cc in h), omega arith)
drop_cons (suc n) [] ys y d e = absurd cc
drop_cons (suc n) (x ∷ xs) ys y d e =
    let ih = drop_cons n xs ys y d e in
    let lt = ih.2 in
    (ih.0, ap (λ i. drop i (x ∷ xs)) (let s : suc n + 1 ≡ suc (n + 1) = omega arith in s) ∙ ih.1, omega (arith, lt))

within_groups : (job : Job) (g : ℕ) (gs : List (List Command)) → Filled job → drop g job.groups ≡ gs → Within job (to_groups g gs)
within_groups job g [] filled e = tt
within_groups job g (c ∷ gs) filled e =
    let at = drop_cons g job.groups gs c [] e in
    let some : 0 < length c = subst (λ x. 0 < length x) at.0 (filled g at.2) in
    (at.1, ap (λ (l : List Command). length l) at.0 ∙ (let z : length c ≡ length c - 1 + 1 = omega (arith, some) in z))

within_claims : (job : Job) (i : ℕ) (ts : List Temp) → Filled job → i + length ts ≡ length job.temps → Within job (to_claims job i ts)
within_claims job i [] filled e = within_groups job 0 job.groups filled refl
within_claims job i (t ∷ ts) filled e = omega (arith, e)

within_removals : (job : Job) (i : ℕ) (fs : List (List ℕ)) → i + length fs ≡ length job.on_failure → Within job (to_removals i fs)
within_removals job i [] e = tt
within_removals job i (f ∷ fs) e = omega (arith, e)

within_waits : (job : Job) (g : ℕ) (fault : Bool) (kids : List Kid) (gs : List (List Command)) → Filled job → drop (g + 1) job.groups ≡ gs
    → Below (length (group_at job g)) kids → Within job (to_waits job g fault kids gs)
within_waits job g fault (kid ∷ kids) gs filled e b = (e, b)
within_waits job g true [] gs filled e b = within_removals job 0 job.on_failure (omega arith)
within_waits job g false [] gs filled e b = within_groups job (g + 1) gs filled e

within_starts : (job : Job) (g : ℕ) (fault : Bool) (kids : List Kid) (gs : List (List Command)) → Filled job → drop (g + 1) job.groups ≡ gs
    → Below (length (group_at job g)) kids → Within job (after_starts job g fault kids gs)
within_starts job zero fault [] gs filled e b = tt
within_starts job (suc g) fault [] gs filled e b = within_waits job (suc g) fault [] gs filled e b
within_starts job g fault (kid ∷ kids) gs filled e b = (e, b)

-- a command, temporary or failure file of job k
less : (a b : ℕ) → a < b → nat_lt a b ≡ true
less a b lt = grind (arith, nat_tests)

starts_placed : {k g i m : ℕ} {b : Block} {kids : List Kid} {fault : Bool} → Starting k g i m b kids fault → (plan : Plan)
    → i + m + 1 ≡ length (group_at (job_at plan k) g) → Placed plan b × Below (length (group_at (job_at plan k) g)) kids
starts_placed {k = k} {g = g} {i = i} last plan e =
    let lt : i < length (group_at (job_at plan k) g) = omega (arith, e) in ((less i _ lt, tt), (lt, tt))
starts_placed {k = k} {g = g} {i = i} (more s) plan e =
    let rest = starts_placed s plan (omega (arith, e)) in
    let lt : i < length (group_at (job_at plan k) g) = omega (arith, e) in ((less i _ lt, rest.0), (lt, rest.1))
starts_placed {k = k} {g = g} (refused_first {m = m}) plan e =
    let lt : 0 < length (group_at (job_at plan k) g) = omega (arith, e) in ((less 0 _ lt, (less 0 _ lt, tt)), tt)
starts_placed {k = k} {g = g} (refused_later {i = i} {m = m}) plan e =
    let lt : suc i < length (group_at (job_at plan k) g) = omega (arith, e) in ((less (suc i) _ lt, (less (suc i) _ lt, (refl, tt))), tt)

block_placed : {k : ℕ} (plan : Plan) {s m : Left} {b : Block} → Filled (job_at plan k) → Goes k (job_at plan k) s b m
    → Within (job_at plan k) s
    → Placed plan b × Within (job_at plan k) m
block_placed {k = k} plan filled (begins d) h =
    block_placed plan filled d (within_claims (job_at plan k) 0 (job_at plan k).temps filled (omega arith))
block_placed {k = k} plan filled (claimed {i = i} {ts = ts}) h =
    ((less i _ (omega (arith, h)), tt), within_claims (job_at plan k) (i + 1) ts filled (omega (arith, h)))
block_placed plan filled (unclaimed {i = i} e) h = let lt : i < _ = omega (arith, h) in ((less i _ lt, (less i _ lt, tt)), tt)
block_placed {k = k} plan filled (started {g = g} {m = m} {gs = gs} {kids = kids} {fault = fault} s) h =
    let size = h.1 in
    let both = starts_placed s plan (omega (arith, size)) in
    (both.0, within_starts (job_at plan k) g fault kids gs filled h.0 both.1)
block_placed {k = k} plan filled (exited {g = g} {code = code} {fault = fault} {kid = kid} {kids = kids} {gs = gs}) h =
    ((less kid.member _ h.1.0, tt), within_waits (job_at plan k) g (fault || positive code) kids gs filled h.0 h.1.1)
block_placed {k = k} plan filled (signalled {g = g} {kid = kid} {kids = kids} {gs = gs}) h =
    ((less kid.member _ h.1.0, (less kid.member _ h.1.0, tt)), within_waits (job_at plan k) g true kids gs filled h.0 h.1.1)
block_placed {k = k} plan filled (lost {g = g} {kid = kid} {kids = kids} {gs = gs}) h =
    ((less kid.member _ h.1.0, (less kid.member _ h.1.0, tt)), within_waits (job_at plan k) g true kids gs filled h.0 h.1.1)
block_placed {k = k} plan filled (removed {i = i} {fs = fs} e) h =
    ((less i _ (omega (arith, h)), tt), within_removals (job_at plan k) (i + 1) fs (omega (arith, h)))
block_placed {k = k} plan filled (stays {i = i} {fs = fs} e) h =
    let lt : i < _ = omega (arith, h) in ((less i _ lt, (less i _ lt, tt)), within_removals (job_at plan k) (i + 1) fs (omega (arith, h)))

source_is : (plan : Plan) (k : ℕ) → k < length plan.jobs → source_at plan k ≡ job_at plan k
source_is plan k lt = sym (get_or_append_left plan.jobs (option_to_list plan.link) no_job k lt)

within_begin : (job : Job) → Within job (begin job)
within_begin job = by job.groups
  where
    by : (gs : List (List Command)) → Within job (begin_with gs)
    by [] = tt
    by (c ∷ gs) = tt

leads_placed : {N : ℕ} (plan : Plan) {st x : ℕ → Left} {bs : List SourceBlock} → AllFilled plan
    → Leads (length plan.jobs) N (source_at plan) st bs x → ((k : ℕ) → Within (job_at plan k) (st k))
    → Placed plan (events_of (blocks_of bs))
leads_placed plan filled no_more h = tt
leads_placed plan {st = st} filled (goes_on {k = k} {b = b} {m = m} {bs = bs} may g l) h =
    let both = block_placed plan (filled k) (subst (λ j. Goes k j (st k) b m) (source_is plan k may.is_source) g) (h k) in
    placed_append plan b (events_of (blocks_of bs)) both.0 (leads_placed plan filled l (λ j. by j (nat_eq k j) refl both.1))
  where
    by : (j : ℕ) (t : Bool) → nat_eq k j ≡ t → Within (job_at plan k) m → Within (job_at plan j) (if t then m else st j)
    by j true e w = subst (λ i. Within (job_at plan i) m) (same k j e) w
    by j false e w = h j

story_placed : {k : ℕ} (plan : Plan) {s : Left} {bs : List Block} → Filled (job_at plan k) → Story k (job_at plan k) s bs
    → Within (job_at plan k) s
    → Placed plan (events_of bs)
story_placed plan filled over h = tt
story_placed plan filled (next {b = b} {bs = bs} d t) h =
    let both = block_placed plan filled d h in placed_append plan b (events_of bs) both.0 (story_placed plan filled t both.1)

idle_placed : {k : ℕ} {bs : List Block} (plan : Plan) → Story k no_job Over bs → Placed plan (events_of bs)
idle_placed plan over = tt
idle_placed plan (next d t) = elim d [ ]

link_placed : (plan : Plan) (bs : List Block) (E : List RunEvent) → AllFilled plan
    → Story (length plan.jobs) (link_after plan E) (begin (link_after plan E)) bs → Placed plan (events_of bs)
link_placed plan bs E filled t = by (link_or plan E) t
  where
    by : (link_after plan E ≡ no_job) ⊎ (link_after plan E ≡ job_at plan (length plan.jobs))
        → Story (length plan.jobs) (link_after plan E) (begin (link_after plan E)) bs → Placed plan (events_of bs)
    by (inl e) t = idle_placed plan (subst (λ j. Story (length plan.jobs) j (begin j) bs) e t)
    by (inr e) t = story_placed plan (filled (length plan.jobs)) (subst (λ j. Story (length plan.jobs) j (begin j) bs) e t)
        (within_begin (job_at plan (length plan.jobs)))

last_placed : (plan : Plan) {ps : List Place} {last : List RunEvent} → Each (λ p. is_file plan p ≡ true) ps
    → Removals ps last → Placed plan last
last_placed plan h all_removed = tt
last_placed plan h (file_removed e r) = (h.0, last_placed plan h.1 r)
last_placed plan h (file_stays e r) = (h.0, (h.0, last_placed plan h.1 r))

all_placed : (plan : Plan) (N : ℕ) (E : List RunEvent) → AllFilled plan → Windowed plan N E → Placed plan E
all_placed plan N E filled w = subst (λ l. Placed plan l) (sym w.events)
    (placed_append plan (events_of (blocks_of w.blocks)) (events_of w.link ++ w.last)
    (leads_placed plan filled w.leads (λ k. begun k (nat_lt k (length plan.jobs)) refl))
    (placed_append plan (events_of w.link) w.last (link_placed plan w.link (events_of (blocks_of w.blocks)) filled w.link_story)
    (last_placed plan files w.last_removals)))
  where
    files : Each (λ p. is_file plan p ≡ true) (due plan (events_of (blocks_of w.blocks) ++ events_of w.link))
    files = due_each (λ p. is_file plan p ≡ true) plan (events_of (blocks_of w.blocks) ++ events_of w.link)
        (all_each (λ p. is_file plan p ≡ true) plan (λ k i lt h. less i _ h) (λ k i lt h. less i _ h))

    begun : (k : ℕ) (t : Bool) → nat_lt k (length plan.jobs) ≡ t → Within (job_at plan k) (begin (source_at plan k))
    begun k true e = subst (λ j. Within (job_at plan k) (begin j)) (sym (source_is plan k (is_less k (length plan.jobs) e)))
        (within_begin (job_at plan k))
    begun k false e = subst (λ s. Within (job_at plan k) s) (sym (begin_beyond plan.jobs k (is_not_less k (length plan.jobs) e))) tt

pub all_possible : (plan : Plan) (N : ℕ) (events : List RunEvent) → AllFilled plan → Windowed plan N events → AllPossible plan events
all_possible plan N events filled w before e after is = by e.step e.answer refl placed fitting
  where
    placed : has_place plan e.step ≡ true
    placed = placed_at plan before e after (subst (λ l. Placed plan l) is (all_placed plan N events filled w))

    fitting : pipe_fits (pipe_pending before) e.step ≡ true
    fitting = pipe_at false before e after (subst (λ l. Piped false l) is (all_piped w))

    by : (s : Step) (x : Answer) → record { step = s; answer = x } ≡ e → has_place plan s ≡ true → pipe_fits (pipe_pending before) s ≡ true
        → can_make plan before s ≡ true
    by (step.Claim p) x h pl fi = pl
    by (step.Start p from_pipe to_pipe) x h pl fi = and_from (is_command plan p) (same_bool from_pipe (pipe_pending before)) pl fi
    by step.ClosePipe x h pl fi = fi
    by (step.Wait (place.Command k g i) id) x h pl fi = all_open plan N events w k g i id before x after
        (is ∙ ap (λ z. before ++ z ∷ after) (sym h))
    by (step.Wait p id) x h pl fi = absurd cc
    by (step.Remove p) x h pl fi = pl
    by (step.Report n) x h pl fi = pl
