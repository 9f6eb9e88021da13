use Rattle.drv_core.proofs.Counting.{summed, summed_down}
use Rattle.drv_core.proofs.Serial.{put_here, put_other}
use Rattle.drv_core.specs.Events.{Block, events_of, positive}
use Rattle.drv_core.specs.Filled.{AllFilled, Filled}
use Rattle.drv_core.specs.Needed.{job_events, needed}
use Rattle.drv_core.specs.Story.{Claims, Fresh, Goes, Kid, Left, Over, Removes, Starting, Starts, Story, Waits, after_starts, begin}
use Rattle.drv_core.specs.Story.{begin_with, begins}
use Rattle.drv_core.specs.Story.{claimed, exited, last, lost, more, next, over, refused_first, refused_later, removed, signalled, started}
use Rattle.drv_core.specs.Story.{stays}
use Rattle.drv_core.specs.Story.{to_claims, to_groups, to_removals, to_waits, unclaimed}
use Rattle.drv_core.specs.Windowed.{File, Leads, Removals, SourceBlock, Windowed, all_files, all_removed, blocks_of, due, each_once}
use Rattle.drv_core.specs.Windowed.{files_from, goes_on}
use Rattle.drv_core.specs.Windowed.{is_due, job_files, link_after, marked_files, no_more, put, removed as file_removed, stays as file_stays}
use Rattle.drv_core.specs.Windowed.{temp_files}
use Rattle.drv_words.specs.Places.{no_job}
use Rattle.drv_words.specs.declared.plan.Command.{Command}
use Rattle.drv_words.specs.declared.plan.Job.{Job}
use Rattle.drv_words.specs.declared.plan.Plan.{Plan}
use Rattle.drv_words.specs.declared.plan.Temp.{Temp}
use Rattle.drv_words.specs.declared.steps.Place.{Place}
use Rattle.drv_words.specs.declared.steps.RunEvent.{RunEvent}
use Rattle.std.proofs.Common.{◌≡◌, ◌<◌, ◌≤◌, ◌+◌, ◌*◌, ◌-◌, ◌∙◌, ◌||◌, Bool, false, true, List, [], ◌∷◌, ◌++◌, None, Option, Some, ap}
use Rattle.std.proofs.Common.{arith, get_or, if◌then◌else◌}
use Rattle.std.proofs.Common.{length, nat_eq, refl, subst, suc, sym, unwrap_or, zero, ℕ}
use Rattle.std.proofs.lemmas.List.Sums.{sum_by-append, sum_by-cons}
use Rattle.std.proofs.lemmas.List.{length-append, length-map}
use Rattle.std.specs.Cmp.Lexicographic.{pointwise}
use Rattle.std.specs.List.{filter, list_any, sum_by}
use Rattle.std.specs.Option.{option_to_list}

-- For bound_law: how many events can still come from each stage. Each block uses up as many as it has.

-- the most events of groups: a start, a wait and their reports for each command
abbrev of_groups : List (List Command) → ℕ
of_groups [] = 0
of_groups (c ∷ gs) = 4 * (length c - 1 + 1) + of_groups gs

abbrev cost : Job → Left → ℕ
cost job Fresh = 2 * length job.temps + of_groups job.groups + 2 * length job.on_failure
cost job (Claims i ts) = 2 * (length ts + 1) + of_groups job.groups + 2 * length job.on_failure
cost job (Starts g m gs) = 4 * (m + 1) + of_groups gs + 2 * length job.on_failure
cost job (Waits g fault kid kids gs) = 2 * (length kids + 1) + of_groups gs + 2 * length job.on_failure
cost job (Removes i fs) = 2 * (length fs + 1)
cost job Over = 0

cost_groups : (job : Job) (g : ℕ) (gs : List (List Command)) → cost job (to_groups g gs) ≤ of_groups gs + 2 * length job.on_failure
cost_groups job g [] = omega arith
cost_groups job g (c ∷ gs) = omega arith

cost_claims : (job : Job) (i : ℕ) (ts : List Temp)
    → cost job (to_claims job i ts) ≤ 2 * length ts + of_groups job.groups + 2 * length job.on_failure
cost_claims job i [] = let le = cost_groups job 0 job.groups in omega (arith, le)
cost_claims job i (t ∷ ts) = omega arith

cost_removals : (job : Job) (i : ℕ) (fs : List (List ℕ)) → cost job (to_removals i fs) ≤ 2 * length fs
cost_removals job i [] = omega arith
cost_removals job i (f ∷ fs) = omega arith

cost_waits : (job : Job) (g : ℕ) (fault : Bool) (kids : List Kid) (gs : List (List Command))
    → cost job (to_waits job g fault kids gs) ≤ 2 * length kids + of_groups gs + 2 * length job.on_failure
cost_waits job g fault (kid ∷ kids) gs = omega arith
cost_waits job g true [] gs = let le = cost_removals job 0 job.on_failure in omega (arith, le)
cost_waits job g false [] gs = let le = cost_groups job (g + 1) gs in omega (arith, le)

cost_starts : (job : Job) (g : ℕ) (fault : Bool) (kids : List Kid) (gs : List (List Command))
    → cost job (after_starts job g fault kids gs) ≤ 2 * length kids + of_groups gs + 2 * length job.on_failure
cost_starts job zero fault [] gs = omega arith
cost_starts job (suc g) fault [] gs = cost_waits job (suc g) fault [] gs
cost_starts job g fault (kid ∷ kids) gs = omega arith

starting_cost : {k g i m : ℕ} {b : Block} {kids : List Kid} {fault : Bool} → Starting k g i m b kids fault
    → length b + 2 * length kids ≤ 4 * (m + 1)
starting_cost last = omega arith
starting_cost (more {m = m} s) = let ih = starting_cost s in let e : suc m + 1 ≡ m + 1 + 1 = omega arith in rw e (omega (arith, ih))
starting_cost (refused_first {m = m}) = omega arith
starting_cost (refused_later {m = m}) = omega arith

block_cost : {k : ℕ} {job : Job} {s m : Left} {b : Block} → Goes k job s b m → length b + cost job m ≤ cost job s
block_cost {job = job} (begins d) = let le = block_cost d in let all = cost_claims job 0 job.temps in omega (arith, le, all)
block_cost {job = job} (claimed {i = i} {ts = ts}) = let le = cost_claims job (i + 1) ts in omega (arith, le)
block_cost (unclaimed e) = omega arith
block_cost {job = job} (started {g = g} {gs = gs} {kids = kids} {fault = fault} s) =
    let le = cost_starts job g fault kids gs in let used = starting_cost s in omega (arith, le, used)
block_cost {job = job} (exited {g = g} {code = code} {fault = fault} {kids = kids} {gs = gs}) = let le =
    cost_waits job g (fault || positive code) kids gs in omega (arith, le)
block_cost {job = job} (signalled {g = g} {kids = kids} {gs = gs}) = let le = cost_waits job g true kids gs in omega (arith, le)
block_cost {job = job} (lost {g = g} {kids = kids} {gs = gs}) = let le = cost_waits job g true kids gs in omega (arith, le)
block_cost {job = job} (removed {i = i} {fs = fs} e) = let le = cost_removals job (i + 1) fs in omega (arith, le)
block_cost {job = job} (stays {i = i} {fs = fs} e) = let le = cost_removals job (i + 1) fs in omega (arith, le)

story_cost : {k : ℕ} {job : Job} {s : Left} {bs : List Block} → Story k job s bs → length (events_of bs) ≤ cost job s
story_cost over = omega arith
story_cost (next {b = b} {bs = bs} d t) =
    let le = block_cost d in let rest = story_cost t in
    let all : length (b ++ events_of bs) ≡ length b + length (events_of bs) = length-append b (events_of bs) in
    omega (arith, le, rest, all)

leads_cost : {n N : ℕ} {job : ℕ → Job} {st x : ℕ → Left} {bs : List SourceBlock} → Leads n N job st bs x
    → length (events_of (blocks_of bs)) ≤ summed n (λ j. cost (job j) (st j))
leads_cost no_more = omega arith
leads_cost {n = n} {job = job} {st = st} (goes_on {k = k} {b = b} {m = m} {bs = bs} may g l) =
    let rest = leads_cost l in
    let here : length b + cost (job k) (put st k m k) ≤ cost (job k) (st k) =
    subst (λ s. length b + cost (job k) s ≤ cost (job k) (st k)) (sym (put_here st k m)) (block_cost g) in
    let down : length b + summed n (λ j. cost (job j) (put st k m j)) ≤ summed n (λ j. cost (job j) (st j)) =
    summed_down n k (length b) (λ j. cost (job j) (st j)) (λ j. cost (job j) (put st k m j)) may.is_source here
    (λ j e. ap (cost (job j)) (put_other st k m j e)) in
    let all : length (b ++ events_of (blocks_of bs)) ≡ length b + length (events_of (blocks_of bs)) =
    length-append b (events_of (blocks_of bs)) in
    omega (arith, rest, down, all)

-- The removals at the end: two events for each file at most.

last_cost : {ps : List Place} {last : List RunEvent} → Removals ps last → length last ≤ 2 * length ps
last_cost all_removed = omega arith
last_cost (file_removed e r) = let ih = last_cost r in omega (arith, ih)
last_cost (file_stays e r) = let ih = last_cost r in omega (arith, ih)

once_fewer : (seen : List (List ℕ)) (fs : List File) → length (each_once seen fs) ≤ length fs
once_fewer seen [] = omega arith
once_fewer seen (f ∷ fs) = by (list_any (pointwise nat_eq f.path) seen) (once_fewer seen fs) (once_fewer (f.path ∷ seen) fs)
  where
    by : (t : Bool) → length (each_once seen fs) ≤ length fs → length (each_once (f.path ∷ seen) fs) ≤ length fs
        → length (if t then each_once seen fs else f ∷ each_once (f.path ∷ seen) fs) ≤ length (f ∷ fs)
    by true a b = omega (arith, a)
    by false a b = omega (arith, b)

filter_fewer : (p : File → Bool) (fs : List File) → length (filter p fs) ≤ length fs
filter_fewer p [] = omega arith
filter_fewer p (f ∷ fs) = by (p f) (filter_fewer p fs)
  where
    by : (t : Bool) → length (filter p fs) ≤ length fs → length (if t then f ∷ filter p fs else filter p fs) ≤ length (f ∷ fs)
    by true a = omega (arith, a)
    by false a = omega (arith, a)

due_fewer : (plan : Plan) (E : List RunEvent) → length (due plan E) ≤ length (all_files plan)
due_fewer plan E =
    let same_length : length (due plan E) ≡ length (each_once [] (filter (λ f. is_due E f.place) (all_files plan))) = length-map _ _ in
    let once = once_fewer [] (filter (λ f. is_due E f.place) (all_files plan)) in
    let left = filter_fewer (λ f. is_due E f.place) (all_files plan) in
    omega (arith, same_length, once, left)

-- All of them fit.

many_temps : (k i : ℕ) (ts : List Temp) → length (temp_files k i ts) ≡ length ts
many_temps k i [] = refl
many_temps k i (t ∷ ts) = let e = many_temps k (i + 1) ts in omega (arith, e)

many_marked : (k i : ℕ) (ms : List (List ℕ)) → length (marked_files k i ms) ≡ length ms
many_marked k i [] = refl
many_marked k i (m ∷ ms) = let e = many_marked k (i + 1) ms in omega (arith, e)

groups_fit : (gs : List (List Command)) → ((g : ℕ) → g < length gs → 0 < length (get_or gs g []))
    → of_groups gs ≤ sum_by (λ group. 4 * length group) gs
groups_fit [] filled = omega arith
groups_fit (c ∷ gs) filled =
    let rest = groups_fit gs (λ g lt. filled (suc g) (omega (arith, lt))) in
    let here : 0 < length c = filled 0 (omega arith) in
    let all = sum_by-cons (λ group. 4 * length group) c gs in
    omega (arith, rest, here, all)

job_fits : (k : ℕ) (job : Job) → Filled job → cost job (begin job) + 2 * length (job_files k job) ≤ job_events job
job_fits k job filled = by job.groups (groups_fit job.groups filled)
  where
    files : length (job_files k job) ≡ length job.temps + length job.marked
    files =
        let all = length-append (temp_files k 0 job.temps) (marked_files k 0 job.marked) in
        let temps = many_temps k 0 job.temps in
        let marked = many_marked k 0 job.marked in
        omega (arith, all, temps, marked)

    by : (gs : List (List Command)) → of_groups job.groups ≤ sum_by (λ group. 4 * length group) job.groups
        → cost job (begin_with gs) + 2 * length (job_files k job) ≤ job_events job
    by [] fit = let f = files in omega (arith, f)
    by (c ∷ gs) fit = let f = files in omega (arith, f, fit)

jobs_fit : (k : ℕ) (jobs : List Job) → ((j : ℕ) → Filled (get_or jobs j no_job))
    → sum_by (λ job. cost job (begin job)) jobs + 2 * length (files_from k jobs) ≤ sum_by job_events jobs
jobs_fit k [] filled = omega arith
jobs_fit k (job ∷ jobs) filled =
    let rest = jobs_fit (k + 1) jobs (λ j. filled (suc j)) in
    let here = job_fits k job (filled 0) in
    let files = length-append (job_files k job) (files_from (k + 1) jobs) in
    let costs = sum_by-cons (λ job. cost job (begin job)) job jobs in
    let events = sum_by-cons job_events job jobs in
    omega (arith, rest, here, files, costs, events)

-- a sum up to n is its first part and then the others
summed_first : (n : ℕ) (f : ℕ → ℕ) → summed (suc n) f ≡ f 0 + summed n (λ j. f (suc j))
summed_first zero f = refl
summed_first (suc n) f = let e = summed_first n f in omega (arith, e)

sum_is : (jobs : List Job) (f : Job → ℕ) → summed (length jobs) (λ j. f (get_or jobs j no_job)) ≡ sum_by f jobs
sum_is [] f = refl
sum_is (job ∷ jobs) f = summed_first (length jobs) (λ j. f (get_or (job ∷ jobs) j no_job)) ∙ ap (λ n. f job + n) (sum_is jobs f)
    ∙ sym (sum_by-cons f job jobs)

pub bounded : (plan : Plan) (N : ℕ) (events : List RunEvent) → AllFilled plan → Windowed plan N events → length events ≤ needed plan
bounded plan N events filled w =
    let sources = leads_cost w.leads in
    let link = story_cost w.link_story in
    let last = last_cost w.last_removals in
    let files = due_fewer plan (events_of (blocks_of w.blocks) ++ events_of w.link) in
    let all = jobs_fit 0 (plan.jobs ++ option_to_list plan.link) filled in
    let parts = sum_by-append (λ job. cost job (begin job)) plan.jobs (option_to_list plan.link) in
    let sum = sum_is plan.jobs (λ job. cost job (begin job)) in
    let runs = link_cost (link_after plan (events_of (blocks_of w.blocks))) (list_any _ (events_of (blocks_of w.blocks))) plan.link refl in
    let one = ap (λ (l : List RunEvent). length l) w.events in
    let two = length-append (events_of (blocks_of w.blocks)) (events_of w.link ++ w.last) in
    let three = length-append (events_of w.link) w.last in
    omega (arith, sources, link, last, files, all, parts, sum, runs, one, two, three)
  where
    link_cost : (job : Job) (t : Bool) (l : Option Job) → job ≡ (if t then no_job else unwrap_or l no_job)
        → cost job (begin job) ≤ sum_by (λ job. cost job (begin job)) (option_to_list l)
    link_cost job true l e = rw e (omega arith)
    link_cost job false None e = rw e (omega arith)
    link_cost job false (Some x) e = let one = sum_by-cons (λ job. cost job (begin job)) x [] in rw e (omega (arith, one))
