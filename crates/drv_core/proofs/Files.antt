use Rattle.drv_core.specs.Windowed.{File, all_files, due, each_once, files_from, is_due, job_files, marked_files, temp_files}
use Rattle.drv_words.specs.Places.{job_at, no_job}
use Rattle.drv_words.specs.declared.plan.Job.{Job}
use Rattle.drv_words.specs.declared.plan.Plan.{Plan}
use Rattle.drv_words.specs.declared.plan.Temp.{Temp}
use Rattle.drv_words.specs.declared.steps.Place.{Place}
use Rattle.drv_words.specs.declared.steps.Place.TheVariants as place
use Rattle.drv_words.specs.declared.steps.RunEvent.{RunEvent}
use Rattle.std.proofs.Common.{◌≡◌, ◌<◌, ◌≤◌, ◌+◌, ◌∙◌, Bool, false, true, List, [], ◌∷◌, ◌++◌, None, Option, Some, ap, arith, get_or}
use Rattle.std.proofs.Common.{if◌then◌else◌, length, map, nat_eq, suc, ℕ}
use Rattle.std.proofs.lemmas.List.{length-append}
use Rattle.std.specs.Cmp.Lexicographic.{pointwise}
use Rattle.std.specs.List.{filter, list_any}
use Rattle.std.specs.Option.{option_to_list}
use Rattle.std.specs.Prelude.{⊤}

-- What holds of each temporary and marked file of a plan holds of the files that are due.

-- each of these has the property
abbrev pub Each : {X : Type 0} → (X → Type 0) → List X → Type 0
Each P [] = ⊤
Each P (x ∷ xs) = P x × Each P xs

each_append : {X : Type 0} (P : X → Type 0) (xs ys : List X) → Each P xs → Each P ys → Each P (xs ++ ys)
each_append P [] ys a b = b
each_append P (x ∷ xs) ys a b = (a.0, each_append P xs ys a.1 b)

-- each temporary and marked file of a plan has a property of its place
pub all_each : (P : Place → Type 0) (plan : Plan)
    → ((k i : ℕ) → k < length plan.jobs + 1 → i < length (job_at plan k).temps → P (place.Temp k i))
    → ((k i : ℕ) → k < length plan.jobs + 1 → i < length (job_at plan k).marked → P (place.Marked k i))
    → Each (λ f. P f.place) (all_files plan)
all_each P plan temp mark = from 0 (plan.jobs ++ option_to_list plan.link) (λ j lt. ap (job_at plan) (let z : j ≡ 0 + j = omega arith in z))
    (let len = length-append plan.jobs (option_to_list plan.link) in let one = at_most_one plan.link in omega (arith, len, one))
  where
    at_most_one : (o : Option Job) → length (option_to_list o) ≤ 1
    at_most_one None = omega arith
    at_most_one (Some x) = omega arith

    temps : (k i : ℕ) (ts : List Temp) → k < length plan.jobs + 1 → i + length ts ≡ length (job_at plan k).temps
        → Each (λ f. P f.place) (temp_files k i ts)
    temps k i [] lt e = tt
    temps k i (t ∷ ts) lt e = (temp k i lt (omega (arith, e)), temps k (i + 1) ts lt (omega (arith, e)))

    marks : (k i : ℕ) (ms : List (List ℕ)) → k < length plan.jobs + 1 → i + length ms ≡ length (job_at plan k).marked
        → Each (λ f. P f.place) (marked_files k i ms)
    marks k i [] lt e = tt
    marks k i (m ∷ ms) lt e = (mark k i lt (omega (arith, e)), marks k (i + 1) ms lt (omega (arith, e)))

    from : (k : ℕ) (jobs : List Job) → ((j : ℕ) → j < length jobs → get_or jobs j no_job ≡ job_at plan (k + j))
        → k + length jobs ≤ length plan.jobs + 1 → Each (λ f. P f.place) (files_from k jobs)
    from k [] at le = tt
    from k (job ∷ jobs) at le =
        let here : job ≡ job_at plan k = at 0 (omega arith) ∙ ap (job_at plan) (let z : k + 0 ≡ k = omega arith in z) in
        each_append (λ f. P f.place) (job_files k job) (files_from (k + 1) jobs)
        (each_append (λ f. P f.place) (temp_files k 0 job.temps) (marked_files k 0 job.marked)
        (temps k 0 job.temps (omega (arith, le)) (let e : 0 + length job.temps ≡ length job.temps = omega arith in e
        ∙ ap (λ (j : Job). length j.temps) here))
        (marks k 0 job.marked (omega (arith, le)) (let e : 0 + length job.marked ≡ length job.marked = omega arith in e
        ∙ ap (λ (j : Job). length j.marked) here)))
        (from (k + 1) jobs (λ j lt. at (suc j) (omega (arith, lt)) ∙ ap (job_at plan) (let e : k + suc j ≡ k + 1 + j = omega arith in e))
        (omega (arith, le)))

filter_each : {X : Type 0} (P : X → Type 0) (p : X → Bool) (xs : List X) → Each P xs → Each P (filter p xs)
filter_each P p [] h = tt
filter_each P p (x ∷ xs) h = by (p x) (filter_each P p xs h.1)
  where
    by : (t : Bool) → Each P (filter p xs) → Each P (if t then x ∷ filter p xs else filter p xs)
    by true r = (h.0, r)
    by false r = r

once_each : (P : Place → Type 0) (seen : List (List ℕ)) (fs : List File) → Each (λ f. P f.place) fs
    → Each P (map (λ f. f.place) (each_once seen fs))
once_each P seen [] h = tt
once_each P seen (f ∷ fs) h = by (list_any (pointwise nat_eq f.path) seen) (once_each P seen fs h.1) (once_each P (f.path ∷ seen) fs h.1)
  where
    by : (t : Bool) → Each P (map (λ f. f.place) (each_once seen fs)) → Each P (map (λ f. f.place) (each_once (f.path ∷ seen) fs))
        → Each P (map (λ f. f.place) (if t then each_once seen fs else f ∷ each_once (f.path ∷ seen) fs))
    by true a b = a
    by false a b = (h.0, b)

-- so each that is due has it
pub due_each : (P : Place → Type 0) (plan : Plan) (E : List RunEvent) → Each (λ f. P f.place) (all_files plan) → Each P (due plan E)
due_each P plan E h = once_each P [] _ (filter_each (λ f. P f.place) (λ f. is_due E f.place) (all_files plan) h)
