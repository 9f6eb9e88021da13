use Rattle.drv_core.specs.Events.{Block, events_of, failed, job_of, removal_failed, removes, reports}
use Rattle.drv_core.specs.Story.{Fresh, Goes, Left, Over, Story, Waits, begin}
use Rattle.drv_words.specs.Places.{no_job}
use Rattle.drv_words.specs.declared.answers.Answer.{Answer}
use Rattle.drv_words.specs.declared.answers.Answer.TheVariants as answer
use Rattle.drv_words.specs.declared.answers.ClaimAnswer.TheVariants as claim
use Rattle.drv_words.specs.declared.answers.RemoveAnswer.{RemoveAnswer}
use Rattle.drv_words.specs.declared.plan.Job.{Job}
use Rattle.drv_words.specs.declared.plan.Plan.{Plan}
use Rattle.drv_words.specs.declared.plan.Temp.{Temp}
use Rattle.drv_words.specs.declared.steps.Note.TheVariants as note
use Rattle.drv_words.specs.declared.steps.Place.{Place}
use Rattle.drv_words.specs.declared.steps.Place.TheVariants as place
use Rattle.drv_words.specs.declared.steps.RunEvent.{RunEvent}
use Rattle.drv_words.specs.declared.steps.Step.{Step}
use Rattle.drv_words.specs.declared.steps.Step.TheVariants as step
use Rattle.std.specs.Cmp.Lexicographic.{pointwise}
use Rattle.std.specs.List.{filter, list_any}
use Rattle.std.specs.Option.{option_to_list}
use Rattle.std.specs.Prelude.{◌≡◌, ◌&&◌, ◌+◌, ◌<◌, Bool, List, [], ◌∷◌, ◌++◌, false, get_or, if◌then◌else◌, length}
use Rattle.std.specs.Prelude.{map, min, nat_eq, suc, true, unwrap_or, zero, ℕ}

-- A whole run of a plan with at most N sources under way at once (this project's profile).

-- a block, with the number of its source
pub record SourceBlock : Type 0 where
  pub source : ℕ
  pub block : Block

-- the blocks of source k, in order
abbrev pub of : ℕ → List SourceBlock → List Block
of k [] = []
of k (b ∷ bs) = if nat_eq b.source k then b.block ∷ of k bs else of k bs

-- the blocks without their sources
abbrev pub blocks_of : List SourceBlock → List Block
blocks_of [] = []
blocks_of (b ∷ bs) = b.block ∷ blocks_of bs

-- whether a story has not begun
abbrev pub is_fresh : Left → Bool
is_fresh Fresh = true
is_fresh s = false

-- whether it has not ended
abbrev pub is_left : Left → Bool
is_left Over = false
is_left s = true

-- whether it has begun and not ended
abbrev pub is_under_way : Left → Bool
is_under_way Fresh = false
is_under_way Over = false
is_under_way s = true

-- whether a child was started and not yet waited for
abbrev pub is_flying : Left → Bool
is_flying (Waits g fault kid kids gs) = true
is_flying s = false

-- how many sources below n pass the test
abbrev pub count : ℕ → (ℕ → Bool) → ℕ
count zero p = 0
count (suc n) p = (if p n then 1 else 0) + count n p

-- the stages, with m as that of source k
abbrev pub put : (ℕ → Left) → ℕ → Left → ℕ → Left
put st k m j = if nat_eq k j then m else st j

-- A block of source k may come next, of n sources in a window of N. Sources begin in plan order, at most N are under way, and at a wait as
-- many as possible have a child in flight.
pub record MayCome (n N : ℕ) (st : ℕ → Left) (k : ℕ) : Type 0 where
  pub is_source : k < n
  pub in_order : is_fresh (st k) ≡ true → (j : ℕ) → j < k → is_fresh (st j) ≡ false
  pub in_window : is_fresh (st k) ≡ true → count n (λ j. is_under_way (st j)) < N
  pub all_fly : is_flying (st k) ≡ true → count n (λ j. is_flying (st j)) ≡ min N (count n (λ j. is_left (st j)))

-- blocks of the sources lead from these stages to those
pub data Leads (n N : ℕ) (job : ℕ → Job) : (ℕ → Left) → List SourceBlock → (ℕ → Left) → Type 0 where
  no_more : {st : ℕ → Left} → Leads n N job st [] st
  goes_on : {st : ℕ → Left} {k : ℕ} {b : Block} {m : Left} {bs : List SourceBlock} {end : ℕ → Left} → MayCome n N st k → Goes k (job k) (st k) b m
      → Leads n N job (put st k m) bs end → Leads n N job st (record { source = k; block = b } ∷ bs) end

-- the source of a number
abbrev pub source_at : Plan → ℕ → Job
source_at plan k = get_or plan.jobs k no_job

-- the stages at the start
abbrev pub begins : Plan → ℕ → Left
begins plan k = begin (source_at plan k)

-- the link, if there is one and nothing failed in these events
abbrev pub link_after : Plan → List RunEvent → Job
link_after plan events = if list_any (λ e. failed e.answer) events then no_job else unwrap_or plan.link no_job

-- The files that are removed at the end.

-- a file of a plan, by its place and path
pub record File : Type 0 where
  pub place : Place
  pub path : List ℕ

-- the temporaries of job k, from number i on
abbrev pub temp_files : ℕ → ℕ → List Temp → List File
temp_files k i [] = []
temp_files k i (t ∷ ts) = record { place = place.Temp k i; path = t.path } ∷ temp_files k (i + 1) ts

-- the marked files of job k, from number i on
abbrev pub marked_files : ℕ → ℕ → List (List ℕ) → List File
marked_files k i [] = []
marked_files k i (m ∷ ms) = record { place = place.Marked k i; path = m } ∷ marked_files k (i + 1) ms

-- the temporaries and the marked files of job k
abbrev pub job_files : ℕ → Job → List File
job_files k job = temp_files k 0 job.temps ++ marked_files k 0 job.marked

-- the same of the jobs from number k on
abbrev pub files_from : ℕ → List Job → List File
files_from k [] = []
files_from k (job ∷ jobs) = job_files k job ++ files_from (k + 1) jobs

-- those of the sources, then those of the link
abbrev pub all_files : Plan → List File
all_files plan = files_from 0 (plan.jobs ++ option_to_list plan.link)

-- whether a place is temporary i of job k
abbrev pub is_temp : ℕ → ℕ → Place → Bool
is_temp k i (place.Temp j h) = nat_eq j k && nat_eq h i
is_temp k i p = false

-- whether an event is that temporary's claim, and it was claimed
abbrev pub has_claimed : ℕ → ℕ → Step → Answer → Bool
has_claimed k i (step.Claim p) (answer.Claim claim.Claimed) = is_temp k i p
has_claimed k i s x = false

-- whether a step is a claim or a start of job k
abbrev pub is_call_of : ℕ → Step → Bool
is_call_of k (step.Claim p) = nat_eq (job_of p) k
is_call_of k (step.Start p from_pipe to_pipe) = nat_eq (job_of p) k
is_call_of k s = false

-- whether a file is one that is removed: a claimed temporary, or a marked file of a job that made a call
abbrev pub is_due : List RunEvent → Place → Bool
is_due events (place.Temp k i) = list_any (λ e. has_claimed k i e.step e.answer) events
is_due events (place.Marked k i) = list_any (λ e. is_call_of k e.step) events
is_due events p = false

-- each path once, at its first place
abbrev pub each_once : List (List ℕ) → List File → List File
each_once seen [] = []
each_once seen (f ∷ fs) = if list_any (pointwise nat_eq f.path) seen then each_once seen fs else f ∷ each_once (f.path ∷ seen) fs

-- the files that are due after these events, by their places
abbrev pub due : Plan → List RunEvent → List Place
due plan events = map (λ f. f.place) (each_once [] (filter (λ f. is_due events f.place) (all_files plan)))

-- the removals of these files
pub data Removals : List Place → List RunEvent → Type 0 where
  all_removed : Removals [] []
  removed : {p : Place} {ps : List Place} {x : RemoveAnswer} {events : List RunEvent} → removal_failed x ≡ false → Removals ps events
      → Removals (p ∷ ps) (removes p x ∷ events)
  stays : {p : Place} {ps : List Place} {x : RemoveAnswer} {told : Bool} {events : List RunEvent} → removal_failed x ≡ true
      → Removals ps events → Removals (p ∷ ps) (removes p x ∷ reports (note.NotRemoved p) told ∷ events)

-- E is a whole run: whole blocks of the sources' stories in a permitted order, then the link's story, then the removals at the end.
pub record Windowed (plan : Plan) (N : ℕ) (E : List RunEvent) : Type 0 where
  pub blocks : List SourceBlock
  pub ends : ℕ → Left
  pub link : List Block
  pub last : List RunEvent
  pub events : E ≡ events_of (blocks_of blocks) ++ (events_of link ++ last)
  pub leads : Leads (length plan.jobs) N (source_at plan) (begins plan) blocks ends
  pub ended : (k : ℕ) → ends k ≡ Over
  pub link_story : Story (length plan.jobs) (link_after plan (events_of (blocks_of blocks)))
      (begin (link_after plan (events_of (blocks_of blocks)))) link
  pub last_removals : Removals (due plan (events_of (blocks_of blocks) ++ events_of link)) last

-- E is the beginning of a whole run; `rest`: the events that are missing
pub record IsBeginning (plan : Plan) (N : ℕ) (E : List RunEvent) : Type 0 where
  pub rest : List RunEvent
  pub whole : Windowed plan N (E ++ rest)
