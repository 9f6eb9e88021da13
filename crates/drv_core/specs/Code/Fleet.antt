use Rattle.drv_core.specs.Code.Machine.{Out, Turn, asked, took}
use Rattle.drv_core.specs.Code.Turns.{awaits, is_inside, is_left}
use Rattle.drv_core.specs.Events.{none}
use Rattle.drv_core.specs.Story.{begin}
use Rattle.drv_words.specs.Places.{no_job}
use Rattle.drv_words.specs.declared.answers.Answer.{Answer}
use Rattle.drv_words.specs.declared.plan.Job.{Job}
use Rattle.drv_words.specs.declared.steps.Step.{Step}
use Rattle.std.specs.List.{filter}
use Rattle.std.specs.Prelude.{◌&&◌, ◌||◌, ◌+◌, ◌-◌, Bool, List, [], ◌∷◌, ◌++◌, Option, drop, get_or, if◌then◌else◌, length, min}
use Rattle.std.specs.Prelude.{nat_eq, nat_lt, not, ℕ}

-- All sources, step by step. Only private clauses cite it.

-- turns: the turn of each source; begun: the sources that are under way, in order; next: the first that hasn't begun, or the number of
-- sources. Unended is how many have not ended; current is the source in progress. `window` is how many may be under way at once, and `room`
-- for how many of these there is room.
pub record Fleet : Type 0 where
  pub turns : ℕ → Turn
  pub begun : List ℕ
  pub room : ℕ
  pub next : ℕ
  pub unended : ℕ
  pub current : ℕ
  pub window : ℕ

-- how many sources have a child in flight; whether these are all that can have one
abbrev pub flying : Fleet → ℕ
flying f = length (filter (λ k. awaits (f.turns k)) f.begun)

abbrev pub all_fly : Fleet → Bool
all_fly f = nat_eq (flying f) (min f.window f.unended)

-- a source that is under way may go on
abbrev pub may_go : Bool → Fleet → ℕ → Bool
may_go all f k = all || not (awaits (f.turns k))

-- the sources that are under way and may go on
abbrev pub going : Fleet → List ℕ
going f = filter (may_go (all_fly f) f) f.begun

-- the next source may begin, if the window has room
abbrev pub may_begin : List Job → Fleet → Bool
may_begin jobs f = nat_lt f.next (length jobs) && nat_lt (length f.begun) f.window

-- the sources that may go on, in plan order
abbrev pub able : List Job → Fleet → List ℕ
able jobs f = going f ++ (if may_begin jobs f then f.next ∷ [] else [])

-- the first job from number k on that has a group, or the number of jobs
abbrev pub first_busy : ℕ → List Job → ℕ
first_busy k [] = k
first_busy k (job ∷ jobs) = if none job.groups then first_busy (k + 1) jobs else k

-- whether a job has something to do
abbrev pub busy : Job → Bool
busy job = not (none job.groups)

-- all sources at their beginnings; the first with something to do is in progress
abbrev pub fresh_fleet : List Job → ℕ → Fleet
fresh_fleet jobs window = record {
  turns = λ k. Out (begin (get_or jobs k no_job));
  begun = [];
  room = window + 1;
  next = first_busy 0 jobs;
  unended = length (filter busy jobs);
  current = first_busy 0 jobs;
  window = window;
}

-- the next step of the source in progress
abbrev pub asked_of : List Job → Fleet → Option Step
asked_of jobs f = asked f.current (get_or jobs f.current no_job) (f.turns f.current)

-- the turns, with t as that of source k
abbrev pub turn_put : (ℕ → Turn) → ℕ → Turn → ℕ → Turn
turn_put turns k t j = if nat_eq k j then t else turns j

-- the source in progress takes an answer
abbrev pub worked : List Job → Fleet → Answer → Fleet
worked jobs f x = record f {
  turns = turn_put f.turns f.current (took (get_or jobs f.current no_job) (f.turns f.current) x);
}

-- after its first block a source has begun
abbrev pub opened : List Job → Fleet → Fleet
opened jobs f = if nat_eq f.current f.next then record f
    { begun = f.begun ++ f.current ∷ []; next = first_busy (f.current + 1) (drop (f.current + 1) jobs) } else f

-- the source in progress has ended: it is no longer under way
abbrev pub ended : Fleet → Fleet
ended f = record f { begun = filter (λ k. not (nat_eq k f.current)) f.begun; unended = f.unended - 1 }

-- after its last block it is no longer under way
abbrev pub closed : Fleet → Fleet
closed f = if is_left (f.turns f.current) then f else ended f

-- the k-th of the sources that may go on becomes the one in progress
abbrev pub selected : Fleet → ℕ → Fleet
selected f k = record f { current = get_or (going f) k f.next }

-- a block has ended: the source in progress is counted as begun, or as ended, and the first that may go on is chosen
abbrev pub turned : List Job → Fleet → Fleet
turned jobs f = selected (closed (opened jobs f)) 0

-- nothing changes while a block is open
abbrev pub settled : List Job → Fleet → Fleet
settled jobs f = if is_inside (f.turns f.current) then f else turned jobs f

-- the source in progress takes an answer, and at the end of a block a source is chosen
abbrev pub taken : List Job → Fleet → Answer → Fleet
taken jobs f x = settled jobs (worked jobs f x)
