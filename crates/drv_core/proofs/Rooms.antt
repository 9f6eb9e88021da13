use Rattle.drv_core.specs.Code.Course.{link_job}
use Rattle.drv_core.specs.Code.CourseView.{Rooms}
use Rattle.drv_core.specs.Code.Fleet.{Fleet, closed, ended, first_busy, opened, taken, turned, worked}
use Rattle.drv_core.specs.Code.FleetView.{AllInRoom, fleet_of}
use Rattle.drv_core.specs.Code.SourceView.{InRoom}
use Rattle.drv_core.specs.Code.Turns.{is_inside, is_left}
use Rattle.drv_core.specs.Filled.{AllFilled, Filled}
use Rattle.drv_core.specs.Needed.{needed}
use Rattle.drv_core.specs.declared.fleet.Fleet.{Fleet as CodeFleet}
use Rattle.drv_core.specs.declared.source.SourceState.{SourceState}
use Rattle.drv_core.specs.declared.work.RunState.{RunState}
use Rattle.drv_words.specs.Places.{no_job}
use Rattle.drv_words.specs.declared.answers.Answer.{Answer}
use Rattle.drv_words.specs.declared.plan.Job.{Job}
use Rattle.drv_words.specs.declared.plan.Plan.{Plan}
use Rattle.std.proofs.Common.{◌≡◌, ◌<◌, ◌≤◌, ◌+◌, ◌∙◌, Bool, false, true, List, [], ◌∷◌, ◌++◌, None, Option, Some, ap, arith, drop, get_or}
use Rattle.std.proofs.Common.{if◌then◌else◌}
use Rattle.std.proofs.Common.{length, nat_eq, refl, subst, suc, sym, unwrap_or, zero, ℕ}
use Rattle.std.specs.Option.{option_to_list}
use Rattle.std.specs.Vec.{vec_capacity}

-- The room that a run of the code has.

-- it depends on the sources, the link, and the room for events
pub rooms_from : (plan : Plan) (v : RunState) (f : CodeFleet) (l : SourceState) (cap : ℕ) → v.fleet ≡ f
    → v.link ≡ l → vec_capacity v.events ≡ cap
    → length f.sources.items ≡ length plan.jobs → AllInRoom plan.jobs f.sources.items → f.window < vec_capacity f.begun
    → InRoom (link_job plan) l → needed plan ≤ cap → Rooms plan v
rooms_from plan v f l cap fleets links caps many rooms begun link fits = record {
  sources = ap (λ x. length x.sources.items) fleets ∙ many;
  children = subst (λ x. AllInRoom plan.jobs x.sources.items) (sym fleets) rooms;
  begun = subst (λ x. x.window < vec_capacity x.begun) (sym fleets) begun;
  link = subst (λ x. InRoom (link_job plan) x) (sym links) link;
  events = subst (λ n. needed plan ≤ n) (sym caps) fits;
}

-- the sources keep theirs
abbrev Same : Fleet → Fleet → Type 0
Same f g = (g.window ≡ f.window) × (g.room ≡ f.room)

opened_same : (jobs : List Job) (f : Fleet) → Same f (opened jobs f)
opened_same jobs f = by (nat_eq f.current f.next)
  where
    by : (t : Bool) → Same f (if t then record f {
      begun = f.begun ++ f.current ∷ [];
      next =
          first_busy (f.current + 1) (drop (f.current + 1) jobs);
    } else f)
    by true = (refl, refl)
    by false = (refl, refl)

closed_same : (f : Fleet) → Same f (closed f)
closed_same f = by (is_left (f.turns f.current))
  where
    by : (t : Bool) → Same f (if t then f else ended f)
    by true = (refl, refl)
    by false = (refl, refl)

pub taken_same : (jobs : List Job) (f : Fleet) (x : Answer) → Same f (taken jobs f x)
taken_same jobs f x = by (is_inside ((worked jobs f x).turns (worked jobs f x).current))
  where
    w : Fleet
    w = worked jobs f x

    by : (t : Bool) → Same f (if t then w else turned jobs w)
    by true = (refl, refl)
    by false = ((closed_same (opened jobs w)).0 ∙ (opened_same jobs w).0, (closed_same (opened jobs w)).1 ∙ (opened_same jobs w).1)

pub begun_room : (jobs : List Job) (f g : CodeFleet) (x : Answer) → fleet_of jobs g ≡ taken jobs (fleet_of jobs f) x
    → f.window < vec_capacity f.begun → g.window < vec_capacity g.begun
begun_room jobs f g x is lt =
    let same = taken_same jobs (fleet_of jobs f) x in
    let window : g.window ≡ f.window = ap (λ r. r.window) is ∙ same.0 in
    let room : vec_capacity g.begun ≡ vec_capacity f.begun = ap (λ r. r.room) is ∙ same.1 in
    omega (arith, lt, window, room)

-- no group of a plan is empty, if none of its sources and its link is so
filled_append : (xs ys : List Job) → ((k : ℕ) → Filled (get_or xs k no_job)) → ((k : ℕ) → Filled (get_or ys k no_job)) → (k : ℕ)
    → Filled (get_or (xs ++ ys) k no_job)
filled_append [] ys a b k = b k
filled_append (x ∷ xs) ys a b zero = a 0
filled_append (x ∷ xs) ys a b (suc k) = filled_append xs ys (λ j. a (suc j)) b k

pub plan_filled : (plan : Plan) → ((k : ℕ) → Filled (get_or plan.jobs k no_job)) → Filled (link_job plan) → AllFilled plan
plan_filled plan jobs link = filled_append plan.jobs (option_to_list plan.link) jobs (by plan.link link)
  where
    by : (o : Option Job) → Filled (unwrap_or o no_job) → (k : ℕ) → Filled (get_or (option_to_list o) k no_job)
    by None h k = λ g lt. absurd (omega (arith, lt))
    by (Some job) h zero = h
    by (Some job) h (suc k) = λ g lt. absurd (omega (arith, lt))
