use Rattle.drv_core.proofs.Finish.{Cleared, Told, begun_after, clash, clears, still, tells as told_by}
use Rattle.drv_core.proofs.Running.{Shut, Whole, at_open, at_takes, begins_by, shut}
use Rattle.drv_core.specs.Code.Machine.{At, In, Out, Took, Turn, asked, closed, is_kind, opened, took}
use Rattle.drv_core.specs.Events.{Block, event, events_of, reports}
use Rattle.drv_core.specs.Story.{Goes, Left, Over, Story, begin, next, over}
use Rattle.drv_core.specs.Windowed.{IsBeginning, Removals, Windowed, all_removed, due, is_fresh, link_after}
use Rattle.drv_words.specs.declared.answers.Answer.{Answer}
use Rattle.drv_words.specs.declared.plan.Plan.{Plan}
use Rattle.drv_words.specs.declared.steps.Note.TheVariants as note
use Rattle.drv_words.specs.declared.steps.Place.{Place}
use Rattle.drv_words.specs.declared.steps.RunEvent.{RunEvent}
use Rattle.drv_words.specs.declared.steps.Step.{Step}
use Rattle.std.proofs.Common.{◌≡◌, ◌∙◌, List, [], ◌∷◌, ◌++◌, Some, ap, append-nil, append_assoc, arith, length, refl, subst, suc, sym, true}
use Rattle.std.proofs.Common.{ℕ}
use Rattle.std.proofs.lemmas.Grind.{flat_map-append}

-- After the sources the link goes on alone, and then files are removed, until the run is whole.

-- the link has made whole blocks: what ends its story from here ends it
pub record LinkAt (plan : Plan) (N : ℕ) (E A : List RunEvent) (s : Left) : Type 0 where
  pub st : ℕ → Left
  pub sources : Whole plan N A st
  pub ended : (k : ℕ) → st k ≡ Over
  pub sound : is_fresh s ≡ true → is_fresh (begin (link_after plan A)) ≡ true
  pub blocks : List Block
  pub path : (cs : List Block) → Story (length plan.jobs) (link_after plan A) s cs
      → Story (length plan.jobs) (link_after plan A) (begin (link_after plan A)) (blocks ++ cs)
  pub events : E ≡ A ++ events_of blocks

-- and perhaps some events of an open one
pub record LinkOn (plan : Plan) (N : ℕ) (E A : List RunEvent) (t : Turn) : Type 0 where
  pub before : List RunEvent
  pub s : Left
  pub o : Block
  pub link : LinkAt plan N before A s
  pub at : At (length plan.jobs) (link_after plan A) s o t
  pub events : E ≡ before ++ o

-- files have been removed: what removes the others removes all
pub record EndAt (plan : Plan) (N : ℕ) (E : List RunEvent) (left : List RunEvent → Type 0) : Type 0 where
  pub before : List RunEvent
  pub A : List RunEvent
  pub link : LinkAt plan N before A Over
  pub gone : List RunEvent
  pub path : (xs : List RunEvent) → left xs → Removals (due plan before) (gone ++ xs)
  pub events : E ≡ before ++ gone

-- a failed removal is told, and then the other files are removed
pub data Tells (p : Place) (ps : List Place) : List RunEvent → Type 0 where
  tells : {t : _} {xs : List RunEvent} → Removals ps xs → Tells p ps (reports (note.NotRemoved p) t ∷ xs)

-- the link begins
pub link_starts : {plan : Plan} {N : ℕ} {E : List RunEvent} {st : ℕ → Left} → Whole plan N E st → ((k : ℕ) → st k ≡ Over)
    → LinkAt plan N E E (begin (link_after plan E))
link_starts {E = E} {st = st} w ended = record {
  st = st;
  sources = w;
  ended = ended;
  sound = λ e. e;
  blocks = [];
  path = λ cs s. s;
  events = sym (append-nil E);
}

pub link_closed : {plan : Plan} {N : ℕ} {E A : List RunEvent} {s : Left} → LinkAt plan N E A s → LinkOn plan N E A (Out s)
link_closed {E = E} {s = s} l = record { before = E; s = s; o = []; link = l; at = closed; events = sym (append-nil E) }

-- between its blocks
pub link_at : {plan : Plan} {N : ℕ} {E A : List RunEvent} {m : Left} → LinkOn plan N E A (Out m) → LinkAt plan N E A m
link_at {plan = plan} {N = N} {E = E} {A = A} {m = m} l = by l.link l.at l.events refl
  where
    by : {B : List RunEvent} {s : Left} {o : Block} {t : Turn} → LinkAt plan N B A s → At (length plan.jobs) (link_after plan A) s o t
        → E ≡ B ++ o → t ≡ Out m → LinkAt plan N E A m
    by {B = B} {s = s} k closed e is =
        subst (λ z. LinkAt plan N E A z) (out is) (subst (λ l. LinkAt plan N l A s) (sym (e ∙ append-nil B)) k)
      where
        out : {a b : Left} → Out a ≡ Out b → a ≡ b
        out e = cc
    by k (opened h) e is = absurd cc

link_more : {plan : Plan} {N : ℕ} {E A : List RunEvent} {s m : Left} {b : Block} → LinkAt plan N E A s
    → Goes (length plan.jobs) (link_after plan A) s b m → LinkAt plan N (E ++ b) A m
link_more {plan = plan} {A = A} {b = b} l g = record {
  st = l.st;
  sources = l.sources;
  ended = l.ended;
  sound = λ e. clash e (begun_after g);
  blocks = l.blocks ++ b ∷ [];
  path = λ cs rest. subst (λ x. Story (length plan.jobs) (link_after plan A) (begin (link_after plan A)) x)
      (sym (append_assoc l.blocks (b ∷ []) cs))
      (l.path (b ∷ cs) (next g rest));
  events = ap (λ x. x ++ b) l.events ∙ append_assoc A (events_of l.blocks) b
      ∙ ap (λ x. A ++ x) (sym (flat_map-append (λ x. x) l.blocks (b ∷ [])
      ∙ ap (λ x. events_of l.blocks ++ x) (append-nil b)));
}

-- an answer to the link's next step
pub link_takes : {plan : Plan} {N : ℕ} {E A : List RunEvent} {t : Turn} {q : Step} (x : Answer) → LinkOn plan N E A t
    → asked (length plan.jobs) (link_after plan A) t ≡ Some q → is_kind q x ≡ true
    → LinkOn plan N (E ++ event q x ∷ []) A (took (link_after plan A) t x)
link_takes {plan = plan} {N = N} {E = E} {A = A} {t = t} {q = q} x l is e =
    subst (λ z. LinkOn plan N z A (took (link_after plan A) t x))
    (sym (ap (λ z. z ++ event q x ∷ []) l.events ∙ append_assoc l.before l.o (event q x ∷ [])))
    (by (took (link_after plan A) t x) (at_takes x l.at is e))
  where
    by : (u : Turn) → Took (length plan.jobs) (link_after plan A) l.s (l.o ++ event q x ∷ []) u
        → LinkOn plan N (l.before ++ (l.o ++ event q x ∷ [])) A u
    by (In p) h = record {
      before = l.before;
      s = l.s;
      o = l.o ++ event q x ∷ [];
      link = l.link;
      at =
          at_open l.o (event q x) h;
      events = refl;
    }
    by (Out m) g = link_closed (link_more l.link g)

-- the removals begin
pub end_starts : {plan : Plan} {N : ℕ} {E A : List RunEvent} → LinkAt plan N E A Over → EndAt plan N E (Removals (due plan E))
end_starts {E = E} {A = A} l = record { before = E; A = A; link = l; gone = []; path = λ xs r. r; events = sym (append-nil E) }

-- one event more of the removals
pub end_more : {plan : Plan} {N : ℕ} {E : List RunEvent} {left right : List RunEvent → Type 0} (e : RunEvent) → EndAt plan N E left
    → ((xs : List RunEvent) → right xs → left (e ∷ xs)) → EndAt plan N (E ++ e ∷ []) right
end_more {plan = plan} e d on = record {
  before = d.before;
  A = d.A;
  link = d.link;
  gone = d.gone ++ e ∷ [];
  path = λ xs r. subst (λ x. Removals (due plan d.before) x) (sym (append_assoc d.gone (e ∷ []) xs)) (d.path (e ∷ xs) (on xs r));
  events = ap (λ x. x ++ e ∷ []) d.events ∙ append_assoc d.before d.gone (e ∷ []);
}

-- the link's story and all removals make the run whole
pub whole_from : {plan : Plan} {N : ℕ} {E A : List RunEvent} (gone : List RunEvent) → LinkAt plan N E A Over → Removals (due plan E) gone
    → Windowed plan N (E ++ gone)
whole_from {plan = plan} {A = A} gone l r = record {
  blocks = l.sources.blocks;
  ends = l.st;
  link = l.blocks;
  last = gone;
  events = ap (λ x. x ++ gone) (l.events ∙ ap (λ x. x ++ events_of l.blocks) l.sources.events) ∙ append_assoc _ (events_of l.blocks) gone;
  leads = l.sources.leads;
  ended = l.ended;
  link_story = subst (λ x. Story (length plan.jobs) (link_after plan x) (begin (link_after plan x)) l.blocks) l.sources.events
      (subst (λ x. Story (length plan.jobs) (link_after plan A) (begin (link_after plan A)) x) (append-nil l.blocks) (l.path [] over));
  last_removals = subst (λ x. Removals (due plan x) gone) (l.events ∙ ap (λ x. x ++ events_of l.blocks) l.sources.events) r;
}

pub done_is_whole : {plan : Plan} {N : ℕ} {E : List RunEvent} → EndAt plan N E (Removals []) → Windowed plan N E
done_is_whole {plan = plan} {N = N} d = subst (λ l. Windowed plan N l) (sym d.events)
    (whole_from d.gone d.link (subst (λ l. Removals (due plan d.before) l) (append-nil d.gone) (d.path [] all_removed)))

-- the link is led to its end
link_all : {plan : Plan} {N : ℕ} {A E : List RunEvent} {s : Left} {cs : List Block} → LinkAt plan N E A s
    → Story (length plan.jobs) (link_after plan A) s cs → LinkAt plan N (E ++ events_of cs) A Over
link_all {plan = plan} {N = N} {A = A} {E = E} l over = subst (λ x. LinkAt plan N x A Over) (sym (append-nil E)) l
link_all {plan = plan} {N = N} {A = A} {E = E} l (next {b = b} {bs = bs} g t) =
    subst (λ x. LinkAt plan N x A Over) (append_assoc E b (events_of bs)) (link_all (link_more l g) t)

at_begins : {plan : Plan} {N : ℕ} {E A : List RunEvent} {s : Left} → LinkAt plan N E A s → IsBeginning plan N E
at_begins {plan = plan} {N = N} {E = E} {A = A} {s = s} l =
    let t : Told (length plan.jobs) (link_after plan A) s =
    told_by (suc (still (link_after plan A) s)) (length plan.jobs) (link_after plan A) s l.sound (omega arith) in
    let c : Cleared (due plan (E ++ events_of t.blocks)) = clears (due plan (E ++ events_of t.blocks)) in
    record {
      rest = events_of t.blocks ++ c.events;
      whole = subst (λ x. Windowed plan N x) (append_assoc E (events_of t.blocks) c.events)
          (whole_from c.events (link_all l t.story) c.removals);
    }

pub link_begins : {plan : Plan} {N : ℕ} {E A : List RunEvent} {t : Turn} → LinkOn plan N E A t → IsBeginning plan N E
link_begins {plan = plan} {N = N} {E = E} {A = A} l = by l.link l.at l.events
  where
    by : {B : List RunEvent} {s : Left} {o : Block} {t : Turn} → LinkAt plan N B A s → At (length plan.jobs) (link_after plan A) s o t
        → E ≡ B ++ o → IsBeginning plan N E
    by {B = B} k closed e = subst (λ l. IsBeginning plan N l) (sym (e ∙ append-nil B)) (at_begins k)
    by {B = B} {s = s} k (opened {e = x} {o = o} {p = p} h) e =
        let end : Shut (length plan.jobs) (link_after plan A) s (x ∷ o) = shut p h in
        begins_by B (end.e ∷ end.rest) (x ∷ o) e (at_begins (link_more k end.goes))

-- what completes the removals completes the run
end_begins : {plan : Plan} {N : ℕ} {E : List RunEvent} {left : List RunEvent → Type 0} (xs : List RunEvent) → EndAt plan N E left → left xs
    → IsBeginning plan N E
end_begins {plan = plan} {N = N} xs d h = record {
  rest = xs;
  whole = subst (λ l. Windowed plan N l) (sym (append_assoc d.before d.gone xs) ∙ ap (λ l. l ++ xs) (sym d.events))
      (whole_from (d.gone ++ xs) d.link (d.path xs h));
}

pub removals_begin : {plan : Plan} {N : ℕ} {E : List RunEvent} {ps : List Place} → EndAt plan N E (Removals ps) → IsBeginning plan N E
removals_begin {ps = ps} d = let c : Cleared ps = clears ps in end_begins c.events d c.removals

pub report_begins : {plan : Plan} {N : ℕ} {E : List RunEvent} {p : Place} {ps : List Place} → EndAt plan N E (Tells p ps)
    → IsBeginning plan N E
report_begins {p = p} {ps = ps} d = let c : Cleared ps = clears ps in end_begins (reports (note.NotRemoved p) true ∷ c.events) d
    (tells c.removals)
