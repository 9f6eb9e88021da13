use Rattle.drv_core.specs.Events.{Block, events_of, is_claimed, positive, removal_failed, source_of}
use Rattle.drv_core.specs.Story.{Claims, Fresh, Goes, Kid, Left, Over, Removes, Starting, Starts, Story, Waits, after_starts, begins}
use Rattle.drv_core.specs.Story.{claimed, exited, last, lost, more, next, over, refused_first, refused_later, removed, signalled, started}
use Rattle.drv_core.specs.Story.{stays, to_claims, to_groups}
use Rattle.drv_core.specs.Story.{to_removals, to_waits, unclaimed}
use Rattle.drv_words.specs.declared.answers.Answer.{Answer}
use Rattle.drv_words.specs.declared.answers.Answer.TheVariants as answer
use Rattle.drv_words.specs.declared.answers.StartAnswer.TheVariants as start
use Rattle.drv_words.specs.declared.answers.WaitAnswer.TheVariants.{Exit}
use Rattle.drv_words.specs.declared.plan.Command.{Command}
use Rattle.drv_words.specs.declared.plan.Job.{Job}
use Rattle.drv_words.specs.declared.plan.Temp.{Temp}
use Rattle.drv_words.specs.declared.steps.RunEvent.{RunEvent}
use Rattle.std.proofs.Common.{◌≡◌, ◌+◌, ◌∙◌, ◌||◌, Bool, false, true, List, [], ◌∷◌, ◌++◌, ap, append_assoc, if◌then◌else◌}
use Rattle.std.proofs.Common.{None, Option, Some, refl, subst, suc, sym, zero, ℕ}

-- The events decide what is left: a reader goes over the events of a block, and every derivation agrees with it.

-- what a block leaves: the stage, and the events after it
pub record Read : Type 0 where
  pub now : Left
  pub rest : List RunEvent

-- without the first event
abbrev pub skip : List RunEvent → List RunEvent
skip [] = []
skip (e ∷ E) = E

-- what the starts of a group leave
pub record ReadStarts : Type 0 where
  pub kids : List Kid
  pub fault : Bool
  pub rest : List RunEvent

abbrev pub with_kid : Kid → ReadStarts → ReadStarts
with_kid kid r = record { kids = kid ∷ r.kids; fault = r.fault; rest = r.rest }

abbrev pub read_started : ℕ → ℕ → ℕ → List RunEvent → (ℕ → ReadStarts) → ReadStarts
read_started i id zero E go = record { kids = record { member = i; id = id } ∷ []; fault = false; rest = E }
read_started i id (suc m) E go = with_kid (record { member = i; id = id }) (go m)

abbrev pub read_refused : ℕ → List RunEvent → ReadStarts
read_refused zero E = record { kids = []; fault = true; rest = skip E }
read_refused (suc i) E = record { kids = []; fault = true; rest = skip (skip E) }

abbrev pub read_start : ℕ → ℕ → Answer → List RunEvent → (ℕ → ReadStarts) → ReadStarts
read_start i m (answer.Start (start.Started id)) E go = read_started i id m E go
read_start i m x E go = read_refused i E

abbrev pub read_starts : ℕ → ℕ → List RunEvent → ReadStarts
read_starts i m [] = record { kids = []; fault = true; rest = [] }
read_starts i m (e ∷ E) = read_start i m e.answer E (λ n. read_starts (i + 1) n E)

abbrev pub read_claim : Job → ℕ → List Temp → Answer → List RunEvent → Read
read_claim job i ts (answer.Claim x) E =
    if is_claimed x then record { now = to_claims job (i + 1) ts; rest = E } else record { now = Over; rest = skip E }
read_claim job i ts x E = record { now = Over; rest = E }

abbrev pub read_wait : Job → ℕ → Bool → List Kid → List (List Command) → Answer → List RunEvent → Read
read_wait job g fault kids gs (answer.Wait (Exit n)) E =
    record { now = to_waits job g (fault || positive n) kids gs; rest = E }
read_wait job g fault kids gs x E = record { now = to_waits job g true kids gs; rest = skip E }

abbrev pub read_removal : ℕ → List (List ℕ) → Answer → List RunEvent → Read
read_removal i fs (answer.Remove x) E = record { now = to_removals (i + 1) fs; rest = if removal_failed x then skip E else E }
read_removal i fs x E = record { now = Over; rest = E }

abbrev pub from_starts : Job → ℕ → List (List Command) → ReadStarts → Read
from_starts job g gs r = record { now = after_starts job g r.fault r.kids gs; rest = r.rest }

abbrev pub read_begun : Job → Left → List RunEvent → Read
read_begun job (Starts g m gs) E = from_starts job g gs (read_starts 0 m E)
read_begun job (Claims i ts) (e ∷ E) = read_claim job i ts e.answer E
read_begun job (Waits g fault kid kids gs) (e ∷ E) = read_wait job g fault kids gs e.answer E
read_begun job (Removes i fs) (e ∷ E) = read_removal i fs e.answer E
read_begun job s E = record { now = s; rest = E }

abbrev pub read : Job → Left → List RunEvent → Read
read job Fresh E = read_begun job (to_claims job 0 job.temps) E
read job s E = read_begun job s E

-- the starts of a group are read
starts_read : {k g i m : ℕ} {b : Block} {kids : List Kid} {fault : Bool} → Starting k g i m b kids fault → (E : List RunEvent)
    → read_starts i m (b ++ E) ≡ record { kids = kids; fault = fault; rest = E }
starts_read last E = refl
starts_read {i = i} (more {id = id} s) E = ap (with_kid (record { member = i; id = id })) (starts_read s E)
starts_read refused_first E = refl
starts_read refused_later E = refl

-- the source of the first event
abbrev pub first_source : List RunEvent → Option ℕ
first_source [] = None
first_source (e ∷ E) = Some (source_of e.step)

starts_head : {k g i m : ℕ} {b : Block} {kids : List Kid} {fault : Bool} → Starting k g i m b kids fault → (E : List RunEvent)
    → first_source (b ++ E) ≡ Some k
starts_head last E = refl
starts_head (more s) E = refl
starts_head refused_first E = refl
starts_head refused_later E = refl

-- the first event of a block is one of its source
pub head : {k : ℕ} {job : Job} {s m : Left} {b : Block} → Goes k job s b m → (E : List RunEvent) → first_source (b ++ E) ≡ Some k
head (begins g) E = head g E
head claimed E = refl
head (unclaimed e) E = refl
head (started s) E = starts_head s E
head exited E = refl
head signalled E = refl
head lost E = refl
head (removed e) E = refl
head (stays e) E = refl

-- after claims nothing is fresh
claims_begun : (job : Job) (i : ℕ) (ts : List Temp) (E : List RunEvent) → read job (to_claims job i ts) E
    ≡ read_begun job (to_claims job i ts) E
claims_begun job i (t ∷ ts) E = refl
claims_begun job i [] E = by job.groups
  where
    by : (gs : List (List Command)) → read job (to_groups 0 gs) E ≡ read_begun job (to_groups 0 gs) E
    by [] = refl
    by (c ∷ gs) = refl

-- a block that leads on is read
pub reads : {k : ℕ} {job : Job} {s m : Left} {b : Block} → Goes k job s b m → (E : List RunEvent)
    → read job s (b ++ E) ≡ record { now = m; rest = E }
reads {job = job} (begins {b = b} g) E = sym (claims_begun job 0 job.temps (b ++ E)) ∙ reads g E
reads claimed E = refl
reads (unclaimed e) E = rw e refl
reads {job = job} (started {g = g} {gs = gs} s) E = ap (from_starts job g gs) (starts_read s E)
reads exited E = refl
reads signalled E = refl
reads lost E = refl
reads (removed e) E = rw e refl
reads (stays e) E = rw e refl

-- nothing follows the end
pub no_more : {k : ℕ} {job : Job} {b : Block} {m : Left} → Goes k job Over b m → ⊥
no_more g = elim g [ ]

-- two blocks that lead on from one stage, with what follows each, leave the same
pub same_step : {k : ℕ} {job : Job} {s m l : Left} {b c : Block} {E F : List RunEvent} → Goes k job s b m → Goes k job s c l
    → b ++ E ≡ c ++ F → (m ≡ l) × (E ≡ F)
same_step {job = job} {s = s} {E = E} {F = F} g h e =
    let is : record { now = _; rest = E } ≡ record { now = _; rest = F } = sym (reads g E) ∙ ap (read job s) e ∙ reads h F in
    (ap (λ r. r.now) is, ap (λ r. r.rest) is)

-- two stories from one stage, with what follows each, leave the same
pub same_story : {k : ℕ} {job : Job} {s : Left} {bs cs : List Block} {E F : List RunEvent} → Story k job s bs → Story k job s cs
    → events_of bs ++ E ≡ events_of cs ++ F → E ≡ F
same_story over over e = e
same_story over (next h t) e = absurd (no_more h)
same_story (next g s) over e = absurd (no_more g)
same_story {k = k} {job = job} {E = E} {F = F} (next {b = b} {bs = bs} g s) (next {b = c} {bs = cs} h t) e =
    let one = same_step g h (sym (append_assoc b (events_of bs) E) ∙ e ∙ append_assoc c (events_of cs) F) in
    same_story s (subst (λ x. Story k job x cs) (sym one.0) t) one.1
