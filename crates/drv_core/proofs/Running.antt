use Rattle.drv_core.proofs.Answered.{first_takes, takes}
use Rattle.drv_core.proofs.Finish.{blocks_append, each_beginning_ends}
use Rattle.drv_core.proofs.OneWay.{first_source, head, no_more as none_after, same_step}
use Rattle.drv_core.proofs.Whole.{Rest, number, same_stages, splits}
use Rattle.drv_core.specs.Choices.{BetweenBlocks}
use Rattle.drv_core.specs.Code.Machine.{At, ClaimReport, Closing, Group, In, Inside, Opens, RemovalReport, StartReport, Took, Turn}
use Rattle.drv_core.specs.Code.Machine.{WaitReport}
use Rattle.drv_core.specs.Code.Machine.{asked, closed, is_kind, opened, took}
use Rattle.drv_core.specs.Events.{Block, event, events_of}
use Rattle.drv_core.specs.Story.{Goes, Kid, Left, Over}
use Rattle.drv_core.specs.Windowed.{IsBeginning, Leads, MayCome, SourceBlock, Windowed, begins, blocks_of, goes_on as step_on, is_left}
use Rattle.drv_core.specs.Windowed.{no_more, put}
use Rattle.drv_core.specs.Windowed.{source_at}
use Rattle.drv_words.specs.declared.answers.Answer.{Answer}
use Rattle.drv_words.specs.declared.answers.Answer.TheVariants as answer
use Rattle.drv_words.specs.declared.answers.NotStarted.TheVariants.{Other}
use Rattle.drv_words.specs.declared.answers.StartAnswer.TheVariants as start
use Rattle.drv_words.specs.declared.plan.Command.{Command}
use Rattle.drv_words.specs.declared.plan.Job.{Job}
use Rattle.drv_words.specs.declared.plan.Plan.{Plan}
use Rattle.drv_words.specs.declared.steps.RunEvent.{RunEvent}
use Rattle.drv_words.specs.declared.steps.Step.{Step}
use Rattle.std.proofs.Common.{◌≡◌, ◌≤◌, ◌∙◌, false, true, List, [], ◌∷◌, ◌++◌, Some, ap, append-nil, append_assoc, length, refl, subst}
use Rattle.std.proofs.Common.{suc, sym, zero, ℕ}
use Rattle.std.proofs.lemmas.Grind.{flat_map-append}

-- The events of a run so far: whole blocks, and those of an open one. They are the beginning of a whole run.

-- events that complete an open block: one, and others
pub record Shut (k : ℕ) (job : Job) (s : Left) (o : Block) : Type 0 where
  pub e : RunEvent
  pub rest : Block
  pub m : Left
  pub goes : Goes k job s (o ++ e ∷ rest) m

shut_now : {k : ℕ} {job : Job} {s m : Left} {o : Block} (e : RunEvent) → Goes k job s (o ++ e ∷ []) m → Shut k job s o
shut_now {m = m} e g = record { e = e; rest = []; m = m; goes = g }

shut_later : {k : ℕ} {job : Job} {s : Left} {o : Block} (e : RunEvent) → Shut k job s (o ++ e ∷ []) → Shut k job s o
shut_later {k = k} {job = job} {s = s} {o = o} e h =
    record { e = e; rest = h.e ∷ h.rest; m = h.m; goes = subst (λ b. Goes k job s b h.m) (append_assoc o (e ∷ []) (h.e ∷ h.rest)) h.goes }

shut_start : {k : ℕ} {job : Job} {s : Left} {o : Block} (g i : ℕ) {kids : List Kid} {gs : List (List Command)}
    → Opens k job s o (StartReport g i kids gs) → Shut k job s o
shut_start g zero h = shut_now _ (takes (answer.Reported true) h refl)
shut_start g (suc i) h = shut_later _ (shut_now _ (takes answer.Closed (takes (answer.Reported true) h refl) refl))

pub shut : {k : ℕ} {job : Job} {s : Left} {o : Block} (p : Inside) → Opens k job s o p → Shut k job s o
shut (ClaimReport i) h = shut_now _ (takes (answer.Reported true) h refl)
shut (Group g i zero kids gs) h = shut_later _ (shut_start g i (takes (answer.Start (start.NotStarted Other)) h refl))
shut (Group g i (suc m) kids gs) h = shut_later _ (shut_start g i (takes (answer.Start (start.NotStarted Other)) h refl))
shut (StartReport g i kids gs) h = shut_start g i h
shut (Closing g kids gs) h = shut_now _ (takes answer.Closed h refl)
shut (WaitReport g kid true kids gs) h = shut_now _ (takes (answer.Reported true) h refl)
shut (WaitReport g kid false kids gs) h = shut_now _ (takes (answer.Reported true) h refl)
shut (RemovalReport i fs) h = shut_now _ (takes (answer.Reported true) h refl)

-- the answer to the next step leaves the block open, or whole
pub at_takes : {k : ℕ} {job : Job} {s : Left} {o : Block} {t : Turn} {q : Step} (x : Answer) → At k job s o t → asked k job t ≡ Some q
    → is_kind q x ≡ true → Took k job s (o ++ event q x ∷ []) (took job t x)
at_takes {k = k} {job = job} {s = s} {q = q} x closed is e = first_takes k job s q x is e
at_takes {k = k} {job = job} {s = s} {q = q} x (opened {e = y} {o = o} {p = p} h) is e =
    subst (λ z. Took k job s ((y ∷ o) ++ event z x ∷ []) (took job (In p) x)) (one is)
    (takes x h (subst (λ z. is_kind z x ≡ true) (sym (one is)) e))
  where
    one : {A : Type 0} {a b : A} → Some a ≡ Some b → a ≡ b
    one e = cc

-- what is left open is open
pub at_open : {k : ℕ} {job : Job} {s : Left} {p : Inside} (o : Block) (e : RunEvent) → Opens k job s (o ++ e ∷ []) p
    → At k job s (o ++ e ∷ []) (In p)
at_open [] e h = opened h
at_open (x ∷ o) e h = opened h

-- whole blocks of the sources
pub record Whole (plan : Plan) (N : ℕ) (E : List RunEvent) (st : ℕ → Left) : Type 0 where
  pub blocks : List SourceBlock
  pub leads : Leads (length plan.jobs) N (source_at plan) (begins plan) blocks st
  pub events : E ≡ events_of (blocks_of blocks)

-- one block more at the end
leads_more : {n N k : ℕ} {job : ℕ → Job} {st x : ℕ → Left} {bs : List SourceBlock} {b : Block} {m : Left} → Leads n N job st bs x
    → MayCome n N x k → Goes k (job k) (x k) b m → Leads n N job st (bs ++ record { source = k; block = b } ∷ []) (put x k m)
leads_more no_more may g = step_on may g no_more
leads_more (step_on m h l) may g = step_on m h (leads_more l may g)

pub whole_more : {plan : Plan} {N : ℕ} {E : List RunEvent} {st : ℕ → Left} {k : ℕ} {b : Block} {m : Left} → Whole plan N E st
    → MayCome (length plan.jobs) N st k → Goes k (source_at plan k) (st k) b m → Whole plan N (E ++ b) (put st k m)
whole_more {k = k} {b = b} w may g = record {
  blocks = w.blocks ++ record { source = k; block = b } ∷ [];
  leads = leads_more w.leads may g;
  events = ap (λ l. l ++ b) w.events ∙ sym (ap events_of (blocks_append w.blocks (record { source = k; block = b } ∷ []))
      ∙ flat_map-append (λ x. x) (blocks_of w.blocks) (b ∷ []) ∙ ap (λ l. events_of (blocks_of w.blocks) ++ l) (append-nil b));
}

-- they are the beginning of a whole run
whole_begins : {plan : Plan} {N : ℕ} {E : List RunEvent} {st : ℕ → Left} → 1 ≤ N → Whole plan N E st → IsBeginning plan N E
whole_begins {plan = plan} {N = N} {st = st} one w =
    subst (λ l. IsBeginning plan N l) (sym w.events) (each_beginning_ends plan N w.blocks st one w.leads)

-- what completes the events is left
pub begins_by : {plan : Plan} {N : ℕ} {E : List RunEvent} (A b o : List RunEvent) → E ≡ A ++ o → IsBeginning plan N (A ++ (o ++ b))
    → IsBeginning plan N E
begins_by {plan = plan} {N = N} {E = E} A b o is all = record {
  rest = b ++ all.rest;
  whole = subst (λ l. Windowed plan N l) (ap (λ l. l ++ all.rest) (sym (append_assoc A o b) ∙ ap (λ l. l ++ b) (sym is))
      ∙ append_assoc E b all.rest) all.whole;
}

-- also within a block
pub sources_begin : {plan : Plan} {N : ℕ} {A o : List RunEvent} {st : ℕ → Left} {k : ℕ} {t : Turn} → 1 ≤ N → Whole plan N A st
    → MayCome (length plan.jobs) N st k → At k (source_at plan k) (st k) o t → IsBeginning plan N (A ++ o)
sources_begin {plan = plan} {N = N} {A = A} one w may closed = subst (λ l. IsBeginning plan N l) (sym (append-nil A)) (whole_begins one w)
sources_begin {plan = plan} {A = A} {st = st} {k = k} one w may (opened {e = x} {o = o} {p = p} h) =
    let end : Shut k (source_at plan k) (st k) (x ∷ o) = shut p h in
    begins_by A (end.e ∷ end.rest) (x ∷ o) refl (whole_begins one (whole_more w may end.goes))

-- Where the events are whole blocks of the sources.

-- no block begins an open one
open_no_block : {k : ℕ} {job : Job} {s m : Left} {o c : Block} {p : Inside} (F : Block) → Opens k job s o p
    → Goes k job s c m → o ≡ c ++ F → ⊥
open_no_block {k = k} {job = job} {s = s} {o = o} {c = c} {p = p} F h g e =
    let end : Shut k job s o = shut p h in
    none_left F end.e end.rest (same_step {E = []} {F = F ++ end.e ∷ end.rest} end.goes g (append-nil (o ++ end.e ∷ end.rest)
    ∙ ap (λ l. l ++ end.e ∷ end.rest) e ∙ append_assoc c F (end.e ∷ end.rest))).1
  where
    none_left : (F : Block) (e : RunEvent) (rest : Block) → [] ≡ F ++ e ∷ rest → ⊥
    none_left [] e rest is = absurd cc
    none_left (x ∷ F) e rest is = absurd cc

-- within a block they are not
pub not_inside : {plan : Plan} {N : ℕ} {E A o : List RunEvent} {st : ℕ → Left} {k : ℕ} {p : Inside} (e : RunEvent) → Whole plan N A st
    → Opens k (source_at plan k) (st k) (e ∷ o) p → E ≡ A ++ e ∷ o → BetweenBlocks plan N E → ⊥
not_inside {plan = plan} {N = N} {A = A} {o = o} {st = st} {k = k} {p = p} e w h is b =
    by (splits w.leads b.leads (ap (λ l. l ++ e ∷ o) (sym w.events) ∙ sym is ∙ b.events))
  where
    end : Shut k (source_at plan k) (st k) (e ∷ o)
    end = shut p h

    none : {n M : ℕ} {y : ℕ → Left} {bs : List SourceBlock} → Leads n M (source_at plan) st bs y → e ∷ o ≡ events_of (blocks_of bs) → ⊥
    none no_more is = absurd cc
    none (step_on {k = j} {b = c} {m = m} {bs = bs} may g l) is =
        let same : j ≡ k = ap number (sym (head g (events_of (blocks_of bs))) ∙ ap first_source (sym is) ∙ head end.goes []) in
        open_no_block (events_of (blocks_of bs)) h (subst (λ i. Goes i (source_at plan i) (st i) c m) same g) is

    by : Rest (length plan.jobs) N (source_at plan) st b.st (e ∷ o) → ⊥
    by r = none r.leads r.events

-- after the sources they are not
pub not_after : {plan : Plan} {N : ℕ} {E A : List RunEvent} {st : ℕ → Left} (F : List RunEvent) → Whole plan N A st
    → ((k : ℕ) → st k ≡ Over) → E ≡ A ++ F → BetweenBlocks plan N E → ⊥
not_after {plan = plan} {N = N} {A = A} {st = st} F w ended is b =
    by (splits w.leads b.leads (ap (λ l. l ++ F) (sym w.events) ∙ sym is ∙ b.events))
  where
    none : {n M : ℕ} {y : ℕ → Left} {bs : List SourceBlock} → Leads n M (source_at plan) st bs y → is_left (y b.some) ≡ true → ⊥
    none no_more e = absurd (let no : false ≡ true = sym (ap is_left (ended b.some)) ∙ e in cc)
    none (step_on {k = j} {b = c} {m = m} may g l) e = none_after (subst (λ s. Goes j (source_at plan j) s c m) (ended j) g)

    by : Rest (length plan.jobs) N (source_at plan) st b.st F → ⊥
    by r = none r.leads b.some_left

-- between blocks the stages are known
pub between_is : {plan : Plan} {N : ℕ} {E : List RunEvent} {st : ℕ → Left} → Whole plan N E st → (b : BetweenBlocks plan N E) → st ≡ b.st
between_is w b = same_stages w.leads b.leads (sym w.events ∙ b.events)
