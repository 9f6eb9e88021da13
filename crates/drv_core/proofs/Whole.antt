use Rattle.drv_words.specs.declared.steps.Place.{Place}
use Rattle.drv_core.proofs.OneWay.{first_source, head, no_more, same_step, same_story, skip}
use Rattle.drv_core.specs.Events.{Block, events_of, removal_failed}
use Rattle.drv_core.specs.Story.{Goes, Left, Over, Story, begin}
use Rattle.drv_core.specs.Windowed.{Leads, Removals, SourceBlock, Windowed, all_removed, blocks_of, due, goes_on, link_after}
use Rattle.drv_core.specs.Windowed.{no_more as stop}
use Rattle.drv_core.specs.Windowed.{put, removed, stays}
use Rattle.drv_words.specs.declared.answers.Answer.{Answer}
use Rattle.drv_words.specs.declared.answers.Answer.TheVariants as answer
use Rattle.drv_words.specs.declared.plan.Job.{Job}
use Rattle.drv_words.specs.declared.plan.Plan.{Plan}
use Rattle.drv_words.specs.declared.steps.RunEvent.{RunEvent}
use Rattle.std.proofs.Common.{◌≡◌, ◌∙◌, List, [], ◌∷◌, ◌++◌, None, Option, Some, ap, append-nil, append_assoc, if◌then◌else◌, length, refl}
use Rattle.std.proofs.Common.{subst}
use Rattle.std.proofs.Common.{sym, ℕ}
use Rattle.std.proofs.lemmas.List.{append_cancel_right}

-- Two whole runs that begin alike are one.

abbrev pub number : Option ℕ → ℕ
number None = 0
number (Some k) = k

-- blocks of the sources, to their ends, leave the same events
same_leads : {n N M : ℕ} {job : ℕ → Job} {st x y : ℕ → Left} {bs cs : List SourceBlock} {E F : List RunEvent} → Leads n N job st bs x
    → Leads n M job st cs y → ((k : ℕ) → x k ≡ Over) → ((k : ℕ) → y k ≡ Over)
    → events_of (blocks_of bs) ++ E ≡ events_of (blocks_of cs) ++ F → E ≡ F
same_leads stop stop ex ey e = e
same_leads {job = job} stop (goes_on {k = k} {b = c} {m = l} may h t) ex ey e =
    absurd (no_more (subst (λ s. Goes k (job k) s c l) (ex k) h))
same_leads {job = job} (goes_on {k = k} {b = b} {m = m} may g s) stop ex ey e =
    absurd (no_more (subst (λ s. Goes k (job k) s b m) (ey k) g))
same_leads {n = n} {M = M} {job = job} {st = st} {y = y} {E = E} {F = F} (goes_on {k = k} {b = b} {bs = bs} may g s)
    (goes_on {k = j} {b = c} {m = l} {bs = cs} may2 h t) ex ey e =
    let split : b ++ (events_of (blocks_of bs) ++ E) ≡ c ++ (events_of (blocks_of cs) ++ F) =
    sym (append_assoc b (events_of (blocks_of bs)) E) ∙ e ∙ append_assoc c (events_of (blocks_of cs)) F in
    let is : j ≡ k = ap number (sym (head h (events_of (blocks_of cs) ++ F)) ∙ ap first_source (sym split)
    ∙ head g (events_of (blocks_of bs) ++ E)) in
    let one = same_step g (subst (λ i. Goes i (job i) (st i) c l) is h) split in
    same_leads s (subst (λ x. Leads n M job (put st k x) cs y) (sym one.0) (subst (λ i. Leads n M job (put st i l) cs y) is t)) ex ey one.1

-- a block is not empty
not_none : {k : ℕ} {job : Job} {s m : Left} {b : Block} (E : List RunEvent) → Goes k job s b m → [] ≡ b ++ E → ⊥
not_none {k = k} E g e = absurd (let no : None ≡ Some k = ap first_source e ∙ head g E in cc)

-- blocks that begin with the events of others: the blocks after these, which lead on from there
pub record Rest (n N : ℕ) (job : ℕ → Job) (x y : ℕ → Left) (F : List RunEvent) : Type 0 where
  pub blocks : List SourceBlock
  pub leads : Leads n N job x blocks y
  pub events : F ≡ events_of (blocks_of blocks)

pub splits : {n N M : ℕ} {job : ℕ → Job} {st x y : ℕ → Left} {bs cs : List SourceBlock} {F : List RunEvent} → Leads n N job st bs x
    → Leads n M job st cs y → events_of (blocks_of bs) ++ F ≡ events_of (blocks_of cs) → Rest n M job x y F
splits {cs = cs} stop l e = record { blocks = cs; leads = l; events = e }
splits {bs = b ∷ bs} (goes_on may g s) stop e = absurd (not_none _ g (sym e ∙ append_assoc b.block (events_of (blocks_of bs)) _))
splits {n = n} {M = M} {job = job} {st = st} {y = y} {F = F} (goes_on {k = k} {b = b} {bs = bs} may g s)
    (goes_on {k = j} {b = c} {m = l} {bs = cs} may2 h t) e =
    let split : b ++ (events_of (blocks_of bs) ++ F) ≡ c ++ events_of (blocks_of cs) = sym (append_assoc b (events_of (blocks_of bs)) F)
    ∙ e in
    let is : j ≡ k = ap number (sym (head h (events_of (blocks_of cs))) ∙ ap first_source (sym split)
    ∙ head g (events_of (blocks_of bs) ++ F)) in
    let one = same_step g (subst (λ i. Goes i (job i) (st i) c l) is h) split in
    splits s (subst (λ x. Leads n M job (put st k x) cs y) (sym one.0) (subst (λ i. Leads n M job (put st i l) cs y) is t)) one.1

-- no events are no blocks
pub no_events : {n N : ℕ} {job : ℕ → Job} {x y : ℕ → Left} {bs : List SourceBlock} → Leads n N job x bs y → [] ≡ events_of (blocks_of bs)
    → x ≡ y
no_events stop e = refl
no_events (goes_on may g l) e = absurd (not_none _ g e)

-- there is only one way to split events into blocks, so the stages are known
pub same_stages : {n N M : ℕ} {job : ℕ → Job} {st x y : ℕ → Left} {bs cs : List SourceBlock} → Leads n N job st bs x
    → Leads n M job st cs y → events_of (blocks_of bs) ≡ events_of (blocks_of cs) → x ≡ y
same_stages {bs = bs} l m e = by (splits l m (append-nil (events_of (blocks_of bs)) ∙ e))
  where
    by : {n N : ℕ} {job : ℕ → Job} {x y : ℕ → Left} → Rest n N job x y [] → x ≡ y
    by r = no_events r.leads r.events

-- what follows the removals of these files
abbrev read_last : List Place → List RunEvent → List RunEvent
read_last [] E = E
read_last (f ∷ fs) [] = []
read_last (f ∷ fs) (e ∷ E) = read_last fs (by e.answer)
  where
    by : Answer → List RunEvent
    by (answer.Remove x) = if removal_failed x then skip E else E
    by x = E

last_read : {fs : List Place} {last : List RunEvent} → Removals fs last → (E : List RunEvent) → read_last fs (last ++ E) ≡ E
last_read all_removed E = refl
last_read (removed e r) E = rw e (last_read r E)
last_read (stays e r) E = rw e (last_read r E)

-- where the rests are the same, so is what is before them
before : {A : Type 0} (xs ys : List A) {E F : List A} → xs ++ E ≡ ys ++ F → E ≡ F → xs ≡ ys
before xs ys {F = F} e is = append_cancel_right xs ys F (ap (λ l. xs ++ l) (sym is) ∙ e)

-- a whole run goes on in no whole run, of any window
pub none_is_longer : (plan : Plan) (N M : ℕ) (E rest : List RunEvent) → Windowed plan N E → Windowed plan M (E ++ rest) → rest ≡ []
none_is_longer plan N M E rest w v =
    let all : events_of (blocks_of w.blocks) ++ (events_of w.link ++ (w.last ++ rest))
    ≡ events_of (blocks_of v.blocks) ++ (events_of v.link ++ v.last) =
    sym (ap (λ l. l ++ rest) w.events ∙ append_assoc (events_of (blocks_of w.blocks)) (events_of w.link ++ w.last) rest
    ∙ ap (λ l. events_of (blocks_of w.blocks) ++ l) (append_assoc (events_of w.link) w.last rest)) ∙ v.events in
    let later : events_of w.link ++ (w.last ++ rest) ≡ events_of v.link ++ v.last = same_leads w.leads v.leads w.ended v.ended all in
    let sources : events_of (blocks_of v.blocks) ≡ events_of (blocks_of w.blocks) =
    sym (before (events_of (blocks_of w.blocks)) (events_of (blocks_of v.blocks)) all later) in
    let last : w.last ++ rest ≡ v.last = same_story w.link_story
    (subst (λ l. Story (length plan.jobs) (link_after plan l) (begin (link_after plan l)) v.link) sources v.link_story) later in
    let link : events_of v.link ≡ events_of w.link = sym (before (events_of w.link) (events_of v.link) later last) in
    let due_last : Removals (due plan (events_of (blocks_of w.blocks) ++ events_of w.link)) v.last =
    subst (λ l. Removals (due plan (events_of (blocks_of w.blocks) ++ l)) v.last) link
    (subst (λ l. Removals (due plan (l ++ events_of v.link)) v.last) sources v.last_removals) in
    sym (last_read w.last_removals rest) ∙ ap (read_last (due plan (events_of (blocks_of w.blocks) ++ events_of w.link)))
    (last ∙ sym (append-nil v.last))
    ∙ last_read due_last []
