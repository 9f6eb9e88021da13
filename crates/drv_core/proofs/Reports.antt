use Rattle.drv_words.specs.declared.steps.Place.{Place}
use Rattle.drv_core.specs.Events.{Block, events_of}
use Rattle.drv_core.specs.Reported.{Reported, over as all_told, silent, told}
use Rattle.drv_core.specs.Story.{Goes, Kid, Left, Starting, Story, begins, claimed, exited, last, lost, more, next, over, refused_first}
use Rattle.drv_core.specs.Story.{refused_later}
use Rattle.drv_core.specs.Story.{removed, signalled, started, stays, unclaimed}
use Rattle.drv_core.specs.Windowed.{Leads, Removals, SourceBlock, Windowed, all_removed, blocks_of, goes_on, no_more}
use Rattle.drv_core.specs.Windowed.{removed as file_removed}
use Rattle.drv_core.specs.Windowed.{stays as file_stays}
use Rattle.drv_words.specs.declared.plan.Job.{Job}
use Rattle.drv_words.specs.declared.plan.Plan.{Plan}
use Rattle.drv_words.specs.declared.steps.RunEvent.{RunEvent}
use Rattle.std.proofs.Common.{Bool, List, ◌++◌, append_assoc, refl, subst, sym, ℕ}

-- For report_law: each block is followed by what is reported, so all are.

starts_lead : {k g i m : ℕ} {b : Block} {kids : List Kid} {fault : Bool} → Starting k g i m b kids fault
    → (F : List RunEvent) → Reported F → Reported (b ++ F)
starts_lead last F f = silent _ F refl refl f
starts_lead (more s) F f = silent _ _ refl refl (starts_lead s F f)
starts_lead refused_first F f = told _ _ _ F refl f
starts_lead refused_later F f = told _ _ _ _ refl (silent _ F refl refl f)

leads : {k : ℕ} {job : Job} {s m : Left} {b : Block} → Goes k job s b m → (F : List RunEvent) → Reported F → Reported (b ++ F)
leads (begins g) F f = leads g F f
leads claimed F f = silent _ F refl refl f
leads (unclaimed e) F f = told _ _ _ F (rw e refl) f
leads (started s) F f = starts_lead s F f
leads exited F f = silent _ F refl refl f
leads signalled F f = told _ _ _ F refl f
leads lost F f = told _ _ _ F refl f
leads (removed e) F f = silent _ F (rw e refl) refl f
leads (stays e) F f = told _ _ _ F (rw e refl) f

sources_lead : {n N : ℕ} {job : ℕ → Job} {st x : ℕ → Left} {bs : List SourceBlock} → Leads n N job st bs x
    → (F : List RunEvent) → Reported F
    → Reported (events_of (blocks_of bs) ++ F)
sources_lead no_more F f = f
sources_lead (goes_on {b = b} {bs = bs} may g l) F f =
    subst (λ l. Reported l) (sym (append_assoc b (events_of (blocks_of bs)) F)) (leads g _ (sources_lead l F f))

story_leads : {k : ℕ} {job : Job} {s : Left} {bs : List Block} → Story k job s bs → (F : List RunEvent)
    → Reported F → Reported (events_of bs ++ F)
story_leads over F f = f
story_leads (next {b = b} {bs = bs} g s) F f = subst (λ l. Reported l) (sym (append_assoc b (events_of bs) F))
    (leads g _ (story_leads s F f))

last_reported : {fs : List Place} {last : List RunEvent} → Removals fs last → Reported last
last_reported all_removed = all_told
last_reported (file_removed e r) = silent _ _ (rw e refl) refl (last_reported r)
last_reported (file_stays e r) = told _ _ _ _ (rw e refl) (last_reported r)

pub all_reported : (plan : Plan) (N : ℕ) (events : List RunEvent) → Windowed plan N events → Reported events
all_reported plan N events w = subst (λ l. Reported l) (sym w.events)
    (sources_lead w.leads _ (story_leads w.link_story _ (last_reported w.last_removals)))
