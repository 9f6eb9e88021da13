use Rattle.drv_core.specs.Events.{Block, events_of}
use Rattle.drv_core.specs.Started.{started_in}
use Rattle.drv_core.specs.Windowed.{SourceBlock, Windowed, blocks_of, of}
use Rattle.drv_words.specs.declared.answers.Answer.{Answer}
use Rattle.drv_words.specs.declared.plan.Plan.{Plan}
use Rattle.drv_words.specs.declared.steps.Place.{Place}
use Rattle.drv_words.specs.declared.steps.Place.TheVariants as place
use Rattle.drv_words.specs.declared.steps.RunEvent.{RunEvent}
use Rattle.drv_words.specs.declared.steps.Step.{Step}
use Rattle.drv_words.specs.declared.steps.Step.TheVariants as step
use Rattle.std.specs.List.{flat_map}
use Rattle.std.specs.Prelude.{◌≡◌, ◌&&◌, ◌+◌, Bool, List, [], ◌∷◌, ◌++◌, false, if◌then◌else◌, length, map, nat_eq, suc, zero, ℕ}

-- A run, taken source by source (this project's profile).

-- blocks of source k
abbrev pub blocks_with : ℕ → List Block → List SourceBlock
blocks_with k bs = map (λ b. record { source = k; block = b }) bs

-- the blocks of m sources from number k on, source by source
abbrev pub by_source : ℕ → ℕ → List SourceBlock → List SourceBlock
by_source k zero bs = []
by_source k (suc m) bs = blocks_with k (of k bs) ++ by_source (k + 1) m bs

-- the events of a run, taken source by source
abbrev pub serial : {plan : Plan} {N : ℕ} {E : List RunEvent} → Windowed plan N E → List RunEvent
serial {plan = plan} w = events_of (blocks_of (by_source 0 (length plan.jobs) w.blocks)) ++ (events_of w.link ++ w.last)

-- every run, taken source by source, is a run of window 1
abbrev pub Rearranges : Type 0
Rearranges = (plan : Plan) (N : ℕ) (E : List RunEvent) (w : Windowed plan N E) → Windowed plan 1 (serial w)

-- whether two places are the same command or temporary
abbrev pub is_at : Place → Place → Bool
is_at (place.Command j h l) (place.Command k g i) = nat_eq j k && (nat_eq h g && nat_eq l i)
is_at (place.Temp j l) (place.Temp k i) = nat_eq j k && nat_eq l i
is_at q p = false

-- the answer of a claim, start or wait at this place
abbrev pub outcome : Place → Step → Answer → List Answer
outcome p (step.Claim q) x = if is_at q p then x ∷ [] else []
outcome p (step.Start q from_pipe to_pipe) x = if is_at q p then x ∷ [] else []
outcome p (step.Wait q id) x = if is_at q p then x ∷ [] else []
outcome p s x = []

-- all such answers of events
abbrev pub outcomes : Place → List RunEvent → List Answer
outcomes p events = flat_map (λ e. outcome p e.step e.answer) events

-- at each place, they are the same in a run and in that run taken source by source
abbrev pub SameOutcomes : Type 0
SameOutcomes = (plan : Plan) (N : ℕ) (E : List RunEvent) (w : Windowed plan N E) (p : Place) → outcomes p (serial w) ≡ outcomes p E

-- each job starts the same commands in the same order
abbrev pub StartsTheSame : Type 0
StartsTheSame = (plan : Plan) (N : ℕ) (E : List RunEvent) (w : Windowed plan N E) (k : ℕ) → started_in k (serial w) ≡ started_in k E
