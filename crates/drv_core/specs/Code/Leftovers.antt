use Rattle.drv_core.specs.Code.Numbering.{Leftover}
use Rattle.drv_core.specs.Events.{job_of}
use Rattle.drv_core.specs.Windowed.{all_files, each_once, is_call_of}
use Rattle.drv_words.specs.declared.answers.Answer.{Answer}
use Rattle.drv_words.specs.declared.answers.Answer.TheVariants as answer
use Rattle.drv_words.specs.declared.answers.ClaimAnswer.TheVariants as claim
use Rattle.drv_words.specs.declared.plan.Plan.{Plan}
use Rattle.drv_words.specs.declared.steps.Place.{Place}
use Rattle.drv_words.specs.declared.steps.Place.TheVariants as place
use Rattle.drv_words.specs.declared.steps.RunEvent.{RunEvent}
use Rattle.drv_words.specs.declared.steps.Step.{Step}
use Rattle.drv_words.specs.declared.steps.Step.TheVariants as step
use Rattle.std.specs.List.{filter, flat_map, list_any}
use Rattle.std.specs.Prelude.{◌&&◌, ◌+◌, Bool, List, [], ◌∷◌, false, get_or, if◌then◌else◌, length, map, nat_eq, nat_lt, not, slice_set, true, ℕ}

-- The files that are removed at the end, as the code counts them. Only private clauses cite it.

-- the temporary of job k that a step and its answer claim, by its number
abbrev pub claim_in : ℕ → Place → List ℕ
claim_in k (place.Temp j i) = if nat_eq j k then i ∷ [] else []
claim_in k p = []

abbrev pub claim_by : ℕ → Step → Answer → List ℕ
claim_by k (step.Claim p) (answer.Claim claim.Claimed) = claim_in k p
claim_by k s x = []

-- the claimed temporaries of job k, in the order of the events
abbrev pub claims_in : ℕ → List RunEvent → List ℕ
claims_in k events = flat_map (λ e. claim_by k e.step e.answer) events

-- whether a file is left: a temporary whose number is below that of the claims, or a marked file of a job that made a call
abbrev pub is_left : List RunEvent → Place → Bool
is_left events (place.Temp k i) = nat_lt i (length (claims_in k events))
is_left events (place.Marked k i) = list_any (λ e. is_call_of k e.step) events
is_left events p = false

-- these files, each path once
abbrev pub swept : Plan → List RunEvent → List Place
swept plan events = map (λ f. f.place) (each_once [] (filter (λ f. is_left events f.place) (all_files plan)))

-- The same by lists of counts, as the code goes through the events and the files.

-- one more claimed temporary of job k
abbrev pub counted : List ℕ → ℕ → List ℕ
counted claimed k = slice_set claimed k (get_or claimed k 0 + 1)

-- the answer to the claim of a temporary is counted, if it succeeded
abbrev pub noting_claim : List ℕ → Place → Answer → List ℕ
noting_claim claimed (place.Temp k i) (answer.Claim claim.Claimed) = counted claimed k
noting_claim claimed p x = claimed

abbrev pub noting : List ℕ → Step → Answer → List ℕ
noting claimed (step.Claim p) x = noting_claim claimed p x
noting claimed s x = claimed

-- a job that claims or starts something is marked
abbrev pub calling : List Bool → Step → List Bool
calling called (step.Claim p) = slice_set called (job_of p) true
calling called (step.Start p from_pipe to_pipe) = slice_set called (job_of p) true
calling called s = called

-- the same of all events
abbrev pub noted : List ℕ → List RunEvent → List ℕ
noted claimed [] = claimed
noted claimed (e ∷ events) = noted (noting claimed e.step e.answer) events

abbrev pub called_by : List Bool → List RunEvent → List Bool
called_by called [] = called
called_by called (e ∷ events) = called_by (calling called e.step) events

-- whether a file is left by these counts
abbrev pub is_counted : List ℕ → List Bool → Place → Bool
is_counted claimed called (place.Temp k i) = nat_lt i (get_or claimed k 0)
is_counted claimed called (place.Marked k i) = get_or called k false
is_counted claimed called p = false

-- and no earlier one has its path
abbrev pub is_first : List ℕ → List Bool → List Bool → Leftover → Bool
is_first claimed called gone l = is_counted claimed called l.place && not (get_or gone l.first false)

-- those of the files that are left, each path once
abbrev pub gathered : List ℕ → List Bool → List Bool → List Leftover → List Place
gathered claimed called gone [] = []
gathered claimed called gone (l ∷ ls) = if is_first claimed called gone l then l.place ∷ gathered claimed called (slice_set gone l.first true) ls
    else gathered claimed called gone ls
