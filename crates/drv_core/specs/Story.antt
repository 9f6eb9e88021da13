use Rattle.drv_core.specs.Events.{Block, claims, closes, is_claimed, positive, removal_failed, removes, reports, starts, waits}
use Rattle.drv_words.specs.declared.answers.ClaimAnswer.{ClaimAnswer}
use Rattle.drv_words.specs.declared.answers.ClaimAnswer.TheVariants as claim
use Rattle.drv_words.specs.declared.answers.NotStarted.{NotStarted}
use Rattle.drv_words.specs.declared.answers.RemoveAnswer.{RemoveAnswer}
use Rattle.drv_words.specs.declared.answers.StartAnswer.TheVariants as start
use Rattle.drv_words.specs.declared.answers.WaitAnswer.TheVariants.{Exit, Lost, Signal}
use Rattle.drv_words.specs.declared.plan.Command.{Command}
use Rattle.drv_words.specs.declared.plan.Job.{Job}
use Rattle.drv_words.specs.declared.plan.Temp.{Temp}
use Rattle.drv_words.specs.declared.steps.Note.TheVariants as note
use Rattle.drv_words.specs.declared.steps.Place.TheVariants as place
use Rattle.std.specs.Prelude.{◌≡◌, ◌+◌, ◌-◌, ◌||◌, Bool, List, [], ◌∷◌, false, length, suc, true, zero, ℕ}

-- The story of a job: its blocks of events in order (POSIX c99, "Consequences of Errors"; this project's profile).

-- a child that was started, and the member of its group that it is
pub record Kid : Type 0 where
  pub member : ℕ
  pub id : ℕ

-- What is left of a job's story. `Claims`: claim number i, then those of `ts`. `Starts`: group number g, of one command and `more`, then the
-- groups `gs`. `Waits`: this child of group g, then `kids`; fault: whether the group has had one. `Removes`: failure file number i, then
-- those of `fs`.
pub data Left : Type 0 where
  Fresh : Left
  Claims : (i : ℕ) → (ts : List Temp) → Left
  Starts : (g : ℕ) → (more : ℕ) → (gs : List (List Command)) → Left
  Waits : (g : ℕ) → (fault : Bool) → (kid : Kid) → (kids : List Kid) → (gs : List (List Command)) → Left
  Removes : (i : ℕ) → (fs : List (List ℕ)) → Left
  Over : Left

-- the groups from number g on
abbrev pub to_groups : ℕ → List (List Command) → Left
to_groups g [] = Over
to_groups g (c ∷ gs) = Starts g (length c - 1) gs

-- the claims from number i on, then the groups
abbrev pub to_claims : Job → ℕ → List Temp → Left
to_claims job i [] = to_groups 0 job.groups
to_claims job i (t ∷ ts) = Claims i ts

-- the failure files from number i on
abbrev pub to_removals : ℕ → List (List ℕ) → Left
to_removals i [] = Over
to_removals i (f ∷ fs) = Removes i fs

-- after the starts of a group, and between its waits; where no child of the first group was started, nothing is removed
abbrev pub to_waits : Job → ℕ → Bool → List Kid → List (List Command) → Left
to_waits job g fault (kid ∷ kids) gs = Waits g fault kid kids gs
to_waits job g true [] gs = to_removals 0 job.on_failure
to_waits job g false [] gs = to_groups (g + 1) gs

-- after the starts; a first start that was refused in the first group leaves nothing to do
abbrev pub after_starts : Job → ℕ → Bool → List Kid → List (List Command) → Left
after_starts job zero fault [] gs = Over
after_starts job (suc g) fault [] gs = to_waits job (suc g) fault [] gs
after_starts job g fault (kid ∷ kids) gs = Waits g fault kid kids gs

-- a job without groups has the empty story
abbrev pub begin_with : List (List Command) → Left
begin_with [] = Over
begin_with (c ∷ gs) = Fresh

abbrev pub begin : Job → Left
begin job = begin_with job.groups

-- The starts of a group from member i on, `more` others after it, with the children and whether one was refused. All but the first read a
-- pipe, all but the last write one.
pub data Starting (k g : ℕ) : ℕ → ℕ → Block → List Kid → Bool → Type 0 where
  last : {i id : ℕ} → Starting k g i 0 (starts (place.Command k g i) (positive i) false (start.Started id) ∷ [])
      (record { member = i; id = id } ∷ []) false
  more : {i m id : ℕ} {b : Block} {kids : List Kid} {fault : Bool} → Starting k g (i + 1) m b kids fault
      → Starting k g i (suc m) (starts (place.Command k g i) (positive i) true (start.Started id) ∷ b)
      (record { member = i; id = id } ∷ kids) fault
  -- the first is refused
  refused_first : {m : ℕ} {why : NotStarted} {told : Bool} → Starting k g 0 m (starts (place.Command k g 0) false (positive m) (start.NotStarted why)
      ∷ reports (note.NotStarted (place.Command k g 0)) told ∷ []) [] true
  -- another is refused, and the pipe is closed
  refused_later : {i m : ℕ} {why : NotStarted} {told : Bool} → Starting k g (suc i) m (starts (place.Command k g (suc i)) true (positive m)
      (start.NotStarted why) ∷ reports (note.NotStarted (place.Command k g (suc i))) told ∷ closes ∷ []) [] true

-- a whole block leads on
pub data Goes (k : ℕ) (job : Job) : Left → Block → Left → Type 0 where
  begins : {b : Block} {m : Left} → Goes k job (to_claims job 0 job.temps) b m → Goes k job Fresh b m
  claimed : {i : ℕ} {ts : List Temp} → Goes k job (Claims i ts) (claims (place.Temp k i) claim.Claimed ∷ []) (to_claims job (i + 1) ts)
  unclaimed : {i : ℕ} {ts : List Temp} {x : ClaimAnswer} {told : Bool} → is_claimed x ≡ false
      → Goes k job (Claims i ts) (claims (place.Temp k i) x ∷ reports (note.NotClaimed (place.Temp k i)) told ∷ []) Over
  started : {g m : ℕ} {gs : List (List Command)} {b : Block} {kids : List Kid} {fault : Bool} → Starting k g 0 m b kids fault
      → Goes k job (Starts g m gs) b (after_starts job g fault kids gs)
  exited : {g code : ℕ} {fault : Bool} {kid : Kid} {kids : List Kid} {gs : List (List Command)}
      → Goes k job (Waits g fault kid kids gs) (waits (place.Command k g kid.member) kid.id (Exit code) ∷ [])
      (to_waits job g (fault || positive code) kids gs)
  signalled : {g : ℕ} {fault told : Bool} {kid : Kid} {kids : List Kid} {gs : List (List Command)}
      → Goes k job (Waits g fault kid kids gs) (waits (place.Command k g kid.member) kid.id Signal
      ∷ reports (note.Signalled (place.Command k g kid.member)) told ∷ []) (to_waits job g true kids gs)
  lost : {g : ℕ} {fault told : Bool} {kid : Kid} {kids : List Kid} {gs : List (List Command)}
      → Goes k job (Waits g fault kid kids gs) (waits (place.Command k g kid.member) kid.id Lost
      ∷ reports (note.Lost (place.Command k g kid.member)) told ∷ []) (to_waits job g true kids gs)
  removed : {i : ℕ} {fs : List (List ℕ)} {x : RemoveAnswer} → removal_failed x ≡ false
      → Goes k job (Removes i fs) (removes (place.OnFailure k i) x ∷ []) (to_removals (i + 1) fs)
  stays : {i : ℕ} {fs : List (List ℕ)} {x : RemoveAnswer} {told : Bool} → removal_failed x ≡ true
      → Goes k job (Removes i fs) (removes (place.OnFailure k i) x ∷ reports (note.NotRemoved (place.OnFailure k i)) told ∷ [])
      (to_removals (i + 1) fs)

-- the blocks of a job, to the end
pub data Story (k : ℕ) (job : Job) : Left → List Block → Type 0 where
  over : Story k job Over []
  next : {s m : Left} {b : Block} {bs : List Block} → Goes k job s b m → Story k job m bs → Story k job s (b ∷ bs)
