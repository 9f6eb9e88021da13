use Rattle.drv_core.specs.Events.{Block, claims, is_claimed, positive, removal_failed, removes, reports, starts, waits}
use Rattle.drv_core.specs.Story.{Claims, Fresh, Goes, Kid, Left, Over, Removes, Starting, Starts, Waits, after_starts, to_claims, to_removals, to_waits}
use Rattle.drv_words.specs.declared.answers.Answer.{Answer}
use Rattle.drv_words.specs.declared.answers.Answer.TheVariants as answer
use Rattle.drv_words.specs.declared.answers.ClaimAnswer.{ClaimAnswer}
use Rattle.drv_words.specs.declared.answers.NotStarted.{NotStarted}
use Rattle.drv_words.specs.declared.answers.RemoveAnswer.{RemoveAnswer}
use Rattle.drv_words.specs.declared.answers.StartAnswer.TheVariants as start
use Rattle.drv_words.specs.declared.answers.WaitAnswer.TheVariants.{Exit, Lost, Signal}
use Rattle.drv_words.specs.declared.plan.Command.{Command}
use Rattle.drv_words.specs.declared.plan.Job.{Job}
use Rattle.drv_words.specs.declared.plan.Temp.{Temp}
use Rattle.drv_words.specs.declared.steps.Note.TheVariants as note
use Rattle.drv_words.specs.declared.steps.Place.TheVariants as place
use Rattle.drv_words.specs.declared.steps.RunEvent.{RunEvent}
use Rattle.drv_words.specs.declared.steps.Step.{Step}
use Rattle.drv_words.specs.declared.steps.Step.TheVariants as step
use Rattle.std.specs.Prelude.{◌≡◌, ◌+◌, ◌||◌, Bool, List, [], ◌∷◌, ◌++◌, None, Option, Some, false, if◌then◌else◌, suc, true, zero, ℕ}

-- The next step of one source, and what its answer leaves. Only private clauses cite it.

-- inside a block: what is asked next
pub data Inside : Type 0 where
  ClaimReport : (i : ℕ) → Inside
  Group : (g i more : ℕ) → (kids : List Kid) → (gs : List (List Command)) → Inside
  StartReport : (g i : ℕ) → (kids : List Kid) → (gs : List (List Command)) → Inside
  Closing : (g : ℕ) → (kids : List Kid) → (gs : List (List Command)) → Inside
  WaitReport : (g : ℕ) → (kid : Kid) → (lost : Bool) → (kids : List Kid) → (gs : List (List Command)) → Inside
  RemovalReport : (i : ℕ) → (fs : List (List ℕ)) → Inside

-- after an answer the block goes on, or it is whole
pub data Turn : Type 0 where
  In : (p : Inside) → Turn
  Out : (m : Left) → Turn

-- the first step of the next block, if there is one
abbrev pub first_begun : ℕ → Left → Option Step
first_begun k (Claims i ts) = Some (step.Claim (place.Temp k i))
first_begun k (Starts g m gs) = Some (step.Start (place.Command k g 0) false (positive m))
first_begun k (Waits g fault kid kids gs) = Some (step.Wait (place.Command k g kid.member) kid.id)
first_begun k (Removes i fs) = Some (step.Remove (place.OnFailure k i))
first_begun k s = None

-- the stage, where nothing was done yet that of the first block
abbrev pub begun_at : Job → Left → Left
begun_at job Fresh = to_claims job 0 job.temps
begun_at job s = s

abbrev pub first : ℕ → Job → Left → Option Step
first k job s = first_begun k (begun_at job s)

-- the next step inside a block
abbrev pub asks : ℕ → Inside → Step
asks k (ClaimReport i) = step.Report (note.NotClaimed (place.Temp k i))
asks k (Group g i m kids gs) = step.Start (place.Command k g i) (positive i) (positive m)
asks k (StartReport g i kids gs) = step.Report (note.NotStarted (place.Command k g i))
asks k (Closing g kids gs) = step.ClosePipe
asks k (WaitReport g kid true kids gs) = step.Report (note.Lost (place.Command k g kid.member))
asks k (WaitReport g kid false kids gs) = step.Report (note.Signalled (place.Command k g kid.member))
asks k (RemovalReport i fs) = step.Report (note.NotRemoved (place.OnFailure k i))

abbrev pub after_start : Job → ℕ → ℕ → ℕ → List Kid → List (List Command) → Answer → Turn
after_start job g i zero kids gs (answer.Start (start.Started id)) = Out (after_starts job g false (kids ++ record { member = i; id = id } ∷ []) gs)
after_start job g i (suc m) kids gs (answer.Start (start.Started id)) = In (Group g (i + 1) m (kids ++ record { member = i; id = id } ∷ []) gs)
after_start job g i m kids gs x = In (StartReport g i kids gs)

abbrev pub after_wait : Job → ℕ → Bool → Kid → List Kid → List (List Command) → Answer → Turn
after_wait job g fault kid kids gs (answer.Wait (Exit n)) = Out (to_waits job g (fault || positive n) kids gs)
after_wait job g fault kid kids gs (answer.Wait Signal) = In (WaitReport g kid false kids gs)
after_wait job g fault kid kids gs x = In (WaitReport g kid true kids gs)

abbrev pub after_claim : Job → ℕ → List Temp → Answer → Turn
after_claim job i ts (answer.Claim x) = if is_claimed x then Out (to_claims job (i + 1) ts) else In (ClaimReport i)
after_claim job i ts x = In (ClaimReport i)

abbrev pub after_removal : ℕ → List (List ℕ) → Answer → Turn
after_removal i fs (answer.Remove x) = if removal_failed x then In (RemovalReport i fs) else Out (to_removals (i + 1) fs)
after_removal i fs x = In (RemovalReport i fs)

-- what the answer to the first step leaves
abbrev pub after_first_begun : Job → Left → Answer → Turn
after_first_begun job (Claims i ts) x = after_claim job i ts x
after_first_begun job (Starts g m gs) x = after_start job g 0 m [] gs x
after_first_begun job (Waits g fault kid kids gs) x = after_wait job g fault kid kids gs x
after_first_begun job (Removes i fs) x = after_removal i fs x
after_first_begun job s x = Out s

abbrev pub after_first : Job → Left → Answer → Turn
after_first job s x = after_first_begun job (begun_at job s) x

abbrev pub after : Job → Inside → Answer → Turn
after job (ClaimReport i) x = Out Over
after job (Group g i m kids gs) x = after_start job g i m kids gs x
after job (StartReport g zero kids gs) x = Out (after_starts job g true kids gs)
after job (StartReport g (suc i) kids gs) x = In (Closing g kids gs)
after job (Closing g kids gs) x = Out (after_starts job g true kids gs)
after job (WaitReport g kid lost kids gs) x = Out (to_waits job g true kids gs)
after job (RemovalReport i fs) x = Out (to_removals (i + 1) fs)

-- whether an answer has the kind of its step
abbrev pub is_kind : Step → Answer → Bool
is_kind (step.Claim p) (answer.Claim x) = true
is_kind (step.Start p from_pipe to_pipe) (answer.Start x) = true
is_kind step.ClosePipe answer.Closed = true
is_kind (step.Wait p id) (answer.Wait x) = true
is_kind (step.Remove p) (answer.Remove x) = true
is_kind (step.Report n) (answer.Reported x) = true
is_kind s x = false

-- some starts of a group of 1 + n were made: what completes them completes the group
pub record Started (k g n i m : ℕ) (o : Block) (kids : List Kid) : Type 0 where
  pub on : (b : Block) (more : List Kid) (fault : Bool) → Starting k g i m b more fault → Starting k g 0 n (o ++ b) (kids ++ more) fault

-- the events `o` open a block that stands inside
pub data Opens (k : ℕ) (job : Job) : Left → Block → Inside → Type 0 where
  begun : {o : Block} {p : Inside} → Opens k job (to_claims job 0 job.temps) o p → Opens k job Fresh o p
  claim_failed : {i : ℕ} {ts : List Temp} {x : ClaimAnswer} → is_claimed x ≡ false → Opens k job (Claims i ts) (claims (place.Temp k i) x ∷ []) (ClaimReport i)
  in_group : {g n i m : ℕ} {kids : List Kid} {gs : List (List Command)} {o : Block} → Started k g n i m o kids
      → Opens k job (Starts g n gs) o (Group g i m kids gs)
  start_failed : {g n i m : ℕ} {kids : List Kid} {gs : List (List Command)} (o : Block) (why : NotStarted) → Started k g n i m o kids
      → Opens k job (Starts g n gs) (o ++ starts (place.Command k g i) (positive i) (positive m) (start.NotStarted why) ∷ []) (StartReport g i kids gs)
  to_close : {g n i m : ℕ} {kids : List Kid} {gs : List (List Command)} (o : Block) (why : NotStarted) (told : Bool) → Started k g n (suc i) m o kids
      → Opens k job (Starts g n gs) (o ++ starts (place.Command k g (suc i)) true (positive m) (start.NotStarted why)
      ∷ reports (note.NotStarted (place.Command k g (suc i))) told ∷ []) (Closing g kids gs)
  by_signal : {g : ℕ} {fault : Bool} {kid : Kid} {kids : List Kid} {gs : List (List Command)}
      → Opens k job (Waits g fault kid kids gs) (waits (place.Command k g kid.member) kid.id Signal ∷ []) (WaitReport g kid false kids gs)
  by_loss : {g : ℕ} {fault : Bool} {kid : Kid} {kids : List Kid} {gs : List (List Command)}
      → Opens k job (Waits g fault kid kids gs) (waits (place.Command k g kid.member) kid.id Lost ∷ []) (WaitReport g kid true kids gs)
  not_removed : {i : ℕ} {fs : List (List ℕ)} {x : RemoveAnswer} → removal_failed x ≡ true
      → Opens k job (Removes i fs) (removes (place.OnFailure k i) x ∷ []) (RemovalReport i fs)

-- the events open a block, or are a whole one
abbrev pub Took : ℕ → Job → Left → Block → Turn → Type 0
Took k job s o (In p) = Opens k job s o p
Took k job s o (Out m) = Goes k job s o m

-- the turn, where nothing was done yet that of the first block
abbrev pub begun_turn : Job → Turn → Turn
begun_turn job (Out s) = Out (begun_at job s)
begun_turn job (In p) = In p

-- the next step, if there is one
abbrev pub asked_now : ℕ → Turn → Option Step
asked_now k (Out s) = first_begun k s
asked_now k (In p) = Some (asks k p)

abbrev pub asked : ℕ → Job → Turn → Option Step
asked k job t = asked_now k (begun_turn job t)

-- what an answer leaves
abbrev pub took_now : Job → Turn → Answer → Turn
took_now job (Out s) x = after_first_begun job s x
took_now job (In p) x = after job p x

abbrev pub took : Job → Turn → Answer → Turn
took job t x = took_now job (begun_turn job t) x

-- at stage `s`, or with the open block `o` that began there
pub data At (k : ℕ) (job : Job) (s : Left) : Block → Turn → Type 0 where
  closed : At k job s [] (Out s)
  opened : {e : RunEvent} {o : Block} {p : Inside} → Opens k job s (e ∷ o) p → At k job s (e ∷ o) (In p)
