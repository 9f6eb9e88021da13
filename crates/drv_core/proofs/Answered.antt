use Rattle.drv_core.proofs.Tests.{some_is}
use Rattle.drv_core.specs.Events.{Block, claims, closes, is_claimed, positive, removal_failed, removes, reports, starts}
use Rattle.drv_core.specs.Code.Machine.{ClaimReport, Closing, Group, In, Inside, Opens, Out, RemovalReport, Started, Took, Turn, after}
use Rattle.drv_core.specs.Code.Machine.{after_claim, after_first, after_first_begun, after_removal, after_start, after_wait, asks, begun}
use Rattle.drv_core.specs.Code.Machine.{by_loss, by_signal, claim_failed, first, first_begun, in_group}
use Rattle.drv_core.specs.Code.Machine.{is_kind, not_removed, start_failed, to_close}
use Rattle.drv_core.specs.Story.{Claims, Fresh, Goes, Kid, Left, Removes, Starting, Starts, Waits, after_starts, begins, claimed, exited}
use Rattle.drv_core.specs.Story.{last, lost}
use Rattle.drv_core.specs.Story.{more, refused_first, refused_later, removed, signalled, started, stays, to_claims, to_removals, unclaimed}
use Rattle.drv_words.specs.declared.answers.Answer.{Answer}
use Rattle.drv_words.specs.declared.answers.Answer.TheVariants as answer
use Rattle.drv_words.specs.declared.answers.ClaimAnswer.{ClaimAnswer}
use Rattle.drv_words.specs.declared.answers.ClaimAnswer.TheVariants as claim
use Rattle.drv_words.specs.declared.answers.RemoveAnswer.{RemoveAnswer}
use Rattle.drv_words.specs.declared.answers.StartAnswer.TheVariants as start
use Rattle.drv_words.specs.declared.answers.WaitAnswer.TheVariants.{Exit, Lost, Signal}
use Rattle.drv_words.specs.declared.plan.Command.{Command}
use Rattle.drv_words.specs.declared.plan.Job.{Job}
use Rattle.drv_words.specs.declared.steps.Note.TheVariants as note
use Rattle.drv_words.specs.declared.steps.Place.TheVariants as place
use Rattle.drv_words.specs.declared.steps.Step.{Step}
use Rattle.drv_words.specs.declared.steps.Step.TheVariants as step
use Rattle.std.proofs.Common.{◌≡◌, ◌+◌, Bool, false, true, List, [], ◌∷◌, ◌++◌, Some, append-nil, append_assoc, if◌then◌else◌}
use Rattle.std.proofs.Common.{refl, subst, suc, sym, zero, ℕ}

-- The answer to the next step leaves the block open, or whole.

-- one child more of a group that goes on
one_more : {k g n i m : ℕ} {o : Block} {kids : List Kid} (id : ℕ) → Started k g n i (suc m) o kids
    → Started k g n (i + 1) m (o ++ starts (place.Command k g i) (positive i) true (start.Started id) ∷ [])
    (kids ++ record { member = i; id = id } ∷ [])
one_more {k = k} {g = g} {n = n} {i = i} {m = m} {o = o} {kids = kids} id s = record {
  on = λ b later fault rest.
      subst (λ x. Starting k g 0 n x ((kids ++ record { member = i; id = id } ∷ []) ++ later) fault)
      (sym (append_assoc o (starts (place.Command k g i) (positive i) true (start.Started id) ∷ []) b))
      (subst (λ l. Starting k g 0 n (o ++ starts (place.Command k g i) (positive i) true (start.Started id) ∷ b) l fault)
      (sym (append_assoc kids (record { member = i; id = id } ∷ []) later)) (s.on _ _ fault (more rest)));
}

-- the answer to a start of a group
started_takes : {k g n i : ℕ} (m : ℕ) {o : Block} {kids : List Kid} (job : Job) (gs : List (List Command)) (x : Answer)
    → Started k g n i m o kids
    → is_kind (asks k (Group g i m kids gs)) x ≡ true
    → Took k job (Starts g n gs) (o ++ record { step = asks k (Group g i m kids gs); answer = x } ∷ []) (after_start job g i m kids gs x)
started_takes zero job gs (answer.Start (start.Started id)) s e = started (s.on _ _ false last)
started_takes (suc m) job gs (answer.Start (start.Started id)) s e = in_group (one_more id s)
started_takes zero job gs (answer.Start (start.NotStarted why)) s e = start_failed _ why s
started_takes (suc m) job gs (answer.Start (start.NotStarted why)) s e = start_failed _ why s
started_takes m job gs x s e = absurd cc

at_first : {k g n : ℕ} → Started k g n 0 n [] []
at_first = record { on = λ b kids fault s. s }

-- a block that begins a story
begun_took : (k : ℕ) (job : Job) (o : Block) (t : Turn) → Took k job (to_claims job 0 job.temps) o t → Took k job Fresh o t
begun_took k job o (In p) h = begun h
begun_took k job o (Out m) h = begins h

-- the answer to the first step of a block
first_begun_takes : (k : ℕ) (job : Job) (s : Left) (q : Step) (x : Answer) → first_begun k s ≡ Some q → is_kind q x ≡ true
    → Took k job s (record { step = q; answer = x } ∷ []) (after_first_begun job s x)
first_begun_takes k job (Claims i ts) q x is e = by x (some_is is) e
  where
    of_claim : (x : ClaimAnswer) (t : Bool) → is_claimed x ≡ t → Took k job (Claims i ts) (claims (place.Temp k i) x ∷ [])
        (if t then Out (to_claims job (i + 1) ts) else In (ClaimReport i))
    of_claim claim.Claimed true h = claimed
    of_claim x true h = absurd cc
    of_claim x false h = claim_failed h

    by : (x : Answer) → step.Claim (place.Temp k i) ≡ q → is_kind q x ≡ true
        → Took k job (Claims i ts) (record { step = q; answer = x } ∷ []) (after_claim job i ts x)
    by (answer.Claim x) is e = rw (← is) (of_claim x (is_claimed x) refl)
    by x is e = absurd cc
first_begun_takes k job (Starts g m gs) q x is e = by (some_is is) e
  where
    by : step.Start (place.Command k g 0) false (positive m) ≡ q → is_kind q x ≡ true
        → Took k job (Starts g m gs) (record { step = q; answer = x } ∷ []) (after_start job g 0 m [] gs x)
    by is e = subst (λ y. Took k job (Starts g m gs) (record { step = y; answer = x } ∷ []) (after_start job g 0 m [] gs x)) is
        (started_takes m job gs x at_first (subst (λ y. is_kind y x ≡ true) (sym is) e))
first_begun_takes k job (Waits g fault kid kids gs) q x is e = by x (some_is is) e
  where
    by : (x : Answer) → step.Wait (place.Command k g kid.member) kid.id ≡ q → is_kind q x ≡ true
        → Took k job (Waits g fault kid kids gs) (record { step = q; answer = x } ∷ []) (after_wait job g fault kid kids gs x)
    by (answer.Wait (Exit n)) is e = rw (← is) exited
    by (answer.Wait Signal) is e = rw (← is) by_signal
    by (answer.Wait Lost) is e = rw (← is) by_loss
    by x is e = absurd cc
first_begun_takes k job (Removes i fs) q x is e = by x (some_is is) e
  where
    of_removal : (x : RemoveAnswer) (t : Bool) → removal_failed x ≡ t → Took k job (Removes i fs) (removes (place.OnFailure k i) x ∷ [])
        (if t then In (RemovalReport i fs) else Out (to_removals (i + 1) fs))
    of_removal x true h = not_removed h
    of_removal x false h = removed h

    by : (x : Answer) → step.Remove (place.OnFailure k i) ≡ q → is_kind q x ≡ true
        → Took k job (Removes i fs) (record { step = q; answer = x } ∷ []) (after_removal i fs x)
    by (answer.Remove x) is e = rw (← is) (of_removal x (removal_failed x) refl)
    by x is e = absurd cc
first_begun_takes k job s q x is e = absurd cc

pub first_takes : (k : ℕ) (job : Job) (s : Left) (q : Step) (x : Answer) → first k job s ≡ Some q → is_kind q x ≡ true
    → Took k job s (record { step = q; answer = x } ∷ []) (after_first job s x)
first_takes k job Fresh q x is e =
    begun_took k job _ (after_first_begun job (to_claims job 0 job.temps) x) (first_begun_takes k job (to_claims job 0 job.temps) q x is e)
first_takes k job s q x is e = first_begun_takes k job s q x is e

-- a refused start ends its group
complete : {k g n i m : ℕ} {job : Job} {o b : Block} {kids : List Kid} {gs : List (List Command)} → Started k g n i m o kids
    → Starting k g i m b [] true
    → Goes k job (Starts g n gs) (o ++ b) (after_starts job g true kids gs)
complete {k = k} {g = g} {n = n} {job = job} {o = o} {b = b} {kids = kids} {gs = gs} s r =
    subst (λ l. Goes k job (Starts g n gs) (o ++ b) (after_starts job g true l gs)) (append-nil kids) (started (s.on b [] true r))

-- the answer to a later step
pub takes : {k : ℕ} {job : Job} {s : Left} {o : Block} {p : Inside} (x : Answer) → Opens k job s o p → is_kind (asks k p) x ≡ true
    → Took k job s (o ++ record { step = asks k p; answer = x } ∷ []) (after job p x)
takes {job = job} x (begun {p = p} h) e = begun_took _ job _ (after job p x) (takes x h e)
takes (answer.Reported t) (claim_failed h) e = unclaimed h
takes {job = job} x (in_group {m = m} {gs = gs} s) e = started_takes m job gs x s e
takes {k = k} {job = job} (answer.Reported t) (start_failed {g = g} {n = n} {i = zero} {m = m} {kids = kids} {gs = gs} o why s) e =
    subst (λ b. Goes k job (Starts g n gs) b (after_starts job g true kids gs))
    (sym (append_assoc o (starts (place.Command k g 0) false (positive m) (start.NotStarted why) ∷ [])
    (reports (note.NotStarted (place.Command k g 0)) t ∷ []))) (complete s refused_first)
takes {k = k} {job = job} (answer.Reported t) (start_failed {g = g} {n = n} {i = suc i} {m = m} {kids = kids} {gs = gs} o why s) e =
    subst (λ b. Opens k job (Starts g n gs) b (Closing g kids gs))
    (sym (append_assoc o (starts (place.Command k g (suc i)) true (positive m) (start.NotStarted why) ∷ [])
    (reports (note.NotStarted (place.Command k g (suc i))) t ∷ []))) (to_close o why t s)
takes {k = k} {job = job} answer.Closed (to_close {g = g} {n = n} {i = i} {m = m} {kids = kids} {gs = gs} o why told s) e =
    subst (λ b. Goes k job (Starts g n gs) b (after_starts job g true kids gs))
    (sym (append_assoc o (starts (place.Command k g (suc i)) true (positive m) (start.NotStarted why)
    ∷ reports (note.NotStarted (place.Command k g (suc i))) told ∷ []) (closes ∷ []))) (complete s refused_later)
takes (answer.Reported t) by_signal e = signalled
takes (answer.Reported t) by_loss e = lost
takes (answer.Reported t) (not_removed h) e = stays h
takes x h e = absurd cc
