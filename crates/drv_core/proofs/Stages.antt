use Rattle.drv_core.specs.Code.Machine.{Closing, Group, In, Out, StartReport, after, after_start}
use Rattle.drv_core.specs.Code.SourceView.{kid_at, kids_from}
use Rattle.drv_core.specs.Story.{Claims, Kid, Removes, Starts, Waits, after_starts, to_claims, to_groups, to_removals, to_waits}
use Rattle.drv_words.specs.declared.answers.Answer.{Answer}
use Rattle.drv_words.specs.declared.answers.Answer.TheVariants as answer
use Rattle.drv_words.specs.declared.answers.StartAnswer.TheVariants as start
use Rattle.drv_words.specs.declared.plan.Command.{Command}
use Rattle.drv_words.specs.declared.plan.Job.{Job}
use Rattle.std.proofs.Common.{◌≡◌, ◌<◌, ◌≤◌, ◌+◌, ◌-◌, ◌∙◌, Bool, false, true, List, [], ◌∷◌, ◌++◌, ap, arith, drop, get_or, length, nat_eq}
use Rattle.std.proofs.Common.{nat_lt}
use Rattle.std.proofs.Common.{refl, suc, sym, zero, ℕ}
use Rattle.std.proofs.lemmas.Bool.Decides.{nat_tests}
use Rattle.std.proofs.lemmas.List.{drop_more}

-- The stages of a source, as the code names them by numbers.

pub groups_on : (g : ℕ) (gs : List (List Command)) → g < length gs
    → to_groups g (drop g gs) ≡ Starts g (length (get_or gs g []) - 1) (drop (g + 1) gs)
groups_on g gs lt = ap (to_groups g) (drop_more gs g [] lt)

pub claims_on : (job : Job) (i : ℕ) → i < length job.temps → to_claims job i (drop i job.temps) ≡ Claims i (drop (i + 1) job.temps)
claims_on job i lt = ap (to_claims job i) (drop_more job.temps i (record { path = []; contents = [] }) lt)

pub removals_on : (i : ℕ) (fs : List (List ℕ)) → i < length fs → to_removals i (drop i fs) ≡ Removes i (drop (i + 1) fs)
removals_on i fs lt = ap (to_removals i) (drop_more fs i [] lt)

-- the same of what follows a number
pub groups_next : (g : ℕ) (gs : List (List Command)) → nat_lt (g + 1) (length gs) ≡ true
    → to_groups (g + 1) (drop (g + 1) gs) ≡ Starts (g + 1) (length (get_or gs (g + 1) []) - 1) (drop (g + 1 + 1) gs)
groups_next g gs e = groups_on (g + 1) gs (grind (arith, nat_tests))

pub claims_next : (job : Job) (i : ℕ) → nat_lt (i + 1) (length job.temps) ≡ true
    → to_claims job (i + 1) (drop (i + 1) job.temps) ≡ Claims (i + 1) (drop (i + 1 + 1) job.temps)
claims_next job i e = claims_on job (i + 1) (grind (arith, nat_tests))

pub removals_next : (i : ℕ) (fs : List (List ℕ)) → nat_lt (i + 1) (length fs) ≡ true
    → to_removals (i + 1) (drop (i + 1) fs) ≡ Removes (i + 1) (drop (i + 1 + 1) fs)
removals_next i fs e = removals_on (i + 1) fs (grind (arith, nat_tests))

-- the children of a group
pub kids_on : (i n : ℕ) (ids : List ℕ) → n < length ids
    → drop n (kids_from i ids) ≡ record { member = i + n; id = get_or ids n 0 } ∷ drop (n + 1) (kids_from i ids)
kids_on i n [] lt = absurd (omega (arith, lt))
kids_on i zero (id ∷ ids) lt = ap (λ m. record { member = m; id = id } ∷ kids_from (i + 1) ids) (omega arith)
kids_on i (suc n) (id ∷ ids) lt = kids_on (i + 1) n ids (omega (arith, lt))
    ∙ ap (λ m. record { member = m; id = get_or ids n 0 } ∷ drop (n + 1) (kids_from (i + 1) ids)) (omega arith)
    ∙ ap (λ m. record { member = i + suc n; id = get_or ids n 0 } ∷ drop m (kids_from i (id ∷ ids)))
    (let e : suc (n + 1) ≡ suc n + 1 = omega arith in e)

pub waits_on : (job : Job) (g i : ℕ) (fault : Bool) (ids : List ℕ) (gs : List (List Command)) → i < length ids
    → to_waits job g fault (drop i (kids_from 0 ids)) gs ≡ Waits g fault (kid_at ids i) (drop (i + 1) (kids_from 0 ids)) gs
waits_on job g i fault ids gs lt = ap (λ l. to_waits job g fault l gs) (kids_on 0 i ids lt)
    ∙ ap (λ m. Waits g fault (record { member = m; id = get_or ids i 0 }) (drop (i + 1) (kids_from 0 ids)) gs) (omega arith)

pub starts_on : (job : Job) (g : ℕ) (fault : Bool) (ids : List ℕ) (gs : List (List Command)) → 0 < length ids
    → after_starts job g fault (kids_from 0 ids) gs ≡ Waits g fault (kid_at ids 0) (drop 1 (kids_from 0 ids)) gs
starts_on job g fault [] gs lt = absurd (omega (arith, lt))
starts_on job g fault (id ∷ ids) gs lt = refl

pub kids_gone : (i n : ℕ) (ids : List ℕ) → nat_lt n (length ids) ≡ false → drop n (kids_from i ids) ≡ []
kids_gone i zero [] h = refl
kids_gone i (suc n) [] h = refl
kids_gone i zero (id ∷ ids) h = absurd (let lt : nat_lt 0 (suc (length ids)) ≡ true = grind (arith, nat_tests) in let no : true
    ≡ false = sym lt ∙ h in cc)
kids_gone i (suc n) (id ∷ ids) h = kids_gone (i + 1) n ids (grind (arith, nat_tests))

kids_more : (i id : ℕ) (ids : List ℕ) → kids_from i (ids ++ id ∷ []) ≡ kids_from i ids ++ record { member = i + length ids; id = id } ∷ []
kids_more i id [] = ap (λ m. record { member = m; id = id } ∷ []) (omega arith)
kids_more i id (x ∷ ids) = ap (λ l. record { member = i; id = x } ∷ l) (kids_more (i + 1) id ids
    ∙ ap (λ m. kids_from (i + 1) ids ++ record { member = m; id = id } ∷ []) (omega arith))

kids_now : (id : ℕ) (ids : List ℕ) → kids_from 0 (ids ++ id ∷ []) ≡ kids_from 0 ids ++ record { member = length ids; id = id } ∷ []
kids_now id ids = kids_more 0 id ids ∙ ap (λ m. kids_from 0 ids ++ record { member = m; id = id } ∷ []) (omega arith)

one_longer : (id : ℕ) (ids : List ℕ) → length (ids ++ id ∷ []) ≡ length ids + 1
one_longer id [] = refl
one_longer id (x ∷ ids) = let ih = one_longer id ids in omega (arith, ih)

-- a child more, and another start
pub start_more : (job : Job) (g n id : ℕ) (ids : List ℕ) (gs : List (List Command)) → nat_lt (length ids + 1) n ≡ true
    → In (Group g (length (ids ++ id ∷ [])) (n - 1 - length (ids ++ id ∷ [])) (kids_from 0 (ids ++ id ∷ [])) gs)
    ≡ after_start job g (length ids) (n - 1 - length ids) (kids_from 0 ids) gs (answer.Start (start.Started id))
start_more job g n id ids gs h = by (n - 1 - length ids) refl
  where
    by : (m : ℕ) → n - 1 - length ids ≡ m
        → In (Group g (length (ids ++ id ∷ [])) (n - 1 - length (ids ++ id ∷ [])) (kids_from 0 (ids ++ id ∷ [])) gs)
        ≡ after_start job g (length ids) m (kids_from 0 ids) gs (answer.Start (start.Started id))
    by zero e = absurd (let lt : length ids + 1 < n = grind (arith, nat_tests) in omega (arith, lt, e))
    by (suc m) e =
        let lt : length ids + 1 < n = grind (arith, nat_tests) in
        let less : n - 1 - (length ids + 1) ≡ m = omega (arith, lt, e) in
        rw (one_longer id ids, kids_now id ids, less) refl

-- the next child
pub waits_next : (job : Job) (g i : ℕ) (fault : Bool) (ids : List ℕ) (gs : List (List Command)) → nat_lt (i + 1) (length ids) ≡ true
    → to_waits job g fault (drop (i + 1) (kids_from 0 ids)) gs ≡ Waits g fault (kid_at ids (i + 1)) (drop (i + 1 + 1) (kids_from 0 ids)) gs
waits_next job g i fault ids gs e = waits_on job g (i + 1) fault ids gs (grind (arith, nat_tests))

-- the last start of a group
pub start_last : (job : Job) (g n id : ℕ) (ids : List ℕ) (gs : List (List Command)) → nat_lt (length ids + 1) n ≡ false
    → Out (after_starts job g false (kids_from 0 (ids ++ id ∷ [])) gs)
    ≡ after_start job g (length ids) (n - 1 - length ids) (kids_from 0 ids) gs (answer.Start (start.Started id))
start_last job g n id ids gs h =
    let le : n ≤ length ids + 1 = grind (arith, nat_tests) in
    let none_left : n - 1 - length ids ≡ 0 = omega (arith, le) in
    rw (none_left, kids_now id ids) refl

-- no child was started
pub no_starts : (job : Job) (g : ℕ) (fault : Bool) (gs : List (List Command)) → nat_eq g 0 ≡ false
    → after_starts job g fault [] gs ≡ to_waits job g fault [] gs
no_starts job zero fault gs e = absurd (let z : nat_eq 0 0 ≡ true = refl in let no : true ≡ false = sym z ∙ e in cc)
no_starts job (suc g) fault gs e = refl

-- after the report of a refused start
pub refused : (job : Job) (g n : ℕ) (kids : List Kid) (gs : List (List Command)) (x : Answer) → 0 < n
    → after job (StartReport g n kids gs) x ≡ In (Closing g kids gs)
refused job g zero kids gs x lt = absurd (omega (arith, lt))
refused job g (suc n) kids gs x lt = refl

-- the first start of a group
pub start_first : (n : ℕ) → n - 1 - 0 ≡ n - 1
start_first n = omega arith
