use Rattle.drv_core.specs.Needed.{fitting, job_events, needed}
use Rattle.drv_core.proofs.Counting.{is_not_less, not_less}
use Rattle.drv_words.specs.declared.plan.Plan.{Plan}
use Rattle.std.proofs.Common.{◌≡◌, ◌<◌, ◌≤◌, ◌+◌, ◌^◌, ◌∙◌, Bool, false, true, List, None, Some, ap, arith, drop, get_or, if◌then◌else◌}
use Rattle.std.proofs.Common.{length, nat_lt, refl, sym, ℕ}
use Rattle.std.proofs.lemmas.List.Sums.{sum_by-append, sum_by-drop_more}
use Rattle.std.proofs.lemmas.List.{drop_all}
use Rattle.std.specs.List.{sum_by}
use Rattle.std.specs.Option.{option_to_list}

-- For `events_needed`, which sums up the most events of a run, or says that the sum is too great for `usize`.
-- Names: `X`: any type. `fitting`: a number that fits into `usize`.

-- if a part is too great for `usize`, so is the whole
pub too_many : (a b : ℕ) → fitting a ≡ None → a ≤ b → fitting b ≡ None
too_many a b e le = by (nat_lt a (2 ^ 64)) refl e
  where
    by : (t : Bool) → nat_lt a (2 ^ 64) ≡ t → (if t then Some a else None) ≡ None → fitting b ≡ None
    by true is h = absurd cc
    by false is h = let past : 2 ^ 64 ≤ a = is_not_less a (2 ^ 64) is in rw (not_less b (2 ^ 64) (omega arith)) refl

-- the parts from i on are that one and those after it
pub one_more : {X : Type 0} (f : X → ℕ) (xs : List X) (i : ℕ) (x : X) → x ≡ get_or xs i x → i < length xs
    → sum_by f (drop i xs) ≡ f x + sum_by f (drop (i + 1) xs)
one_more f xs i x is lt = sum_by-drop_more f xs i x lt ∙ ap (λ y. f y + sum_by f (drop (i + 1) xs)) (sym is)

-- no part is left: the total is the whole
pub all_counted : {X : Type 0} (f : X → ℕ) (xs : List X) (i total all : ℕ) → length xs ≤ i → total + sum_by f (drop i xs) ≡ all
    → fitting total ≡ Some total → Some total ≡ fitting all
all_counted f xs i total all past e fits =
    let nothing : sum_by f (drop i xs) ≡ 0 = ap (λ l. sum_by f l) (drop_all i xs past) in
    let is : total ≡ all = omega arith in
    rw (← is) (sym fits)

-- the jobs of a plan, and then its link, if it has one
pub all_jobs : (plan : Plan) → needed plan ≡ sum_by job_events plan.jobs + sum_by job_events (option_to_list plan.link)
all_jobs plan = sum_by-append job_events plan.jobs (option_to_list plan.link)
