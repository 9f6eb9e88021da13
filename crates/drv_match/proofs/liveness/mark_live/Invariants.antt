use Rattle.drv_match.specs.Code.Indexed.{IsLast}
use Rattle.drv_match.specs.Matching.{cancels, is_live, name_at}
use Rattle.drv_match.proofs.liveness.mark_live.Given as goal
use Rattle.std.proofs.Common.{◌≡◌, ◌-◌, ◌<◌, false, get_or, length, ℕ}

-- the flags of the places so far are right, and `first_live` is that of the last name
abbrev pub invariant-loop-k : goal.invariant-loop-k
invariant-loop-k l = record {
  as_many : length l.flags.items ≡ length l.names;
  told : (j : ℕ) → j < l.k → get_or l.flags.items (get_or l.order j 0) false ≡ is_live l.names (get_or l.order j 0);
  known : 0 < l.k → IsLast (λ later. cancels later (name_at l.names (get_or l.order (l.k - 1) 0))) l.names l.first_live;
}
