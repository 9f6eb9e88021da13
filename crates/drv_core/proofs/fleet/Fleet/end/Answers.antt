use Rattle.drv_core.proofs.fleet.Fleet.end.Goals as goal
use Rattle.std.proofs.Common.{◌≡◌, nat_eq, not, refl, rules}
use Rattle.std.proofs.lemmas.Fn.{filter_same}
use Rattle.std.specs.List.{filter}

-- the source is no longer among those that are under way, and the count is one less
pub returns-clause-ended : goal.returns-clause-ended
returns-clause-ended c jobs =
    let kept : c.retain.new.self.items ≡ filter (λ k. not (nat_eq k c.args.self.now.current)) c.args.self.now.begun.items =
    filter_same _ (λ k. not (nat_eq k c.args.self.now.current)) _ (λ x b f' k. search rules) _ _ c.retain.ensures.filtered in
    rw (kept, c.retain.ensures.capacity, c.saturating_sub-self.ensures) refl
