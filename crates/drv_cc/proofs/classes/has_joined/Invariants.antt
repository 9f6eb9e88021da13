use Rattle.drv_cc.proofs.classes.has_joined.Given as goal
use Rattle.drv_cc.specs.Items.{is_among}
use Rattle.std.proofs.Common.{◌≡◌, ◌∷◌, drop, map}

abbrev pub invariant-loop-other : goal.invariant-loop-other
invariant-loop-other l = is_among (map (λ other. other.now) (drop l.other-index l.names)) (l.hyphen ∷ l.letter ∷ l.rest)
    ≡ is_among (map (λ other. other.now) l.names) (l.hyphen ∷ l.letter ∷ l.rest)
