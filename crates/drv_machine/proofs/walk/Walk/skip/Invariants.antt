use Rattle.drv_machine.proofs.walk.Walk.skip.Given as goal
use Rattle.drv_machine.specs.Code.Walking.{Lies}
use Rattle.drv_syntax.specs.Tree.{Items}
use Rattle.std.proofs.Common.{◌-◌, ◌≡◌}

-- the items that lay from the first place on lie from the place that is reached on, and nothing but that place has changed
abbrev pub invariant-loop-self : goal.invariant-loop-self
invariant-loop-self l = record {
  lies : (rest : Items) → Lies l.text l.fn.self.at rest l.fn.self.end → Lies l.text l.self.at rest l.fn.self.end;
  same : l.self ≡ record l.fn.self { at = l.self.at };
}

-- each round passes an alternative at least
abbrev pub decreases-loop-self : goal.decreases-loop-self
decreases-loop-self l = l.self.end - l.self.at
