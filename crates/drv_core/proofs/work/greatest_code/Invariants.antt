use Rattle.drv_core.proofs.work.greatest_code.Given as goal
use Rattle.drv_core.specs.Codes.{greatest_code}
use Rattle.std.proofs.Common.{◌≡◌, drop, max}

-- the greatest so far and that of the events that are left give the greatest of all
abbrev pub invariant-loop-event : goal.invariant-loop-event
invariant-loop-event l = max l.code (greatest_code (drop l.event-index l.events)) ≡ greatest_code l.events
