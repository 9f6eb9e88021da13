use Rattle.drv_after.proofs.answers.is_new.Given as goal
use Rattle.drv_words.specs.Stepping.{is_new}
use Rattle.std.proofs.Common.{◌≡◌, drop}

-- the number is new in the events that are left exactly if it is new in all
abbrev pub invariant-loop-event : goal.invariant-loop-event
invariant-loop-event l = is_new l.id (drop l.event-index l.events) ≡ is_new l.id l.fn.events
