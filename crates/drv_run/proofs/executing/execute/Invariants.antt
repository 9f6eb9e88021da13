use Rattle.drv_core.specs.Needed.{needed}
use Rattle.drv_run.proofs.executing.execute.Given as goal
use Rattle.drv_system.specs.declared.event.Event.TheVariants.{Run}
use Rattle.std.proofs.Common.{◌≡◌, ◌≤◌, ◌+◌, ◌-◌, ◌++◌, length, map}

-- the journal has the events of the run so far, and there is room for all that can come
abbrev pub invariant-loop-status : goal.invariant-loop-status
invariant-loop-status g l = record {
  journal : g.S.System.events l.sys ≡ g.S.System.events l.fn.sys ++ map Run l.run.events;
  events : needed l.plan ≤ g.S.System.spare_events l.sys + length l.run.events;
  children : needed l.plan ≤ g.S.System.spare_children l.sys + length l.run.events;
  plan : l.run.plan ≡ l.plan;
  codes : l.run.pass_codes ≡ l.fn.pass_codes;
  window : l.run.window ≡ l.window;
}

-- a run has at most so many events, and each turn adds one
abbrev pub decreases-loop-status : goal.decreases-loop-status
decreases-loop-status g l = needed l.plan - length l.run.events
