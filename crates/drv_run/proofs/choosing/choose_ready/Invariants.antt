use Rattle.drv_run.proofs.choosing.choose_ready.Given as goal
use Rattle.std.proofs.Common.{◌≡◌, ◌≤◌}

-- to choose has changed no event and no setting of the run
abbrev pub invariant-loop-choice : goal.invariant-loop-choice
invariant-loop-choice g l = record {
  journal : g.S.System.events l.sys ≡ g.S.System.events l.fn.sys;
  events : g.S.System.spare_events l.fn.sys ≤ g.S.System.spare_events l.sys;
  children : g.S.System.spare_children l.fn.sys ≤ g.S.System.spare_children l.sys;
  plan : l.run.plan ≡ l.fn.run.plan;
  codes : l.run.pass_codes ≡ l.fn.run.pass_codes;
  window : l.run.window ≡ l.fn.run.window;
  made : l.run.events ≡ l.fn.run.events;
}
