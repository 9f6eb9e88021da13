use Rattle.drv_core.specs.Choices.{ChoicesAre}
use Rattle.drv_run.proofs.choosing.choose_source.Given as goal
use Rattle.std.proofs.Common.{◌≡◌, ◌≤◌}

-- each turn has as many choices, and has changed no event
abbrev pub invariant-loop : goal.invariant-loop
invariant-loop g l = record {
  choices : ChoicesAre l.run.plan l.run.window l.run.events l.count;
  journal : g.S.System.events l.sys ≡ g.S.System.events l.fn.sys;
  events : g.S.System.spare_events l.fn.sys ≤ g.S.System.spare_events l.sys;
  children : g.S.System.spare_children l.fn.sys ≤ g.S.System.spare_children l.sys;
  plan : l.run.plan ≡ l.fn.run.plan;
  codes : l.run.pass_codes ≡ l.fn.run.pass_codes;
  window : l.run.window ≡ l.fn.run.window;
  made : l.run.events ≡ l.fn.run.events;
}
