use Rattle.drv_core.specs.Code.Course.{asked_by}
use Rattle.drv_core.specs.Code.CourseView.{Rooms, Unswept, course_of}
use Rattle.drv_core.specs.Code.Reached.{Reached}
use Rattle.drv_core.specs.Codes.{status_of}
use Rattle.drv_core.specs.Filled.{AllFilled}
use Rattle.drv_core.specs.Run.{Run, action_of}
use Rattle.drv_core.specs.declared.work.RunState.{RunState}
use Rattle.drv_words.specs.declared.plan.Plan.{Plan}
use Rattle.std.specs.Prelude.{◌≤◌, Bool}

-- How a `Run` in the code is seen. Only private clauses cite it.

-- what a caller sees of a run: its action is the next step, or the status after the end
abbrev pub run_of : Plan → Bool → RunState → Run
run_of plan pass_codes w = record {
  plan = plan;
  pass_codes = pass_codes;
  window = w.fleet.window;
  events = w.events.items;
  action = action_of (asked_by plan (course_of plan w)) (status_of pass_codes w.events.items);
}

-- what holds of every run of the code
pub record Kept (plan : Plan) (w : RunState) : Type 0 where
  pub one : 1 ≤ w.fleet.window
  pub filled : AllFilled plan
  pub reached : Reached plan w.fleet.window (course_of plan w)
  pub rooms : Rooms plan w
  pub unswept : Unswept plan w
