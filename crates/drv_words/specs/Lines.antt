use Rattle.drv_words.specs.declared.plan.Command.{Command}
use Rattle.drv_words.specs.declared.plan.Job.{Job}
use Rattle.drv_words.specs.declared.plan.Plan.{Plan}
use Rattle.drv_words.specs.declared.plan.PlanLine.{PlanLine}
use Rattle.std.specs.List.{flat_map}
use Rattle.std.specs.Option.{option_to_list}
use Rattle.std.specs.Prelude.{List, [], ◌∷◌, ◌++◌, nat_lt, length}

-- The lines that show a plan (this project's profile).

-- a group: each command but the last is piped
abbrev pub group_lines : List Command → List PlanLine
group_lines [] = []
group_lines (command ∷ commands) = record { command = command; piped = nat_lt 0 (length commands) } ∷ group_lines commands

-- a job: its groups, one after another
abbrev pub job_lines : Job → List PlanLine
job_lines job = flat_map group_lines job.groups

-- a plan: its jobs in order, then the link
abbrev pub lines_of : Plan → List PlanLine
lines_of plan = flat_map job_lines (plan.jobs ++ option_to_list plan.link)
