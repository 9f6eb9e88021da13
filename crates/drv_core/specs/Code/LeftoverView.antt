use Rattle.drv_core.specs.Code.Numbering.{Leftover, numbered_files}
use Rattle.drv_core.specs.Windowed.{all_files}
use Rattle.drv_core.specs.declared.leftovers.Leftover.{Leftover as CodeLeftover}
use Rattle.drv_core.specs.declared.leftovers.Leftovers.{Leftovers}
use Rattle.drv_words.specs.declared.plan.Plan.{Plan}
use Rattle.std.specs.Prelude.{◌≡◌, ◌≤◌, ◌+◌, List, [], false, length, map, replicate}
use Rattle.std.specs.Vec.{vec_capacity}

-- How the leftover files in the code are seen. Only private clauses cite it.

-- one leftover file of the code
abbrev pub leftover_of : CodeLeftover → Leftover
leftover_of l = record { place = l.place; first = l.first }

-- all of them
abbrev pub leftover_list : List CodeLeftover → List Leftover
leftover_list files = map leftover_of files

-- the files of a plan, before anything is counted
pub record IsFresh (plan : Plan) (x : Leftovers) : Type 0 where
  pub files : leftover_list x.files.items ≡ numbered_files [] (all_files plan)
  pub gone : x.gone.items ≡ replicate (length x.files.items) false
  pub claimed : x.claimed.items ≡ replicate (length plan.jobs + 1) 0
  pub called : x.called.items ≡ replicate (length plan.jobs + 1) false
  pub due : x.due.items ≡ []
  pub room : length x.files.items ≤ vec_capacity x.due
