use Rattle.drv_machine.specs.Atoms.{atoms}
use Rattle.drv_machine.specs.Context.{Context}
use Rattle.drv_machine.specs.Cutting.{Cut, NamedLine, all_taken, nothing_cut}
use Rattle.drv_machine.specs.Working.{◌>>-◌, Answer, Goes, Refuses, Waits, Worked, World, is_among, known}
use Rattle.drv_machine.specs.declared.fault.MachineFault.TheVariants.{PipeTooLong, StrayPipe}
use Rattle.drv_machine.specs.declared.outcome.Outcome.{Outcome}
use Rattle.drv_search.specs.Search.{program_found}
use Rattle.drv_syntax.specs.Tree.{Items}
use Rattle.drv_system.specs.Facts.{Facts}
use Rattle.drv_system.specs.Known.{Is, Unasked}
use Rattle.drv_words.specs.declared.plan.Command.{Command}
use Rattle.drv_words.specs.declared.plan.Job.{Job}
use Rattle.std.specs.Cmp.Lexicographic.{pointwise}
use Rattle.std.specs.List.{filter, list_any}
use Rattle.std.specs.Prelude.{◌&&◌, ◌||◌, Bool, List, [], ◌∷◌, None, Err, Ok, false, if◌then◌else◌, length, map, nat_eq, nat_lt, not, true}
use Rattle.std.specs.Prelude.{ℕ}

-- The job of a text: its commands, what they leave behind, and what working it cost (this project's profile).

-- the most commands of a group
abbrev pub most_piped : ℕ
most_piped = 16

-- a command before the groups of those after it: it goes into the first of them, or is a group of its own
abbrev pub add_command : Bool → Command → List (List Command) → List (List Command)
add_command true c (group ∷ groups) = (c ∷ group) ∷ groups
add_command _ c groups = (c ∷ []) ∷ groups

-- for any answers F of the system, and any C that a text is run for
module _ (F : Facts) (C : Context) where
  -- what the name of a program becomes
  abbrev pub program : List ℕ → Answer (List ℕ)
  program name = known (program_found F C.prefixes name)

  -- a command whose program is found, or is not
  abbrev pub command : NamedLine → Answer Command
  command line = program line.name >>- λ path. Is (Ok (record { program = path; words = line.words }))

  -- with -pipe piped commands form one group; without it each command is a group
  abbrev pub groups : List NamedLine → Answer (List (List Command))
  groups [] = Is (Ok [])
  groups (line ∷ lines) = command line >>- λ c. groups lines >>- λ others. Is (Ok (add_command (C.is_piping && line.piped) c others))

-- no further command follows a pipe
abbrev pub ends_piped : List NamedLine → Bool
ends_piped [] = false
ends_piped (line ∷ []) = line.piped
ends_piped (line ∷ other ∷ lines) = ends_piped (other ∷ lines)

-- each once, at its first place
abbrev pub once : List (List ℕ) → List (List ℕ)
once [] = []
once (file ∷ files) = file ∷ filter (λ other. not (pointwise nat_eq file other)) (once files)

-- each once, and not the job's own temporaries
abbrev pub lasting_files : List (List ℕ) → List (List ℕ) → List (List ℕ)
lasting_files temps files = filter (λ file. not (is_among temps file)) (once files)

-- whose job it is says the plan
abbrev pub job : World → Cut → List (List Command) → Job
job w c commands = record {
  source = None;
  groups = commands;
  temps = map (λ name. record { path = name.path; contents = name.contents }) w.drawn;
  marked = lasting_files (map (λ name. name.path) w.drawn) c.removed;
  on_failure = lasting_files (map (λ name. name.path) w.drawn) c.on_failure;
  output = c.output;
}

-- after the whole text: first that pipes are right, then that none is too long
abbrev pub finished : Facts → Context → World → Cut → Answer Outcome
finished F C w c =
    if c.stray || ends_piped c.lines then Is (Err StrayPipe)
    else (groups F C c.lines >>- λ commands.
    if list_any (λ group. nat_lt most_piped (length group)) commands then Is (Err PipeTooLong)
    else Is (Ok (record {
      job = job w c commands;
      notices = w.notices;
      outs = w.outputs;
      accumulated = w.accumulated;
      next_number =
          w.number;
      cost = w.items;
    })))

-- what stops first in the order of the list counts
abbrev pub cut : Facts → Context → Worked (Unit {0}) → Answer Outcome
cut F C (Goes atoms u w) = all_taken F C nothing_cut atoms >>- λ c. finished F C w c
cut F C (Refuses atoms fault) = all_taken F C nothing_cut atoms >>- λ c. Is (Err fault)
cut F C (Waits atoms) = all_taken F C nothing_cut atoms >>- λ c. Unasked

-- what running a text gives: its job and cost, its first refusal, or the lack of an answer of the facts
abbrev pub outcome : Facts → Context → Items → Answer Outcome
outcome F C items = cut F C (atoms F C items)
