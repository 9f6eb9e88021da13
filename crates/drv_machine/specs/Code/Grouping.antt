use Rattle.drv_machine.specs.Outcome.{add_command}
use Rattle.drv_machine.specs.Working.{◌>>-◌, Answer}
use Rattle.drv_system.specs.Known.{Is}
use Rattle.drv_words.specs.declared.plan.Command.{Command}
use Rattle.std.specs.Prelude.{◌++◌, List, [], ◌∷◌, Ok, true}

-- Commands that go into groups, line by line. For the loop of `groups_of` (src/machine/finishing.rt) alone.

-- commands of a group that is begun, and the groups of the lines after them. Piped on (`true`), the begun ones go to the front of the
-- first of these, or are a group of their own where there is none.
abbrev pub ahead : List Command → List (List Command) → List (List Command)
ahead [] gs = gs
ahead (c ∷ begun) gs = add_command true c (ahead begun gs)

-- groups that have ended, commands of one that is begun, and what the lines after them give
abbrev pub grouped : List (List Command) → List Command → Answer (List (List Command)) → Answer (List (List Command))
grouped done begun others = others >>- λ gs. Is (Ok (done ++ ahead begun gs))
