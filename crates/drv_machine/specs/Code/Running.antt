use Rattle.drv_machine.specs.Atoms.{start}
use Rattle.drv_machine.specs.Context.{Context}
use Rattle.drv_machine.specs.Cutting.{Cut, all_taken, nothing_cut}
use Rattle.drv_machine.specs.Working.{◌>>-◌, Answer, Goes, Refuses, Step, Waits, Worked, World}
use Rattle.drv_machine.specs.declared.fault.MachineFault.TheVariants.{Memory}
use Rattle.drv_machine.specs.declared.fault.MachineFault.{MachineFault}
use Rattle.drv_system.specs.Facts.{Facts}
use Rattle.drv_system.specs.Gives.{GivesKnown}
use Rattle.drv_system.specs.Known.{Is, Unasked}
use Rattle.std.specs.Prelude.{Err, Ok, Result, ℕ}

-- What a call of the code that walks a part of a text does to its machine: it cuts the part's atoms into words and commands as they come
-- (this project's profile). An atom is a byte, the end of a word or command, or a mark (Working). The clauses of the whole walk
-- (src/turns.rt and what it calls) say what a call does by `run`.
-- Names: `X`: any type. `F`: what is known of the outside. `C`: what the text is run for (switches, texts). `all_taken`: atoms, one after
-- another.

-- what has been cut, and the world
pub record Machine : Type 0 where
  pub cut : Cut
  pub world : World

-- this state, where so many items were reached
abbrev pub reached : ℕ → Machine → Machine
reached n s = record s { world = record s.world { items = n } }

-- for any answers F of the system, and any C that a text is run for
module _ (F : Facts) (C : Context) where
  -- what a step gave, with its atoms cut after what has been cut; a refusal of a cut comes before that of the step
  abbrev pub done : {X : Type 0} → Cut → Worked X → Answer (X × Machine)
  done c (Goes atoms x w) = all_taken F C c atoms >>- λ d. Is (Ok (x, record { cut = d; world = w }))
  done c (Refuses atoms fault) = all_taken F C c atoms >>- λ d. Is (Err fault)
  done c (Waits atoms) = all_taken F C c atoms >>- λ d. Unasked

  -- runs a step after what has been cut, in its world
  abbrev pub run : {X : Type 0} → Machine → Step X → Answer (X × Machine)
  run s step = done s.cut (step s.world)

  -- a call has done to the machine what a step does, where so many items were reached, or gives its refusal; or memory is lacking
  abbrev pub Does : ℕ → Machine → Machine → Result (Unit {0}) MachineFault → Step (Unit {0}) → Type 0
  Does n s t result step = GivesKnown Memory (λ u. (tt, reached n t)) result (run (reached n s) step)

  -- the state before the first item of a text: nothing is cut, and the world is that of the context
  abbrev pub begun : Machine
  begun = record { cut = nothing_cut; world = start F C }
