use Rattle.drv_words.specs.Stepping.{can_make}
use Rattle.drv_words.specs.declared.plan.Plan.{Plan}
use Rattle.drv_words.specs.declared.steps.RunEvent.{RunEvent}
use Rattle.std.specs.Prelude.{◌≡◌, List, ◌∷◌, ◌++◌, true}

-- Each step of these events can be made after those before it.
abbrev pub AllPossible : Plan → List RunEvent → Type 0
AllPossible plan events = (before : List RunEvent) (e : RunEvent) (after : List RunEvent) → events ≡ before ++ e ∷ after
    → can_make plan before e.step ≡ true
