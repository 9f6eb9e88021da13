use Rattle.drv_search.specs.Search.{Adds}
use Rattle.drv_system.specs.Asking.{Extends}
use Rattle.drv_system.specs.Facts.{Facts}
use Rattle.drv_system.specs.Known.{Is, Known}
use Rattle.drv_system.specs.declared.outside.Outside.{Outside}
use Rattle.std.specs.Prelude.{◌≡◌, IfOk, List, OnOk, Result, ℕ}

-- The result of a call that left this outside, by any facts that extend what it knows. Only private clauses cite it.

-- its value is that of a definition
abbrev pub Tells : {S X E : Type 0} → Outside S → Result X E → (Facts → Known X) → Type 0
Tells left result defined = (F : Facts) → Extends left.facts.now F → IfOk result (λ x. defined F ≡ Is x)

-- a list got the value of a definition
abbrev pub TellsMore : {S X E : Type 0} → Outside S → Result X E → (Facts → Known (List (List ℕ))) → List (List ℕ) → List (List ℕ) → Type 0
TellsMore left result defined before after = (F : Facts) → Extends left.facts.now F → OnOk result (Adds (defined F) before after)
