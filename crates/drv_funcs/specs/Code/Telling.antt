use Rattle.drv_funcs.specs.declared.fault.FuncsFault.TheVariants.{Memory}
use Rattle.drv_funcs.specs.declared.fault.FuncsFault.{FuncsFault}
use Rattle.drv_system.specs.Asking.{Extends}
use Rattle.drv_system.specs.Facts.{Facts}
use Rattle.drv_system.specs.Gives.{GivesKnown}
use Rattle.drv_system.specs.Known.{Known}
use Rattle.drv_system.specs.declared.outside.Outside.{Outside}
use Rattle.std.specs.Prelude.{Result}

-- The result of a call that left this outside, by any facts that extend what it knows. Only private clauses cite it.
abbrev pub Tells : {S X : Type 0} → Outside S → Result X FuncsFault → (Facts → Known (Result X FuncsFault)) → Type 0
Tells left result defined = (F : Facts) → Extends left.facts.now F → GivesKnown Memory (λ x. x) result (defined F)
