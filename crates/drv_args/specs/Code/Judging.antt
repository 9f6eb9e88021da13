use Rattle.drv_args.specs.declared.fault.ArgsFault.TheVariants.{Memory}
use Rattle.drv_args.specs.declared.fault.ArgsFault.{ArgsFault}
use Rattle.std.specs.Prelude.{◌≡◌, ◌⊎◌, Err, None, Ok, Option, Result, Some}

-- A test for refusals finds the defined one, if there is one. Only private clauses cite it.
abbrev pub Finds : {Y : Type 0} → Result Y ArgsFault → Option ArgsFault → Type 0
Finds (Ok y) found = found ≡ None
Finds (Err fault) found = (fault ≡ Memory) ⊎ (found ≡ Some fault)
