use Rattle.drv_run.specs.declared.fronting.Front.TheVariants as front
use Rattle.drv_run.specs.declared.fronting.Front.{Front}
use Rattle.std.specs.Prelude.{Bool, false, true}

-- The front of a line, as the code has it. Only private clauses cite it.
-- Names: `front` has the variants of the code.

-- whether a call is of c99
abbrev pub is_of_c99 : Front → Bool
is_of_c99 front.Driver = false
is_of_c99 front.C99 = true
