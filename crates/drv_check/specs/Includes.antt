use Rattle.drv_check.specs.Points.{directive_in}
use Rattle.drv_check.specs.declared.opening.Inclusion.{Inclusion}
use Rattle.drv_specs.specs.Directives.{Bad, Directive, Include, Pair, Rename, Text}
use Rattle.std.specs.Prelude.{List, None, Option, Some, ℕ}

-- The file that a piece includes (GCC manual, "Spec Files", %include and %include_noerr).
-- For clauses of src/opening.rt.

-- the file that a directive includes, if it includes one
abbrev pub inclusion_of : Option Directive → Option Inclusion
inclusion_of None = None
inclusion_of (Some (Text name body)) = None
inclusion_of (Some (Pair key body)) = None
inclusion_of (Some (Rename old new)) = None
inclusion_of (Some (Include missing name)) = Some (record { if_missing = missing; file = name })
inclusion_of (Some (Bad n)) = None

-- the file that a piece includes, if it is %include or %include_noerr
abbrev pub inclusion_in : List ℕ → Option Inclusion
inclusion_in text = inclusion_of (directive_in text)
