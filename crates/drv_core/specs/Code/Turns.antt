use Rattle.drv_core.specs.Code.Machine.{In, Out, Turn}
use Rattle.drv_core.specs.Windowed.{is_flying, is_left as has_more}
use Rattle.std.specs.Prelude.{Bool, false, true}

-- Tests of a turn. Only private clauses cite them.

-- whether a block is open
abbrev pub is_inside : Turn → Bool
is_inside (In p) = true
is_inside (Out s) = false

-- whether there is more to do
abbrev pub is_left : Turn → Bool
is_left (In p) = true
is_left (Out s) = has_more s

-- whether the next block is a wait for a child
abbrev pub awaits : Turn → Bool
awaits (In p) = false
awaits (Out s) = is_flying s
