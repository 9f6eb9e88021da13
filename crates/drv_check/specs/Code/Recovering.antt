use Rattle.drv_check.specs.declared.pieces.Reading.TheVariants as reading
use Rattle.drv_check.specs.declared.pieces.Reading.{Reading}
use Rattle.std.specs.Prelude.{Bool, false, true}

-- Whether reading goes on below a line that is no directive where a directive begins. Only private clauses of src/pieces.rt cite it.
abbrev pub recovers : Reading → Bool
recovers reading.Strict = false
recovers reading.Recovering = true
