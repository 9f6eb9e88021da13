use Rattle.drv_words.specs.declared.line_end.LineEnd.{LineEnd}
use Rattle.drv_words.specs.declared.line_end.LineEnd.TheVariants.{Last, Piped}
use Rattle.std.specs.Prelude.{Bool, false, true}

-- How a printed line ends, as the code sees it. Only private clauses cite it.

-- whether the line's command writes into a pipe
abbrev pub is_piped : LineEnd → Bool
is_piped Piped = true
is_piped Last = false
