use Rattle.drv_check.specs.declared.findings.Source.{Source}
use Rattle.drv_check.specs.declared.told.Place.{Place}
use Rattle.drv_place.specs.LinePlaces.{line_before, line_number}
use Rattle.std.specs.Prelude.{◌+◌, length, ℕ}

-- A byte of a source for a reader (GNU coding standards, "Formatting Error Messages"): by its line and its column, both from 1. For clauses
-- of src/spots.rt, and for what gdrv_specs says of a place.
abbrev pub place_in : Source → ℕ → Place
place_in source at = record { file = source.name; line = line_number source.text at; column = length (line_before source.text at) + 1 }
