use Rattle.drv_dump.specs.declared.dump.DumpReader.{DumpReader}
use Rattle.drv_dump.specs.declared.dump.Entry.{Entry}
use Rattle.drv_dump.specs.declared.dump.Line.TheVariants.{Between, Name, Named, NewLine, Text}
use Rattle.drv_dump.specs.declared.dump.Line.{Line}
use Rattle.drv_dump.specs.declared.fault.DumpFault.TheVariants.{Misplaced}
use Rattle.drv_dump.specs.declared.fault.DumpFault.{DumpFault}
use Rattle.drv_words.specs.Bytes as byte
use Rattle.std.specs.Prelude.{◌+◌, ◌==◌, Err, List, [], ◌∷◌, ◌++◌, Ok, Result, if◌then◌else◌, ℕ}

-- The dump of -dumpspecs: of each text a line *NAME:, its lines, and an empty line (main of gcc.cc). A text has no empty line.
-- For clauses of src/dump.rt and src/passed.rt.

-- a dump of which nothing is read
abbrev pub nothing_read : DumpReader
nothing_read = record { done = []; name = []; text = []; line = Between }

-- the last text has ended
abbrev pub ended : DumpReader → DumpReader
ended r = record { done = r.done ++ record { name = r.name; text = r.text } ∷ []; name = []; text = []; line = Between }

-- what is read with the byte after a newline: an empty line ends the text
abbrev pub after_newline : DumpReader → ℕ → DumpReader
after_newline r b =
    if b == byte.newline then ended r
    else record { done = r.done; name = r.name; text = (r.text ++ byte.newline ∷ []) ++ b ∷ []; line = Text }

-- what is read with a byte, by its state; at is its place in the dump
abbrev pub entry_step : Line → DumpReader → ℕ → ℕ → Result DumpReader DumpFault
entry_step Between r at b = if b == byte.asterisk then Ok (record r { line = Name }) else Err (Misplaced at)
entry_step Name r at b =
    if b == byte.colon then Ok (record r { line = Named })
    else if b == byte.newline then Err (Misplaced at)
    else Ok (record r { name = r.name ++ b ∷ [] })
entry_step Named r at b = if b == byte.newline then Ok (record r { line = Text }) else Err (Misplaced at)
entry_step Text r at b = if b == byte.newline then Ok (record r { line = NewLine }) else Ok (record r { text = r.text ++ b ∷ [] })
entry_step NewLine r at b = Ok (after_newline r b)

-- what is read with a byte, by the state so far
abbrev pub entry_at : DumpReader → ℕ → ℕ → Result DumpReader DumpFault
entry_at r at b = entry_step r.line r at b

-- at the end of the dump
abbrev pub at_end : Line → List Entry → ℕ → Result (List Entry) DumpFault
at_end Between done at = Ok done
at_end Name done at = Err (Misplaced at)
at_end Named done at = Err (Misplaced at)
at_end Text done at = Err (Misplaced at)
at_end NewLine done at = Err (Misplaced at)

-- the rest is read, unless a byte was misplaced
abbrev pub then_read : (DumpReader → Result (List Entry) DumpFault) → Result DumpReader DumpFault → Result (List Entry) DumpFault
then_read again (Ok r) = again r
then_read again (Err fault) = Err fault

-- what is left of a dump is read, from this place on
abbrev pub entries_from : DumpReader → ℕ → List ℕ → Result (List Entry) DumpFault
entries_from r at [] = at_end r.line r.done at
entries_from r at (b ∷ dump) = then_read (λ next. entries_from next (at + 1) dump) (entry_at r at b)

-- the names and texts of a dump
abbrev pub entries_of : List ℕ → Result (List Entry) DumpFault
entries_of dump = entries_from nothing_read 0 dump

-- how a text is written
abbrev pub written_entry : List ℕ → List ℕ → List ℕ
written_entry name text = byte.asterisk ∷ (name ++ (byte.colon ∷ byte.newline ∷ (text ++ (byte.newline ∷ byte.newline ∷ []))))
