use Rattle.drv_check.specs.Includes.{inclusion_in}
use Rattle.drv_check.specs.Pieces.{checked_pieces}
use Rattle.drv_check.specs.Points.{front_length, point}
use Rattle.drv_check.specs.declared.findings.Checking.{Checking}
use Rattle.drv_check.specs.declared.findings.Source.{Source}
use Rattle.drv_check.specs.declared.findings.Spot.{Spot}
use Rattle.drv_check.specs.declared.opening.Inclusion.{Inclusion}
use Rattle.drv_check.specs.declared.opening.OpenFile.{OpenFile}
use Rattle.drv_check.specs.declared.pieces.Piece.{Piece}
use Rattle.drv_check.specs.declared.known_names.Names.{Names}
use Rattle.drv_place.specs.Settling.{places_of}
use Rattle.drv_search.specs.Search.{file_found}
use Rattle.drv_search.specs.declared.prefixes.Prefixes.{Prefixes}
use Rattle.drv_specs.specs.Blanks.{is_blank}
use Rattle.drv_specs.specs.Lines.{settle}
use Rattle.drv_specs.specs.Loading.{loaded, most_files, most_levels, text_read}
use Rattle.drv_specs.specs.Sets.{Set}
use Rattle.drv_specs.specs.declared.directive.IfMissing.TheVariants.{Refuse}
use Rattle.drv_specs.specs.declared.fault.SpecsFault.TheVariants.{BadLine, IncludeTooDeep, TooManyIncludes}
use Rattle.drv_specs.specs.declared.fault.SpecsFault.{SpecsFault}
use Rattle.drv_system.specs.Facts.{Facts, read_of}
use Rattle.drv_system.specs.Known.{◌>>=◌, Is, Known, Unasked, asked}
use Rattle.std.specs.Cmp.Lexicographic.{pointwise}
use Rattle.std.specs.List.{list_any}
use Rattle.std.specs.Prelude.{Bool, Err, List, [], ◌∷◌, ◌++◌, None, Ok, Option, Result, Some, drop, get_or, false, if◌then◌else◌, length}
use Rattle.std.specs.Prelude.{nat_eq, nat_le, suc, zero, ℕ}

-- All faults of spec files (GCC manual, "Spec Files"; that a check goes on after a fault is this project's
-- profile). The pieces of a file are loaded one after another, those of an included file in its place; a piece that is refused changes
-- nothing. The limits of loading hold for the whole: how many files are read for each file of the call, and how deep they are within one
-- another. A check may end at a number of faults, as the options -fmax-errors of gcc and -ferror-limit of clang say.
-- For clauses of src/stepping.rt, src/opening.rt, src/checking.rt and others.

-- a check with one more fault
abbrev pub noted : Checking → Option Spot → SpecsFault → Checking
noted c spot fault = record c { findings = c.findings ++ record { spot = spot; fault = fault } ∷ [] }

-- a line that is no directive has its number in its file
abbrev pub with_number : ℕ → SpecsFault → SpecsFault
with_number n (BadLine m) = BadLine n
with_number n fault = fault

-- where a byte of a piece is in its file
abbrev pub spot_at : OpenFile → ℕ → Option Spot
spot_at file at = Some (record { source = file.number; at = at })

-- where a byte of a piece is in its file; after the last byte it is the file's end
abbrev pub spot_in : OpenFile → Piece → ℕ → Option Spot
spot_in file piece at = spot_at file (get_or (drop piece.start file.places) at file.size)

-- the effect of a piece that is loaded as a text by itself
abbrev pub faulty : Checking → OpenFile → Piece → SpecsFault → Checking
faulty c file piece fault =
    noted c (spot_at file (point c.set piece.text (drop piece.start file.places) file.size fault)) (with_number piece.number fault)

-- a check after a piece was loaded: its set is another, or a fault is noted and the set stays
abbrev pub changed : Checking → OpenFile → Piece → Known (Result Set SpecsFault) → Known Checking
changed c file piece Unasked = Unasked
changed c file piece (Is (Ok set)) = Is (record c { set = set })
changed c file piece (Is (Err fault)) = Is (faulty c file piece fault)

-- a file whose text was read: it is the next of the sources
abbrev pub open_file : ℕ → List ℕ → OpenFile
open_file number text =
    record { number = number; again = false; size = length text; places = places_of text; pieces = checked_pieces (settle text) }

-- whether one of these sources has a path
abbrev pub was_read : List Source → List ℕ → Bool
was_read sources path = list_any (λ source. pointwise nat_eq path source.name) sources

-- a file that was read, as the next of the sources and open; or the fault of one that can't be read
abbrev pub by_text : Checking → Option Spot → List ℕ → Result (List ℕ) SpecsFault → Checking × Option OpenFile
by_text c from path (Err fault) = (noted c from fault, None)
by_text c from path (Ok text) = (
  record c { sources = c.sources ++ record { name = path; text = text; from = from } ∷ [] },
  Some (record (open_file (length c.sources) text) { again = was_read c.sources path }),
)

-- the path of an included file, and its text
abbrev pub found_text : Facts → Prefixes → Inclusion → Known (List ℕ × Result (List ℕ) SpecsFault)
found_text F prefixes inclusion =
    file_found F prefixes inclusion.file >>= λ path. asked (read_of F path)
    >>= λ answer. Is (path, text_read inclusion.if_missing path answer)

-- a file opened where so many more may be read, and so many more be within one another
abbrev pub opened_of : Facts → Prefixes → ℕ → Checking → Option Spot → Inclusion → Known (Checking × Option OpenFile)
opened_of F prefixes zero c from inclusion = Is (noted c from TooManyIncludes, None)
opened_of F prefixes (suc left) c from inclusion =
    found_text F prefixes inclusion >>= λ found. Is (by_text (record c { files = left }) from found.0 found.1)

-- an included file, where so many levels more may be: too deep is a fault, and opens none
abbrev pub opened : Facts → Prefixes → ℕ → Checking → Option Spot → Inclusion → Known (Checking × Option OpenFile)
opened F prefixes zero c from inclusion = Is (noted c from IncludeTooDeep, None)
opened F prefixes (suc levels) c from inclusion = opened_of F prefixes c.files c from inclusion

-- one piece: it opens a file, or changes the set
abbrev pub put_aside : Known Checking → Known (Checking × Option OpenFile)
put_aside known = known >>= λ c. Is (c, None)

-- one piece: by what it includes, if it includes a file, or as a change of the set
abbrev pub stepped : Facts → Prefixes → ℕ → Checking → OpenFile → Piece → Option Inclusion → Known (Checking × Option OpenFile)
stepped F prefixes levels c file piece None = put_aside (changed c file piece (loaded F prefixes c.set piece.text))
stepped F prefixes levels c file piece (Some inclusion) =
    opened F prefixes levels c (spot_in file piece (front_length is_blank piece.text)) inclusion

-- one piece of an open file: the check after it, and the file that it opens, if it does
abbrev pub step : Facts → Prefixes → ℕ → Checking → OpenFile → Piece → Known (Checking × Option OpenFile)
step F prefixes levels c file piece = stepped F prefixes levels c file piece (inclusion_in piece.text)

-- Where a check ends: before each further piece and each further file of the call it may.

-- whether a check ends here
abbrev pub Limit : Type 0
Limit = Checking → Bool

-- it ends at so many faults
abbrev pub is_full : ℕ → Limit
is_full most c = nat_le most (length c.findings)

-- the faults at which the check of a call ends
abbrev pub most_faults : ℕ
most_faults = 100

-- how an open file is checked
abbrev pub Enters : Type 0
Enters = Checking → OpenFile → Known Checking

-- a check goes on in a file that was opened, if one was
abbrev pub entered : Enters → Checking → Option OpenFile → Known Checking
entered enters c None = Is c
entered enters c (Some file) = enters c file

-- the pieces of a file one after another, each with the file that it opens in its place
abbrev pub pieces_checked : Facts → Prefixes → Limit → ℕ → Enters → Checking → OpenFile → List Piece → Known Checking
pieces_checked F prefixes limit levels enters c file [] = Is c
pieces_checked F prefixes limit levels enters c file (piece ∷ pieces) =
    if limit c then Is c
    else step F prefixes levels c file piece >>= λ next. entered enters next.0 next.1
    >>= λ c'. pieces_checked F prefixes limit levels enters c' file pieces

-- an open file, in which so many more may be within one another; where none may, no piece opens one
unfoldable pub file_checked : Facts → Prefixes → Limit → ℕ → Enters
file_checked F prefixes limit zero c file = pieces_checked F prefixes limit zero (λ c' inner. Is c') c file file.pieces
file_checked F prefixes limit (suc levels) c file =
    pieces_checked F prefixes limit (suc levels) (file_checked F prefixes limit levels) c file file.pieces

-- how a file is checked that is opened within one where so many more may be
abbrev pub enters_at : Facts → Prefixes → Limit → ℕ → Enters
enters_at F prefixes limit zero = λ c file. Is c
enters_at F prefixes limit (suc levels) = file_checked F prefixes limit levels

-- a file of the call, found as -specs= finds it
abbrev pub called : Facts → Prefixes → Limit → Checking → List ℕ → Known Checking
called F prefixes limit c name =
    opened F prefixes most_levels (record c { files = most_files }) None (record { if_missing = Refuse; file = name })
    >>= λ next. entered (file_checked F prefixes limit 15) next.0 next.1

-- the files of a call one after another, each over the set that the earlier ones made
abbrev pub all_called : Facts → Prefixes → Limit → Checking → List (List ℕ) → Known Checking
all_called F prefixes limit c [] = Is c
all_called F prefixes limit c (name ∷ names) =
    if limit c then Is c else called F prefixes limit c name >>= λ c'. all_called F prefixes limit c' names

-- a check of nothing yet, over a set
abbrev pub unchecked_over : Names → Set → Checking
unchecked_over whose set = record { whose = whose; set = set; files = most_files; sources = []; findings = [] }
