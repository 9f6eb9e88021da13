use Rattle.drv_dump.specs.Ours.{with_words, words_of}
use Rattle.drv_dump.specs.Texts.{pieces_of}
use Rattle.drv_dump.specs.declared.fault.OursFault.TheVariants as ours_fault
use Rattle.drv_dump.specs.declared.fault.OursFault.{OursFault}
use Rattle.drv_dump.specs.declared.fault.TextFault.TheVariants as text_fault
use Rattle.drv_dump.specs.declared.fault.TextFault.{TextFault}
use Rattle.drv_dump.specs.declared.piece.Kind.TheVariants as kind
use Rattle.drv_dump.specs.declared.piece.Kind.{Kind}
use Rattle.drv_dump.specs.declared.piece.Piece.{Piece}
use Rattle.std.specs.List.{ends_with, starts_with}
use Rattle.std.specs.Prelude.{◌&&◌, Bool, Err, List, [], ◌∷◌, ◌++◌, None, Ok, Option, Result, Some, codes, drop, false, if◌then◌else◌}
use Rattle.std.specs.Prelude.{length, nat_eq, nat_lt, not, true, ℕ}

-- A text of a vendor's spec file in this driver's language. It has the words of a gcc's own texts (Ours), but for the test of a macro:
-- %{DNAME:..} holds where the line has -DNAME (GCC, "gcc.cc", switch_matches: -D and its argument are matched as one). The front hands on
-- each -D as --gdrv-define=NAME. The files that the text looks for keep their names.
-- For clauses of src/vendors.rt.

-- whether a test is of one macro
abbrev pub is_macro : List ℕ → Bool
is_macro test = starts_with nat_eq test (codes "D") && nat_lt 1 (length test) && not (ends_with nat_eq test (codes "*"))

-- whether a piece ends a test that decides something: a pattern alone gives the switch itself
abbrev pub decides : Kind → Bool
decides kind.Then = true
decides kind.Either = true
decides _ = false

-- whether the piece before these is such a test
abbrev pub is_decided : List Piece → Bool
is_decided [] = false
is_decided (next ∷ rest) = decides next.kind

-- the switch of the front in place of the macro
abbrev pub macro_test : List ℕ → List ℕ
macro_test test = codes "-gdrv-define=" ++ drop 1 test

-- what the test of a macro becomes, if it decides something
abbrev pub macro_words : List ℕ → List Piece → Option (List ℕ)
macro_words test rest = if is_decided rest then Some (macro_test test) else None

-- what a test becomes before these pieces
abbrev pub vendor_test : List ℕ → List Piece → Option (List ℕ)
vendor_test test rest = if is_macro test then macro_words test rest else Some test

-- what a piece of a kind becomes before these
abbrev pub vendor_words : Kind → List ℕ → List Piece → Option (List ℕ)
vendor_words kind.Test bytes rest = vendor_test bytes rest
vendor_words other bytes rest = words_of other bytes

-- what all pieces become, or the first that becomes nothing
abbrev pub all_vendor_words : List Piece → Result (List ℕ) OursFault
all_vendor_words [] = Ok []
all_vendor_words (piece ∷ rest) = with_words (vendor_words piece.kind piece.bytes rest) piece.bytes (all_vendor_words rest)

-- what the pieces of a text become
abbrev pub with_vendor_pieces : Result (List Piece) TextFault → Result (List ℕ) OursFault
with_vendor_pieces (Ok pieces) = all_vendor_words pieces
with_vendor_pieces (Err text_fault.Memory) = Err ours_fault.Memory
with_vendor_pieces (Err (text_fault.Unreadable misfit at)) = Err (ours_fault.Unreadable misfit at)

-- a text of a vendor's file in this driver's language
abbrev pub vendor_text : List ℕ → Result (List ℕ) OursFault
vendor_text text = with_vendor_pieces (pieces_of text)
