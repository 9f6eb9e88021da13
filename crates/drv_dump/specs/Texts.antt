use Rattle.drv_dump.specs.Grammar.{is_whole, turn}
use Rattle.drv_dump.specs.declared.fault.Misfit.TheVariants.{Unclosed}
use Rattle.drv_dump.specs.declared.fault.TextFault.TheVariants.{Unreadable}
use Rattle.drv_dump.specs.declared.fault.TextFault.{TextFault}
use Rattle.drv_dump.specs.declared.piece.Kind.TheVariants as kind
use Rattle.drv_dump.specs.declared.piece.Kind.{Kind}
use Rattle.drv_dump.specs.declared.piece.Piece.{Piece}
use Rattle.drv_dump.specs.declared.reading.Reader.{Reader}
use Rattle.drv_dump.specs.declared.turn.InPiece.TheVariants.{First, Later}
use Rattle.drv_dump.specs.declared.turn.InPiece.{InPiece}
use Rattle.drv_dump.specs.declared.turn.Place.TheVariants.{Ready}
use Rattle.drv_dump.specs.declared.turn.Place.{Place}
use Rattle.drv_dump.specs.declared.turn.Turn.TheVariants.{Reads, Refused}
use Rattle.drv_dump.specs.declared.turn.Turn.{Turn}
use Rattle.std.specs.List.{flat_map}
use Rattle.std.specs.Prelude.{◌+◌, Bool, Err, List, [], ◌∷◌, ◌++◌, Ok, Result, if◌then◌else◌, ℕ}

-- The pieces of a spec text, each with its bytes (the grammar of Grammar, one byte after another).
-- For clauses of src/reading.rt and src/writing.rt, and laws of src/laws.rt.

-- a text of which nothing is read
abbrev pub begun : Reader
begun = record { done = []; last = record { kind = kind.Text; bytes = [] }; place = Ready; depth = 0 }

-- pieces with one more, if it has a byte
abbrev pub with_piece : List Piece → Kind → List ℕ → List Piece
with_piece done kind [] = done
with_piece done kind (b ∷ bytes) = done ++ record { kind = kind; bytes = b ∷ bytes } ∷ []

-- all pieces so far
abbrev pub closed : Reader → List Piece
closed r = with_piece r.done r.last.kind r.last.bytes

-- a byte begins a piece, or is part of the last one
abbrev pub with_byte : Reader → InPiece → Kind → Place → ℕ → ℕ → Reader
with_byte r First kind place depth b = record {
  done = closed r;
  last = record { kind = kind; bytes = b ∷ [] };
  place = place;
  depth =
      depth;
}
with_byte r Later kind place depth b = record {
  done = r.done;
  last = record { kind = kind; bytes = r.last.bytes ++ b ∷ [] };
  place =
      place;
  depth = depth;
}

-- what is read with the byte at this place of the text
abbrev pub taken : Turn → Reader → ℕ → ℕ → Result Reader TextFault
taken (Reads in_piece kind place depth) r at b = Ok (with_byte r in_piece kind place depth b)
taken (Refused misfit) r at b = Err (Unreadable misfit at)

-- what is read with a byte, by the grammar's turn at this place
abbrev pub read_at : Reader → ℕ → ℕ → Result Reader TextFault
read_at r at b = taken (turn r.place r.depth b) r at b

-- at the end of the text
abbrev pub at_end : Bool → Reader → ℕ → Result (List Piece) TextFault
at_end whole r at = if whole then Ok (closed r) else Err (Unreadable Unclosed at)

-- the rest is read, unless a byte fits nothing
abbrev pub then_read : (Reader → Result (List Piece) TextFault) → Result Reader TextFault → Result (List Piece) TextFault
then_read again (Ok r) = again r
then_read again (Err fault) = Err fault

-- what is left of a text is read, from this place on
abbrev pub read_from : Reader → ℕ → List ℕ → Result (List Piece) TextFault
read_from r at [] = at_end (is_whole r.place r.depth) r at
read_from r at (b ∷ text) = then_read (λ next. read_from next (at + 1) text) (read_at r at b)

-- the pieces of a text, or the first byte that fits nothing
abbrev pub pieces_of : List ℕ → Result (List Piece) TextFault
pieces_of text = read_from begun 0 text

-- how pieces are written
abbrev pub written : List Piece → List ℕ
written pieces = flat_map (λ piece. piece.bytes) pieces
