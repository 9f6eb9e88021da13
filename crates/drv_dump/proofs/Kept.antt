use Rattle.drv_dump.specs.Grammar.{is_whole, turn}
use Rattle.drv_dump.specs.Texts.{at_end, begun, closed, pieces_of, read_at, read_from, taken, then_read, with_byte, with_piece, written}
use Rattle.drv_dump.specs.declared.fault.TextFault.{TextFault}
use Rattle.drv_dump.specs.declared.piece.Kind.{Kind}
use Rattle.drv_dump.specs.declared.piece.Piece.{Piece}
use Rattle.drv_dump.specs.declared.reading.Reader.{Reader}
use Rattle.drv_dump.specs.declared.turn.InPiece.TheVariants.{First, Later}
use Rattle.drv_dump.specs.declared.turn.Turn.TheVariants.{Reads, Refused}
use Rattle.drv_dump.specs.declared.turn.Turn.{Turn}
use Rattle.std.proofs.Common.{◌≡◌, ◌+◌, ◌∙◌, Bool, Err, List, [], ◌∷◌, ◌++◌, Ok, Result, ap, append-nil, append_assoc, false, refl, sym}
use Rattle.std.proofs.Common.{true, ℕ}
use Rattle.std.proofs.lemmas.Grind.{flat_map-append}

-- For text_is_kept (src/laws.rt): the pieces of a text are written back as that text.
-- Names: `r`: the reader between two bytes. `b`: a byte. `at`: a place in the text. `next`: the reader after the byte. `x`, `y`: values.
-- `X`: any type. `written`: how pieces are written. `closed`: all pieces so far.

-- the value of a result, or another: it shows that a result has one value
abbrev pub ok_or : {X E : Type 0} → X → Result X E → X
ok_or x (Ok y) = y
ok_or x (Err fault) = x

-- a result has one value
pub same_value : {X E : Type 0} (x y : X) (result : Result X E) → result ≡ Ok x → result ≡ Ok y → x ≡ y
same_value x y result is goes = ap (ok_or x) (sym is ∙ goes)

-- pieces with one more, whether or not it has a byte
pub written_more : (done : List Piece) (kind : Kind) (bytes : List ℕ) → written (with_piece done kind bytes) ≡ written done ++ bytes
written_more done kind [] = sym (append-nil (written done))
written_more done kind (b ∷ bytes) =
    flat_map-append (λ (piece : Piece). piece.bytes) done (record { kind = kind; bytes = b ∷ bytes } ∷ [])
    ∙ ap (λ l. written done ++ l) (append-nil (b ∷ bytes))

-- a byte that is read is one more of what is written
pub written_byte : (t : Turn) (r next : Reader) (at b : ℕ) → taken t r at b ≡ Ok next → written (closed next) ≡ written (closed r) ++ b ∷ []
written_byte (Reads First kind place depth) r next at b is =
    ap (λ n. written (closed n)) (sym (same_value (with_byte r First kind place depth b) next
    (taken (Reads First kind place depth) r at b) refl is))
    ∙ written_more (closed r) kind (b ∷ [])
written_byte (Reads Later kind place depth) r next at b is =
    ap (λ n. written (closed n)) (sym (same_value (with_byte r Later kind place depth b) next
    (taken (Reads Later kind place depth) r at b) refl is))
    ∙ written_more r.done kind (r.last.bytes ++ b ∷ []) ∙ sym (append_assoc (written r.done) r.last.bytes (b ∷ []))
    ∙ ap (λ l. l ++ b ∷ []) (sym (written_more r.done r.last.kind r.last.bytes))
written_byte (Refused misfit) r next at b is = absurd cc

-- what a reader has read, and the rest of the text, are written back
pub kept_from : (text : List ℕ) (r : Reader) (at : ℕ) (pieces : List Piece) → read_from r at text ≡ Ok pieces
    → written pieces ≡ written (closed r) ++ text
kept_from [] r at pieces is = by (is_whole r.place r.depth) is
  where
    by : (whole : Bool) → at_end whole r at ≡ Ok pieces → written pieces ≡ written (closed r) ++ []
    by true is = ap written (sym (same_value (closed r) pieces (at_end true r at) refl is)) ∙ sym (append-nil (written (closed r)))
    by false is = absurd cc
kept_from (b ∷ text) r at pieces is = by (read_at r at b) refl (λ next. kept_from text next (at + 1) pieces) is
  where
    by : (step : Result Reader TextFault) → read_at r at b ≡ step
        → ((next : Reader) → read_from next (at + 1) text ≡ Ok pieces → written pieces ≡ written (closed next) ++ text)
        → then_read (λ next. read_from next (at + 1) text) step ≡ Ok pieces → written pieces ≡ written (closed r) ++ b ∷ text
    by (Ok next) goes rest is =
        rest next is ∙ ap (λ l. l ++ text) (written_byte (turn r.place r.depth b) r next at b goes)
        ∙ append_assoc (written (closed r)) (b ∷ []) text
    by (Err fault) goes rest is = absurd cc

-- a text that is read from its beginning is written back
pub text_law : (text : List ℕ) (pieces : List Piece) → pieces_of text ≡ Ok pieces → written pieces ≡ text
text_law text pieces is = kept_from text begun 0 pieces is
