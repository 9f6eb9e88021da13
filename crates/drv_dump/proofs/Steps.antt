use Rattle.drv_dump.specs.Dumps as dumps
use Rattle.drv_dump.specs.Texts.{read_at, read_from, then_read}
use Rattle.drv_dump.specs.declared.dump.DumpReader.{DumpReader}
use Rattle.drv_dump.specs.declared.dump.Entry.{Entry}
use Rattle.drv_dump.specs.declared.fault.DumpFault.{DumpFault}
use Rattle.drv_dump.specs.declared.fault.TextFault.{TextFault}
use Rattle.drv_dump.specs.declared.piece.Piece.{Piece}
use Rattle.drv_dump.specs.declared.reading.Reader.{Reader}
use Rattle.drv_words.specs.Gives.{Gives}
use Rattle.std.proofs.Common.{◌≡◌, ◌+◌, ◌<◌, ◌∙◌, ◌⊎◌, Err, IsErrAnd, List, Ok, Result, ap, drop, get_or, inl, inr, length, sym, ℕ}
use Rattle.std.proofs.lemmas.List.{at_drop_more}

-- For `read_text` and `read_dump` (src/reading.rt and src/dump.rt): one more byte of the loops.
-- Names: `at`: a place in the text. `b`: a byte. `d`: the byte that the code reads where a list has none. `whole`: what the whole text
-- gives. `r`: the reader between two bytes. `r`: the reader of a dump between two bytes. `read_from`: what is left of a text is read, from
-- this place on. `read_at`: what is read with a byte, by the grammar's turn at this place. `then_read`: the rest is read, unless a byte
-- fits nothing.

-- a refusal is handed on
pub handed_on : {X Y E : Type 0} (none fault : E) (result : Result X E) (view : X → Y) (defined : Result Y E)
    → IsErrAnd result (λ e. e ≡ fault)
    → (fault ≡ none) ⊎ (defined ≡ Err fault) → Gives none view result defined
handed_on none fault (Ok x) view defined is refused = absurd is
handed_on none fault (Err e) view defined is (inl is_none) = inl (is ∙ is_none)
handed_on none fault (Err e) view defined is (inr refused) = inr (refused ∙ ap Err (sym is))

-- the next byte of a text
next_byte : (text : List ℕ) (at b d : ℕ) (r : Reader) → at < length text → b ≡ get_or text at d
    → read_from r at (drop at text) ≡ then_read (λ next. read_from next (at + 1) (drop (at + 1) text)) (read_at r at b)
next_byte text at b d r below is =
    at_drop_more (read_from r at) text at d below ∙ ap
    (λ x. then_read (λ next. read_from next (at + 1) (drop (at + 1) text)) (read_at r at x)) (sym is)

-- a byte of a text is taken
pub byte_taken : (text : List ℕ) (at b d : ℕ) (r next : Reader) (whole : Result (List Piece) TextFault) → at < length text
    → b ≡ get_or text at d
    → read_at r at b ≡ Ok next → read_from r at (drop at text) ≡ whole → read_from next (at + 1) (drop (at + 1) text) ≡ whole
byte_taken text at b d r next whole below is goes left =
    sym (next_byte text at b d r below is ∙ ap (then_read (λ n. read_from n (at + 1) (drop (at + 1) text))) goes) ∙ left

-- a byte of a text is refused, and so is the text
pub byte_refused : (text : List ℕ) (at b d : ℕ) (r : Reader) (none fault : TextFault) (whole : Result (List Piece) TextFault)
    → at < length text → b ≡ get_or text at d
    → (fault ≡ none) ⊎ (read_at r at b ≡ Err fault) → read_from r at (drop at text) ≡ whole → (fault ≡ none) ⊎ (whole ≡ Err fault)
byte_refused text at b d r none fault whole below is (inl is_none) left = inl is_none
byte_refused text at b d r none fault whole below is (inr refused) left =
    inr (sym left ∙ next_byte text at b d r below is ∙ ap (then_read (λ n. read_from n (at + 1) (drop (at + 1) text))) refused)

-- the next byte of a dump
next_of_dump : (dump : List ℕ) (at b d : ℕ) (r : DumpReader) → at < length dump → b ≡ get_or dump at d
    → dumps.entries_from r at (drop at dump) ≡ dumps.then_read (λ next. dumps.entries_from next (at + 1) (drop (at + 1) dump))
    (dumps.entry_at r at b)
next_of_dump dump at b d r below is =
    at_drop_more (dumps.entries_from r at) dump at d below
    ∙ ap (λ x. dumps.then_read (λ next. dumps.entries_from next (at + 1) (drop (at + 1) dump)) (dumps.entry_at r at x)) (sym is)

-- a byte of a dump is taken
pub dump_taken : (dump : List ℕ) (at b d : ℕ) (r next : DumpReader) (whole : Result (List Entry) DumpFault) → at < length dump
    → b ≡ get_or dump at d
    → dumps.entry_at r at b ≡ Ok next → dumps.entries_from r at (drop at dump) ≡ whole
    → dumps.entries_from next (at + 1) (drop (at + 1) dump) ≡ whole
dump_taken dump at b d r next whole below is goes left =
    sym (next_of_dump dump at b d r below is ∙ ap (dumps.then_read (λ n. dumps.entries_from n (at + 1) (drop (at + 1) dump))) goes) ∙ left

-- a byte of a dump is refused, and so is the dump
pub dump_refused : (dump : List ℕ) (at b d : ℕ) (r : DumpReader) (none fault : DumpFault) (whole : Result (List Entry) DumpFault)
    → at < length dump → b ≡ get_or dump at d
    → (fault ≡ none) ⊎ (dumps.entry_at r at b ≡ Err fault) → dumps.entries_from r at (drop at dump) ≡ whole
    → (fault ≡ none) ⊎ (whole ≡ Err fault)
dump_refused dump at b d r none fault whole below is (inl is_none) left = inl is_none
dump_refused dump at b d r none fault whole below is (inr refused) left =
    inr (sym left ∙ next_of_dump dump at b d r below is
    ∙ ap (dumps.then_read (λ n. dumps.entries_from n (at + 1) (drop (at + 1) dump))) refused)
