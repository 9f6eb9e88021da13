use Rattle.std.proofs.Common.{◌≡◌, drop}
use Rattle.drv_words.specs.Code.LineReader.{read, start}
use Rattle.drv_words.proofs.reading_back.read_lines.Given as goal

-- the reader so far reads the rest as a new reader reads the whole text
abbrev pub invariant-loop-byte : goal.invariant-loop-byte
invariant-loop-byte l = read l.reader (drop l.byte-index l.text) ≡ read start l.text
