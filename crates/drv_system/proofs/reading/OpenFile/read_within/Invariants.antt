use Rattle.std.proofs.Common.{◌≡◌, ◌<◌, ◌≤◌, length}
use Rattle.std.specs.Io.KnownBytes.{Consumes}
use Rattle.drv_system.proofs.reading.OpenFile.read_within.Given as goal

-- the bytes so far are the front of the file, within the limit, and each turn has made one read
abbrev pub invariant-loop : goal.invariant-loop
invariant-loop g l = record {
  left : Consumes (g.F.Read.remaining l.fn.self.file) (g.F.Read.remaining l.self.file) l.bytes.items;
  within : length l.bytes.items ≤ 16777216;
  reads : l.self.reads ≡ l.counter;
  room : 0 < length l.room.items;
}
