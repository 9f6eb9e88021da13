use Rattle.drv_syntax.proofs.labels.push_marks.Given as goal
use Rattle.drv_syntax.specs.Code.Marks.{byte_marks}
use Rattle.std.proofs.Common.{◌≡◌, ◌+◌, ◌++◌, drop}
use Rattle.std.specs.Prelude.{vec_capacity, vec_len}

-- the marks so far and those of the bytes that are left are the marks of all; each has reserved room
abbrev pub invariant-loop-byte : goal.invariant-loop-byte
invariant-loop-byte l =
    record {
      same : l.marks.items ++ byte_marks l.place (drop l._byte-index l.run) ≡ l.fn.marks.items ++ byte_marks l.fn.start l.run;
      place : l.place ≡ l.fn.start + l._byte-index;
      size : vec_len l.marks ≡ vec_len l.fn.marks + l._byte-index;
      room : vec_capacity l.marks ≡ vec_capacity l.fn.marks;
    }
