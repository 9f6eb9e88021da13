use Rattle.drv_syntax.proofs.descent.tokens.push_plains.Given as goal
use Rattle.drv_syntax.specs.Code.Tokens.{plain_tokens}
use Rattle.std.proofs.Common.{◌≡◌, ◌+◌, ◌++◌, drop, length}
use Rattle.std.specs.Prelude.{vec_capacity, vec_len}

-- the tokens so far and those of the bytes that are left are the tokens of all; each has reserved room
abbrev pub invariant-loop-byte : goal.invariant-loop-byte
invariant-loop-byte l =
    record {
      same : l.list.items ++ plain_tokens l.place (l.next + 1) (drop l._byte-index l.run) ≡ l.fn.list.items
          ++ plain_tokens l.fn.n (length l.fn.list.items + 1) l.run;
      place : l.place ≡ l.fn.n + l._byte-index;
      next : l.next ≡ length l.fn.list.items + l._byte-index;
      size : vec_len l.list ≡ vec_len l.fn.list + l._byte-index;
      room : vec_capacity l.list ≡ vec_capacity l.fn.list;
    }
