use Rattle.drv_args.proofs.Expanding.{GoesOn}
use Rattle.drv_args.specs.Expansion.{limited}
use Rattle.drv_system.specs.Asking.{Extends}
use Rattle.drv_system.specs.Code.Asked.{Asked}
use Rattle.drv_system.specs.Facts.{Facts}
use Rattle.std.proofs.Common.{◌≤◌, ◌+◌, ◌*◌, ◌^◌, reverse, vec_len}
use Rattle.drv_args.proofs.expansion.expand_all.Given as goal

-- the words that are done, with the expansion of the stack, are what all arguments give (`GoesOn`)
abbrev pub invariant-loop-word : goal.invariant-loop-word
invariant-loop-word g l = record {
  asks : Asked g.S.System.events l.fn.outside l.outside;
  goes : (F : Facts) → Extends l.outside.facts.now F → GoesOn (limited l.most F) l.left (reverse l.stack.items) l.words l.files l.fn.args;
  bound : l.left ≤ 2000;
}

-- each turn takes a word from the stack, or leaves one replacement less, so the loop ends
abbrev pub decreases-loop-word : goal.decreases-loop-word
decreases-loop-word g l = l.left * 2 ^ 64 + vec_len l.stack
