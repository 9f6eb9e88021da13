use Rattle.drv_machine.proofs.machine.Machine.put_words.Given as goal
use Rattle.drv_machine.specs.Code.Running.{reached, run}
use Rattle.drv_machine.specs.Working.{puts, words}
use Rattle.drv_system.specs.Asking.{Extends}
use Rattle.drv_system.specs.Code.Asked.{Asked}
use Rattle.drv_system.specs.Facts.{Facts}
use Rattle.std.proofs.Common.{◌≡◌, drop, ℕ}

-- putting the words that are left gives what putting all would have given
abbrev pub invariant-loop-word : goal.invariant-loop-word
invariant-loop-word g l = record {
  asks : Asked g.S.System.events l.fn.outside l.outside;
  left : (n : ℕ) (F : Facts) → Extends l.outside.facts.now F
      → run F l.context (reached n l.self) (puts (words (drop l.word-index l.list))) ≡ run F l.context (reached n l.fn.self)
      (puts (words l.list));
}
