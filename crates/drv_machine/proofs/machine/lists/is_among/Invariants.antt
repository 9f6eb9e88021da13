use Rattle.drv_machine.proofs.machine.lists.is_among.Given as goal
use Rattle.drv_machine.specs.Working.{is_among}
use Rattle.std.proofs.Common.{drop, ◌≡◌}

-- none of the words so far is this one: those that are left decide
abbrev pub invariant-loop-other : goal.invariant-loop-other
invariant-loop-other l = is_among (drop l.other-index l.list) l.word ≡ is_among l.list l.word
