use Rattle.rectool.proofs.call.code_of.Given as goal
use Rattle.rectool.specs.Call.{code_after}
use Rattle.std.proofs.Common.{◌≡◌, ◌<◌, drop}

-- the number so far, with the digits that are left, gives what all digits give
abbrev pub invariant-loop-digit : goal.invariant-loop-digit
invariant-loop-digit l = record {
  small : l.code < 256;
  rest : code_after l.code (drop l.digit-index l.digits) ≡ code_after 0 l.fn.digits;
}
