use Rattle.drv_funcs.proofs.Reading.{ten_to}
use Rattle.drv_funcs.proofs.version.version_of.Given as goal
use Rattle.drv_funcs.specs.Code.Reading.{read_on}
use Rattle.drv_funcs.specs.Versions.{version}
use Rattle.std.proofs.Common.{◌≡◌, ◌<◌, ◌≤◌, drop}

-- the numbers and digits so far, with the rest of the text, give what the whole text gives
abbrev pub invariant-loop-byte : goal.invariant-loop-byte
invariant-loop-byte l = record {
  few : l.digits ≤ 9;
  bound : l.number < ten_to l.digits;
  reads : read_on l.numbers.items l.number l.digits (drop l.byte-index l.text) ≡ version l.text;
}
