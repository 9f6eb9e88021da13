use Rattle.drv_syntax.proofs.descent.functions.front_length.Given as goal
use Rattle.drv_syntax.specs.Descent.{front_size}
use Rattle.std.proofs.Common.{[], ◌≡◌, ◌≤◌, ◌+◌, ◌-◌, drop, length, take}

-- the bytes of a name that are passed and those that go on with it are all
abbrev pub invariant-loop-length : goal.invariant-loop-length
invariant-loop-length l = record {
  same : l.length + front_size (take l.length l.text) (drop l.length l.text)
      ≡ front_size [] l.text;
  within : l.length ≤ length l.text;
}

-- each round passes a byte of the text
abbrev pub decreases-loop-length : goal.decreases-loop-length
decreases-loop-length l = length l.text - l.length
