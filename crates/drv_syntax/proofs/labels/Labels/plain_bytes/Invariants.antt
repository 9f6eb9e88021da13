use Rattle.drv_syntax.proofs.labels.Labels.plain_bytes.Given as goal
use Rattle.drv_syntax.specs.Marks.{marked_labels}
use Rattle.drv_syntax.specs.PlainRuns.{AreBytes}
use Rattle.std.proofs.Common.{◌≡◌, ◌+◌, ◌-◌, ◌≤◌, drop, length, take, ℕ}

-- the parts from the first place to the one that is reached are the bytes from `start` to `stop`; so bytes that follow there follow here
abbrev pub invariant-loop-at : goal.invariant-loop-at
invariant-loop-at l = record {
  later : l.place ≤ l.at;
  within : l.at ≤ l.last;
  stop : l.stop + l.place ≡ l.start + l.at;
  words : l.stop ≤ length l.words;
  rest : (n : ℕ) → AreBytes l.tokens (marked_labels l.words l.marks) l.at (take n (drop l.stop l.words))
      → AreBytes l.tokens (marked_labels l.words l.marks) l.place (take (l.stop - l.start + n) (drop l.start l.words));
}

-- each round passes a part
abbrev pub decreases-loop-at : goal.decreases-loop-at
decreases-loop-at l = l.last - l.at
