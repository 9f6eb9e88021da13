use Rattle.std.proofs.Common.{◌≡◌, ◌++◌, drop, length, reverse, take}
use Rattle.drv_args.proofs.expansion.push_reversed.Given as goal

-- the stack so far, with the words that are left in reverse, is that before with all of them
abbrev pub invariant-loop-words : goal.invariant-loop-words
invariant-loop-words l = record {
  order : l.stack.items ++ reverse (drop l.start l.words) ≡ l.fn.stack.items ++ reverse (drop l.start l.fn.words);
  front : take l.start l.words ≡ take l.start l.fn.words;
}

-- each turn takes a word from the list, so the loop ends
abbrev pub decreases-loop-words : goal.decreases-loop-words
decreases-loop-words l = length l.words
