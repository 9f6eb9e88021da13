use Rattle.rectool.proofs.call.inputs.Given as goal
use Rattle.rectool.specs.Call.{input_of, inputs_of, with_option_before}
use Rattle.std.proofs.Common.{◌≡◌, ◌++◌, drop}
use Rattle.std.specs.List.{filter_map}

-- the inputs so far, with those of the words that are left, are all
abbrev pub invariant-loop-word : goal.invariant-loop-word
invariant-loop-word l = l.inputs ++ filter_map input_of (with_option_before l.is_after (drop l.word-index l.word-items))
    ≡ inputs_of l.fn.words
