use Rattle.rectool.proofs.call.output_file.Given as goal
use Rattle.rectool.specs.Call.{after_output, file_named, output_file}
use Rattle.std.proofs.Common.{◌≡◌, Some, drop}
use Rattle.std.specs.Option.{option_copied, option_or}

-- the last file of the words that are left, or else the one so far, is that of all words
abbrev pub invariant-loop-index : goal.invariant-loop-index
invariant-loop-index l = file_named (option_or (after_output (drop l.index l.operands)) (Some (option_copied l.following)))
    ≡ output_file l.fn.words
