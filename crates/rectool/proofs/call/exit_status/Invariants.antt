use Rattle.rectool.proofs.call.exit_status.Given as goal
use Rattle.rectool.specs.Call.{code_asked, exit_status}
use Rattle.std.proofs.Common.{◌≡◌, Some, drop}
use Rattle.std.specs.List.{filter_map, last_or}
use Rattle.std.specs.Option.{unwrap_or}

-- the last status of the words that are left, or else the one so far, is that of all words
abbrev pub invariant-loop-word : goal.invariant-loop-word
invariant-loop-word l = unwrap_or (last_or (Some l.status) (filter_map code_asked (drop l.word-index l.word-items))) 0
    ≡ exit_status l.fn.words
