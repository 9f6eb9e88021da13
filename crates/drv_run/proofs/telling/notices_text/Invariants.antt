use Rattle.drv_run.proofs.telling.notices_text.Given as goal
use Rattle.drv_run.specs.Calls.{notices_text}
use Rattle.std.proofs.Common.{◌≡◌, ◌++◌, drop}

-- the text so far, with the notices that are left, is that of all
abbrev pub invariant-loop-notice : goal.invariant-loop-notice
invariant-loop-notice l = l.text ++ notices_text l.name (drop l.notice-index l.notices) ≡ notices_text l.name l.notices
