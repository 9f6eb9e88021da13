use Rattle.drv_forms.specs.Script.{notice_text}
use Rattle.std.proofs.Common.{◌≡◌, ◌++◌, drop}
use Rattle.std.specs.List.{flat_map}
use Rattle.drv_forms.proofs.scripting.push_notices.Given as goal

abbrev pub invariant-loop-notice : goal.invariant-loop-notice
invariant-loop-notice l = l.text.items ++ flat_map notice_text (drop l.notice-index l.notices) ≡ l.fn.text.items
    ++ flat_map notice_text l.notices
