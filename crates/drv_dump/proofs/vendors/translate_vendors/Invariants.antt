use Rattle.drv_dump.proofs.vendors.translate_vendors.Given as goal
use Rattle.drv_dump.specs.Ours.{words_before}
use Rattle.drv_dump.specs.Vendors.{all_vendor_words, vendor_text}
use Rattle.std.proofs.Common.{◌≡◌, length}

abbrev pub invariant-loop-left : goal.invariant-loop-left
invariant-loop-left l = words_before l.word (all_vendor_words l.left) ≡ vendor_text l.fn.text

abbrev pub decreases-loop-left : goal.decreases-loop-left
decreases-loop-left l = length l.left
