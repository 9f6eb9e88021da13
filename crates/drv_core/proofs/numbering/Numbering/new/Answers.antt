use Rattle.drv_core.proofs.Notes.{noted_none}
use Rattle.drv_core.proofs.numbering.Numbering.new.Goals as goal
use Rattle.drv_core.specs.Code.Numbering.{number_in}
use Rattle.std.proofs.Common.{ap, nat_eq}
use Rattle.std.specs.Cmp.Lexicographic.{pointwise}
use Rattle.std.specs.Map.{lookup}

-- no file is noted, and no path has a number
pub returns : goal.returns
returns c = noted_none c.new.result.items (number_in c.new-2.result.entries (λ k. k.now)) c.new.ensures.items
    (λ p. ap (λ es. lookup (λ k. pointwise nat_eq p k.now) es) c.new-2.ensures.empty)
