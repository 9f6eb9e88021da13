use Rattle.drv_specs.proofs.Left.{left_kept}
use Rattle.drv_specs.proofs.named_texts.drop_vacant.Goals as goal
use Rattle.indexmap.proofs.CallerLemmas.{filter-RetainsPairs}
use Rattle.std.proofs.Common.{rules}

pub returns : goal.returns
returns c = left_kept c.args.kept.now.entries c.retain.new.self.entries
    (filter-RetainsPairs _ _ _ (λ k v b w g call. search rules) _ _ c.retain.ensures.filtered)
