use Rattle.drv_args.specs.Lines.{is_file_input}
use Rattle.drv_args.proofs.judging.file_count.Goals as goal
use Rattle.std.proofs.Common.{◌∙◌, ap, rules, tests}
use Rattle.std.proofs.lemmas.Iterator.Consumers.{YieldsList-from_filter, count_from_yields_List}
use Rattle.std.proofs.lemmas.Iterator.{YieldsList-from_slice}
use Rattle.std.proofs.lemmas.List.Sums.{length-filter}
use Rattle.std.specs.Slice.Iter.{iter_rest}

-- Names: `is_file_input`: whether an input is a file.

pub returns : goal.returns
returns c =
    count_from_yields_List _ _ c.count.ensures.ran
    (YieldsList-from_filter _ is_file_input (YieldsList-from_slice c.args.inputs.now (ap iter_rest c.filter.ensures.source
    ∙ c.iter.ensures.rest)) c.filter.ensures.closure (λ x r q k. search (rules, tests)))
    ∙ length-filter is_file_input c.args.inputs.now
