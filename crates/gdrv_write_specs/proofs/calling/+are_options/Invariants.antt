use Rattle.gdrv_write_specs.proofs.calling.+are_options.Given as goal
use Rattle.std.proofs.Common.{length}

abbrev pub decreases-are_options : goal.decreases-are_options
decreases-are_options l = length l.words.now
