use Rattle.drv_core.proofs.numbering.files_of.Goals as goal
use Rattle.std.proofs.Common.{[]}

-- to add all files to none notes them all
pub returns : goal.returns
returns c = (c.in_ok-add_all.ensures [] c.new-numbering.ensures).files_are
