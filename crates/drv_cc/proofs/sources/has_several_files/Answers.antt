use Rattle.drv_cc.proofs.Counts.{many_of}
use Rattle.drv_cc.proofs.sources.has_several_files.Goals as goal
use Rattle.drv_cc.specs.Code.Building.{is_many}
use Rattle.drv_cc.specs.SideFiles.{files}
use Rattle.std.proofs.Common.{◌∙◌, ap}

pub returns : goal.returns
returns c = c.is_several.ensures ∙ ap is_many c.files.ensures ∙ many_of (files c.args.items.now)
