use Rattle.drv_compile.proofs.languages.foreign_suffixes.Goals as goal
use Rattle.drv_compile.specs.Languages.{foreign_suffixes}
use Rattle.std.proofs.Common.{refl}

pub returns : goal.returns
unfolding foreign_suffixes
returns c = refl
