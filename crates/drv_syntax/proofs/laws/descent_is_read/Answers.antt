use Rattle.drv_syntax.proofs.ParsedGrammar.{allowed}
use Rattle.drv_syntax.proofs.laws.descent_is_read.Goals as goal
use Rattle.drv_syntax.specs.Outcome.{descent}
use Rattle.std.proofs.Common.{refl}

-- Names: `allowed`: a text that isn't too long is parsed to what Descent gives. `descent`: what a text gives by the functions of Descent.

-- what Descent gives is what a text gives
pub returns-clause-outcome : goal.returns-clause-outcome
returns-clause-outcome c = λ text. refl

-- what Descent gives, judged, is what a text is parsed to that is not too long
pub returns-clause-parsed : goal.returns-clause-parsed
returns-clause-parsed c = λ text h. allowed text (descent text) h refl
