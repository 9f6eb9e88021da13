use Rattle.drv_args.specs.declared.fault.ArgsFault.TheVariants as args_fault
use Rattle.drv_args.specs.declared.fault.ArgsFault.{ArgsFault}
use Rattle.drv_args.specs.declared.line.Line.{Line}
use Rattle.drv_run.specs.Code.Deciding.{ComesOfLine}
use Rattle.drv_run.specs.Code.Wording.{GivesWords}
use Rattle.drv_run.specs.Drives.{Comes, stopped_by_args}
use Rattle.drv_run.specs.LineReads.{ComesLine, IsUnread, ReadsLine}
use Rattle.drv_run.specs.declared.ending.Ending.TheVariants.{Done, OutOfMemory, Refused}
use Rattle.drv_run.specs.declared.ending.Ending.{Ending}
use Rattle.drv_run.specs.declared.ending.Refusal.TheVariants.{Args, C99 as NoFront, Plan as NoPlan, Specs as NoSpecs}
use Rattle.drv_run.specs.declared.work.Work.{Work}
use Rattle.drv_system.proofs.Asking.{extends_then}
use Rattle.drv_system.specs.Asking.{Extends}
use Rattle.drv_system.specs.Facts.{Facts}
use Rattle.std.proofs.Common.{◌≡◌, Err, IfErr, IsErrAnd, List, Ok, Result, subst, sym, ℕ}

-- For `line_of_args` and what is done with a line: arguments whose words give no line end the call as `words_of` or the reading of the line
-- says, whatever the seed.
-- Names: `F`, `F'` and `G` are what is known of the outside. `args` is the arguments, and `seed` that for the names of temporaries. `line`
-- is the line that they give. `fault` is why they are refused, and `ending` how the call ends then. `result` is what the code's call gives.
-- `Comes F args seed result`: the arguments ask for that work, or end so (specs/Drives). `IsUnread` says that a call ended without a line.
-- `ReadsLine` says that these arguments give this line (specs/LineReads). `Extends F G`: G knows all that F knows.

-- a call that ends without a line ends so whatever its seed
pub line_stops : (F : Facts) (args : List (List ℕ)) (ending : Ending) (result : Result Line Ending) → IsErrAnd result (λ e. e ≡ ending)
    → ((seed : ℕ) → Comes F args seed (Err ending)) → ComesLine F args result
line_stops F args ending (Ok line) is comes = absurd is
line_stops F args ending (Err e) is comes = subst (λ e'. ComesLine F args (Err e')) (sym is) comes

-- a call without words has no line
pub words_unread : (F : Facts) (args : List (List ℕ)) (ending : Ending) → GivesWords F args (Err ending) → IsUnread ending
words_unread F args (Done status) gives = absurd gives
words_unread F args OutOfMemory gives = tt
words_unread F args (Refused (Args fault)) gives = tt
words_unread F args (Refused (NoFront fault)) gives = tt
words_unread F args (Refused (NoSpecs fault)) gives = absurd gives
words_unread F args (Refused (NoPlan fault)) gives = absurd gives

-- nor has one whose words are refused
pub args_unread : (fault : ArgsFault) → IsUnread (stopped_by_args fault)
args_unread args_fault.Memory = tt
args_unread args_fault.TooManyFiles = tt
args_unread (args_fault.ResponseTooLarge path) = tt
args_unread args_fault.TooManyArguments = tt
args_unread (args_fault.MissingArgument option) = tt
args_unread (args_fault.BadJobs word) = tt
args_unread args_fault.NoInputs = tt
args_unread args_fault.StdinNeedsLanguage = tt
args_unread args_fault.OutputWithMany = tt
args_unread (args_fault.OutputIsInput input) = tt

-- a call that ends so without a line
pub ends_unread : (ending : Ending) (result : Result Line Ending) → IsErrAnd result (λ e. e ≡ ending) → IsUnread ending
    → IfErr result (λ e. IsUnread e)
ends_unread ending (Ok line) is unread = absurd is
ends_unread ending (Err e) is unread = subst IsUnread (sym is) unread

-- what a line asks for its arguments ask for
pub line_asks : (F F' : Facts) (args : List (List ℕ)) (seed : ℕ) (line : Line) (result : Result Work Ending) → Extends F F'
    → ((G : Facts) → Extends F G → ReadsLine G args line) → ((G : Facts) → Extends F' G → ComesOfLine G line seed result)
    → (G : Facts) → Extends F' G → Comes G args seed result
line_asks F F' args seed line result extends reads comes G e =
    let read : ReadsLine G args line = reads G (extends_then extends e) in comes G e args read.0 read.1 read.2
