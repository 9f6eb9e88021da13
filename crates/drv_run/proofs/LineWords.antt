use Rattle.drv_args.specs.Expansion.{Expands, Refuses as RefusesExpansion}
use Rattle.drv_args.specs.declared.fault.ArgsFault.TheVariants as args_fault
use Rattle.drv_args.specs.declared.fault.ArgsFault.{ArgsFault}
use Rattle.drv_args.specs.declared.line.Expanded.{Expanded}
use Rattle.drv_c99.specs.declared.fault.C99Fault.TheVariants as c99_fault
use Rattle.drv_c99.specs.declared.fault.C99Fault.{C99Fault}
use Rattle.drv_run.specs.Drives.{Words, after_c99, fronted, is_c99, stopped_by_args, stopped_by_c99}
use Rattle.drv_run.specs.Code.Wording.{GivesWords}
use Rattle.drv_run.specs.declared.ending.Ending.{Ending}
use Rattle.drv_system.specs.Facts.{Facts}
use Rattle.std.proofs.Common.{◌≡◌, ◌⊎◌, Bool, Err, IsErrAnd, List, Ok, Result, inl, inr, subst, sym, ℕ}

-- For `words_of`: the words of a line (response files expanded, and the words of c99 turned into the driver's), or why there are none.
-- Names: `F` is what is known of the outside before the call. `args` is the arguments of the call. `result` is the words of the line, or
-- how the call ends without them. `expanded` is the words after the response files. `words` is the words of the line. `Expands` says what
-- an expansion of response files gives. `fronted is_c99 words` turns words of c99 into the driver's. `after_c99 args` is the arguments
-- without --c99. `stopped_by_args` is the ending for a fault of the words or the line. `is_c99 args` says that the first argument is --c99.

-- a call without words, by another name for its ending
stopped_as : (F : Facts) (args : List (List ℕ)) (ending : Ending) (result : Result Expanded Ending) → IsErrAnd result (λ e. e ≡ ending)
    → GivesWords F args (Err ending) → GivesWords F args result
stopped_as F args ending (Ok words) is gives = absurd is
stopped_as F args ending (Err e) is gives = subst (λ e'. GivesWords F args (Err e')) (sym is) gives

-- the refusal of a response file is why there are no words
refused_args : (F : Facts) (args : List (List ℕ)) (fault : ArgsFault) → RefusesExpansion F 2000 (after_c99 args) fault
    → GivesWords F args (Err (stopped_by_args fault))
refused_args F args args_fault.Memory refused = tt
refused_args F args args_fault.TooManyFiles refused = refused
refused_args F args (args_fault.ResponseTooLarge path) refused = refused
refused_args F args args_fault.TooManyArguments refused = refused
refused_args F args (args_fault.MissingArgument option) refused = refused
refused_args F args (args_fault.BadJobs word) refused = refused
refused_args F args args_fault.NoInputs refused = refused
refused_args F args args_fault.StdinNeedsLanguage refused = refused
refused_args F args args_fault.OutputWithMany refused = refused
refused_args F args (args_fault.OutputIsInput input) refused = refused

-- the refusal of the front of c99 is why there are no words
refused_c99 : (F : Facts) (args : List (List ℕ)) (expanded : Expanded) (fault : C99Fault)
    → Expands F 2000 (after_c99 args) (Ok expanded) → fronted (is_c99 args) expanded ≡ Err fault
    → GivesWords F args (Err (stopped_by_c99 fault))
refused_c99 F args expanded c99_fault.Memory expands refused = tt
refused_c99 F args expanded (c99_fault.UnknownOption word) expands refused = (expanded, expands, refused)
refused_c99 F args expanded (c99_fault.MissingArgument option) expands refused = (expanded, expands, refused)
refused_c99 F args expanded c99_fault.NoOperand expands refused = (expanded, expands, refused)
refused_c99 F args expanded (c99_fault.BadLevel argument) expands refused = (expanded, expands, refused)

-- where a response file can't be expanded, there are no words
pub expansion_stops : (F : Facts) (args words : List (List ℕ)) (fault : ArgsFault) (result : Result Expanded Ending)
    → words ≡ after_c99 args
    → IsErrAnd result (λ e. e ≡ stopped_by_args fault) → Expands F 2000 words (Err fault) → GivesWords F args result
expansion_stops F args words fault result are is (inl memory) =
    stopped_as F args (stopped_by_args fault) result is (subst (λ f. GivesWords F args (Err (stopped_by_args f))) (sym memory) tt)
expansion_stops F args words fault result are is (inr refused) =
    stopped_as F args (stopped_by_args fault) result is
    (refused_args F args fault (subst (λ w. RefusesExpansion F 2000 w fault) are refused))

-- where the front of c99 refuses, there are none
pub front_stops : (F : Facts) (args words : List (List ℕ)) (expanded : Expanded) (selected : Bool) (fault : C99Fault)
    (result : Result Expanded Ending)
    → words ≡ after_c99 args → selected ≡ is_c99 args → IsErrAnd result (λ e. e ≡ stopped_by_c99 fault) → Expands F 2000 words (Ok expanded)
    → (fault ≡ c99_fault.Memory) ⊎ (fronted selected expanded ≡ Err fault) → GivesWords F args result
front_stops F args words expanded selected fault result are selects is expands (inl memory) =
    stopped_as F args (stopped_by_c99 fault) result is (subst (λ f. GivesWords F args (Err (stopped_by_c99 f))) (sym memory) tt)
front_stops F args words expanded selected fault result are selects is expands (inr refused) =
    stopped_as F args (stopped_by_c99 fault) result is
    (refused_c99 F args expanded fault (subst (λ w. Expands F 2000 w (Ok expanded)) are expands)
    (subst (λ s. fronted s expanded ≡ Err fault) selects refused))

-- words that the response files and the front of c99 give are those of the line
pub words_given : (F : Facts) (args words : List (List ℕ)) (expanded front : Expanded) (selected : Bool)
    → words ≡ after_c99 args → selected ≡ is_c99 args → Expands F 2000 words (Ok expanded) → fronted selected expanded ≡ Ok front
    → Words F args front
words_given F args words expanded front selected are selects expands fronts = record {
  expanded = expanded;
  expands = subst (λ w. Expands F 2000 w (Ok expanded)) are expands;
  fronts = subst (λ s. fronted s expanded ≡ Ok front) selects fronts;
}
