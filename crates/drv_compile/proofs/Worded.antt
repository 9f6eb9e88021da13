use Rattle.drv_args.specs.Expansion.{Expands, Refuses as RefusesExpansion, file_named}
use Rattle.drv_args.specs.declared.fault.ArgsFault.TheVariants as args_fault
use Rattle.drv_args.specs.declared.fault.ArgsFault.{ArgsFault}
use Rattle.drv_args.specs.declared.line.Expanded.{Expanded}
use Rattle.drv_c99.specs.Front.{front_of}
use Rattle.drv_c99.specs.declared.fault.C99Fault.TheVariants as c99_fault
use Rattle.drv_c99.specs.declared.fault.C99Fault.{C99Fault}
use Rattle.drv_compile.specs.Code.Preparing.{IsFailure}
use Rattle.drv_compile.specs.Code.Refusing.{IsEndSaid}
use Rattle.drv_compile.specs.Runs.{Stops}
use Rattle.drv_compile.specs.Tasks.{IfTold, undone}
use Rattle.drv_compile.specs.Words.{IsUnexpanded, IsUnfronted, IsUnread, RefusesWords, Words, first_unread, if_unread, words_of_front}
use Rattle.drv_compile.specs.Words.{not_expanded, not_fronted, not_readable, or_later, stop_of, unread_at, with_words, within_limit}
use Rattle.drv_compile.specs.declared.calling.Calling.{Calling}
use Rattle.drv_compile.specs.declared.calling.Front.TheVariants.{C99}
use Rattle.drv_compile.specs.declared.running.DriverLine.{DriverLine}
use Rattle.drv_compile.specs.declared.stop.Stop.TheVariants.{Memory, Told, Undone}
use Rattle.drv_compile.specs.declared.stop.Stop.{Stop}
use Rattle.drv_run.specs.Drives.{stopped_by_args, stopped_by_c99}
use Rattle.drv_run.specs.declared.ending.Ending.TheVariants.{Done, OutOfMemory, Refused}
use Rattle.drv_run.specs.declared.ending.Ending.{Ending}
use Rattle.drv_system.specs.Facts.{Facts, read_of}
use Rattle.drv_system.specs.Known.{◌>>=◌, Is, asked}
use Rattle.drv_system.specs.declared.event.ReadAnswer.{ReadAnswer}
use Rattle.drv_words.specs.Gives.{Gives}
use Rattle.std.proofs.Common.{◌≡◌, ◌⊎◌, ◌<◌, ◌≤◌, ◌+◌, ◌∙◌, ◌∷◌, Err, IsErrAnd, List, None, Ok, Option, Result, Some, ap, drop, false, inl}
use Rattle.std.proofs.Common.{inr, length, refl, subst, sym, true, ℕ}
use Rattle.std.proofs.lemmas.Bool.{false≢true}
use Rattle.std.proofs.lemmas.List.{drop_all, drop_more}
use Rattle.std.specs.Prelude.{MatchResult, get_or, is_some}

-- For the words of a call (src/expanding.rt and src/preparing.rt): they are those of its response files, or it is refused.
-- Names: `F` is what is known of the outside. `calling` is the program's name and front. `args` is the arguments, `expanded` the words
-- behind response files, and `words` those words, of which `word` has index `i`. `fault` is why they are refused. `stop` is why the call
-- ends, and `result` what the code's call gives. `done` is a claim on a value, and `told` one on a text. `IfTold stop P`: P holds of the
-- stop's text, if it has one. `MatchResult result P Q`: P holds of the value, or Q of the fault. `IsErrAnd result P`: there is a fault, of
-- which P holds. `Expands G n args result`: by the facts G the expansion gives that, with n replacements left (drv_args). `first_unread` is
-- the first response file that can't be read. `Words` and `RefusesWords` are the words of a call, or why there are none (specs/Words).

-- If memory lacked, then any claim on the result or the text holds: there is neither.
pub memory_stops : {X : Type 0} (result : Result X Stop) (done : X → Type 0) (told : List ℕ → Type 0)
    → IsErrAnd result (λ stop. stop ≡ Memory)
    → MatchResult result done (λ stop. IfTold stop told)
memory_stops (Ok x) done told is = absurd is
memory_stops (Err stop) done told is = subst (λ s. IfTold s told) (sym is) tt

-- a stop that is handed on
pub stop_stays : {X : Type 0} (result : Result X Stop) (stop : Stop) (done : X → Type 0) (told : List ℕ → Type 0)
    → IsErrAnd result (λ s. s ≡ stop)
    → IfTold stop told → MatchResult result done (λ s. IfTold s told)
stop_stays (Ok x) stop done told is tells = absurd is
stop_stays (Err s) stop done told is tells = subst (λ s'. IfTold s' told) (sym is) tells

-- a text that is refused for one reason, told for another
pub told_as : (stop : Stop) (told told' : List ℕ → Type 0) → ((text : List ℕ) → told text → told' text) → IfTold stop told
    → IfTold stop told'
told_as (Told text) told told' turns tells = turns text tells
told_as (Undone text line) told told' turns tells = turns text tells
told_as Memory told told' turns tells = tt

-- For `prepare_plan` and `worker_after`: if a claim holds of a stop's text, then also beside the driver's line.
pub undone_tells : (stop : Stop) (line : DriverLine) (told : List ℕ → Type 0) → IfTold stop told → IfTold (undone stop line) told
undone_tells (Told text) line told tells = tells
undone_tells (Undone text other) line told tells = tells
undone_tells Memory line told tells = tt

-- a response file
pub unread_asked : (F : Facts) (given : Option (List ℕ)) (path named : List ℕ) (answer : ReadAnswer) (found : Option (List ℕ))
    → given ≡ Some path → named ≡ path → read_of F named ≡ Some answer → found ≡ if_unread named answer → unread_at F given ≡ Is found
unread_asked F given path named answer found some same known is =
    ap (unread_at F) (some ∙ ap Some (sym same)) ∙ ap (λ k. asked k >>= λ a. Is (if_unread named a)) known ∙ ap Is (sym is)

-- For `first_unread`: if the file of word i can be read, then the first that can't is among those after it.
pub unread_more : (F : Facts) (words : List (List ℕ)) (i : ℕ) (word : List ℕ) → i < length words → word ≡ get_or words i word
    → unread_at F (file_named word) ≡ Is None → first_unread F (drop i words) ≡ first_unread F words
    → first_unread F (drop (i + 1) words) ≡ first_unread F words
unread_more F words i word below here none so_far =
    sym (ap (first_unread F) (drop_more words i word below ∙ ap (λ w. w ∷ drop (i + 1) words) (sym here))
    ∙ ap (λ k. k >>= λ path. or_later path (first_unread F (drop (i + 1) words))) none) ∙ so_far

-- If the file of word i can't be read, then it is the first.
pub unread_here : (F : Facts) (words : List (List ℕ)) (i : ℕ) (word : List ℕ) (found : Option (List ℕ)) → i < length words
    → word ≡ get_or words i word
    → unread_at F (file_named word) ≡ Is found → is_some found ≡ true → first_unread F (drop i words) ≡ first_unread F words
    → first_unread F words ≡ Is found
unread_here F words i word found below here is some so_far =
    sym so_far ∙ ap (first_unread F) (drop_more words i word below ∙ ap (λ w. w ∷ drop (i + 1) words) (sym here))
    ∙ ap (λ k. k >>= λ p. or_later p (first_unread F (drop (i + 1) words))) is ∙ by found some
  where
    -- Plan: `by` says that the first that was found decides, whatever the later words name.
    by : (found : Option (List ℕ)) → is_some found ≡ true → or_later found (first_unread F (drop (i + 1) words)) ≡ Is found
    by (Some path) some = refl
    by None some = absurd (false≢true some)

-- (a path that is not there is none)
pub not_some : {X : Type 0} (o : Option X) → is_some o ≡ false → o ≡ None
not_some None is = refl
not_some (Some x) is = absurd (false≢true (sym is))

-- For `first_unread`: if all words were gone over, then none names a file that can't be read.
pub unread_nowhere : (F : Facts) (words : List (List ℕ)) (i : ℕ) → length words ≤ i → first_unread F (drop i words) ≡ first_unread F words
    → first_unread F words ≡ Is None
unread_nowhere F words i past so_far = sym so_far ∙ ap (first_unread F) (drop_all i words past)

-- faults as texts

-- For `expansion`: if the driver's words are refused, then the stop's text says so, unless memory lacked.
pub args_told : (F : Facts) (name : List ℕ) (args : List (List ℕ)) (fault : ArgsFault) (stop : Stop)
    → stop ≡ stop_of name (stopped_by_args fault)
    → Expands (within_limit F) 2000 args (Err fault) → IfTold stop (IsUnexpanded F name args)
args_told F name args fault stop is given = subst (λ s. IfTold s (IsUnexpanded F name args)) (sym is) (by fault given)
  where
    -- Plan: `refused` gives the text of each refusal, and `by` adds lack of memory, which has no text.
    refused : (fault : ArgsFault) → RefusesExpansion (within_limit F) 2000 args fault
        → IfTold (stop_of name (stopped_by_args fault)) (IsUnexpanded F name args)
    refused args_fault.Memory refuses = tt
    refused args_fault.TooManyFiles refuses = (args_fault.TooManyFiles, refuses, refl)
    refused (args_fault.ResponseTooLarge path) refuses = (args_fault.ResponseTooLarge path, refuses, refl)
    refused args_fault.TooManyArguments refuses = (args_fault.TooManyArguments, refuses, refl)
    refused (args_fault.MissingArgument option) refuses = (args_fault.MissingArgument option, refuses, refl)
    refused (args_fault.BadJobs word) refuses = (args_fault.BadJobs word, refuses, refl)
    refused args_fault.NoInputs refuses = (args_fault.NoInputs, refuses, refl)
    refused args_fault.StdinNeedsLanguage refuses = (args_fault.StdinNeedsLanguage, refuses, refl)
    refused args_fault.OutputWithMany refuses = (args_fault.OutputWithMany, refuses, refl)
    refused (args_fault.OutputIsInput input) refuses = (args_fault.OutputIsInput input, refuses, refl)

    by : (fault : ArgsFault) → Expands (within_limit F) 2000 args (Err fault)
        → IfTold (stop_of name (stopped_by_args fault)) (IsUnexpanded F name args)
    by fault (inl memory) = subst (λ f. IfTold (stop_of name (stopped_by_args f)) (IsUnexpanded F name args)) (sym memory) tt
    by fault (inr refuses) = refused fault refuses

-- For `words_of_front`: if c99 refuses the words, or lacks memory, then the call ends so.
pub front_stops : (expanded : Expanded) (words : List (List ℕ)) (fault : C99Fault) (result : Result Expanded Ending)
    → words ≡ expanded.words → IsErrAnd result (λ e. e ≡ stopped_by_c99 fault)
    → (fault ≡ c99_fault.Memory) ⊎ (front_of words ≡ Err fault) → Gives OutOfMemory (λ w. w) result (words_of_front C99 expanded)
front_stops expanded words fault (Ok made) same is given = absurd is
front_stops expanded words fault (Err e) same is (inl memory) = inl (is ∙ ap stopped_by_c99 memory)
front_stops expanded words fault (Err e) same is (inr refused) =
    inr (ap (with_words expanded) (ap front_of (sym same) ∙ refused) ∙ ap Err (sym is))

-- For `gcc_words`: if the front refuses the words, then the stop's text says so, unless memory lacked.
pub front_told : (calling : Calling) (expanded : Expanded) (end : Ending) (stop : Stop) → stop ≡ stop_of calling.name end
    → (end ≡ OutOfMemory) ⊎ (words_of_front calling.front expanded ≡ Err end) → IfTold stop (IsUnfronted calling expanded)
front_told calling expanded end stop is given = subst (λ s. IfTold s (IsUnfronted calling expanded)) (sym is) (by end given)
  where
    -- Plan: `refused` gives the text of a refusal, and `by` adds lack of memory, which has no text.
    refused : (end : Ending) → words_of_front calling.front expanded ≡ Err end
        → IfTold (stop_of calling.name end) (IsUnfronted calling expanded)
    refused (Refused refusal) refuses = (refusal, refuses, refl)
    refused (Done status) refuses = tt
    refused OutOfMemory refuses = tt

    by : (end : Ending) → (end ≡ OutOfMemory) ⊎ (words_of_front calling.front expanded ≡ Err end)
        → IfTold (stop_of calling.name end) (IsUnfronted calling expanded)
    by end (inl memory) = subst (λ f. IfTold (stop_of calling.name f) (IsUnfronted calling expanded)) (sym memory) tt
    by end (inr refuses) = refused end refuses

-- For `work_or_stop`: if a line of the driver ends, and the stop's text says how, then that text is its failure.
pub driver_told : (F : Facts) (name : List ℕ) (own : DriverLine) (seed : ℕ) (ending : Ending) (stop : Stop) → Stops F own seed ending
    → IfTold stop (IsEndSaid name ending) → IfTold stop (IsFailure F name own seed)
driver_told F name own seed ending stop stops tells =
    told_as stop (IsEndSaid name ending) (IsFailure F name own seed) (by ending stops) tells
  where
    -- Plan: `by` goes by the ending: a refusal has its text, and the other endings have none.
    by : (ending : Ending) → Stops F own seed ending → (text : List ℕ) → IsEndSaid name ending text → IsFailure F name own seed text
    by (Refused refusal) stops text said = (refusal, stops, said)
    by (Done status) stops text said = absurd said
    by OutOfMemory stops text said = absurd said

-- the words from step to step

-- For `line_words`: if the words can't be expanded, and the stop says why, then they are refused with that text.
pub unexpanded : (F : Facts) (calling : Calling) (name : List ℕ) (args : List (List ℕ)) (stop : Stop) (result : Result Expanded Stop)
    → name ≡ calling.name
    → IsErrAnd result (λ s. s ≡ stop) → IfTold stop (IsUnexpanded F name args)
    → MatchResult result (λ words. Words F calling args words) (λ s. IfTold s (RefusesWords F calling args))
unexpanded F calling name args stop result named is tells =
    stop_stays result stop (λ words. Words F calling args words) (RefusesWords F calling args) is
    (told_as stop (IsUnexpanded F name args) (RefusesWords F calling args)
    (λ text un. not_expanded (subst (λ n. IsUnexpanded F n args text) named un)) tells)

-- If a response file can't be read, and the stop says so, then the words are refused with that text.
pub unreadable : (F : Facts) (calling : Calling) (name : List ℕ) (args words : List (List ℕ)) (expanded : Expanded) (stop : Stop)
    (result : Result Expanded Stop) → name ≡ calling.name
    → words ≡ expanded.words → Expands (within_limit F) 2000 args (Ok expanded)
    → IsErrAnd result (λ s. s ≡ stop) → IfTold stop (IsUnread F name words)
    → MatchResult result (λ given. Words F calling args given) (λ s. IfTold s (RefusesWords F calling args))
unreadable F calling name args words expanded stop result named are expands is tells =
    stop_stays result stop (λ given. Words F calling args given) (RefusesWords F calling args) is
    (told_as stop (IsUnread F name words) (RefusesWords F calling args)
    (λ text un. not_readable expands (subst (λ n. IsUnread F n expanded.words text) named (subst (λ w. IsUnread F name w text) are un)))
    tells)

-- For `line_words`: if all response files were read, then what the front makes of the words, or why it refuses them, is the line's.
pub words_given : (F : Facts) (calling : Calling) (args words : List (List ℕ)) (expanded : Expanded) (result : Result Expanded Stop)
    → words ≡ expanded.words
    → Expands (within_limit F) 2000 args (Ok expanded) → first_unread F words ≡ Is None
    → MatchResult result (λ given. words_of_front calling.front expanded ≡ Ok given) (λ s. IfTold s (IsUnfronted calling expanded))
    → MatchResult result (λ given. Words F calling args given) (λ s. IfTold s (RefusesWords F calling args))
words_given F calling args words expanded (Ok given) are expands readable fronts =
    record { expanded = expanded; expands = expands; readable = ap (first_unread F) (sym are) ∙ readable; fronts = fronts }
words_given F calling args words expanded (Err stop) are expands readable tells =
    told_as stop (IsUnfronted calling expanded) (RefusesWords F calling args)
    (λ text un. not_fronted expands (ap (first_unread F) (sym are) ∙ readable) un) tells
