use Rattle.drv_args.specs.Expansion.{Expands, Refuses as RefusesExpansion, file_named, limited}
use Rattle.drv_args.specs.declared.fault.ArgsFault.{ArgsFault}
use Rattle.drv_args.specs.declared.line.Expanded.{Expanded}
use Rattle.drv_c99.specs.Front.{front_of}
use Rattle.drv_c99.specs.declared.fault.C99Fault.{C99Fault}
use Rattle.drv_compile.specs.Texts.{error_line, unread_text}
use Rattle.drv_compile.specs.declared.calling.Calling.{Calling}
use Rattle.drv_compile.specs.declared.calling.Front.TheVariants.{C99, Cxx, Gcc}
use Rattle.drv_compile.specs.declared.calling.Front.{Front}
use Rattle.drv_compile.specs.declared.stop.Stop.TheVariants.{Memory, Told}
use Rattle.drv_compile.specs.declared.stop.Stop.{Stop}
use Rattle.drv_plan.specs.declared.fault.PlanFault.TheVariants as plan_fault
use Rattle.drv_run.specs.Drives.{stopped_by_c99}
use Rattle.drv_run.specs.Texts.{refusal_text}
use Rattle.drv_run.specs.declared.ending.Ending.TheVariants.{Done, OutOfMemory, Refused}
use Rattle.drv_run.specs.declared.ending.Ending.{Ending}
use Rattle.drv_run.specs.declared.ending.Refusal.TheVariants as refusal
use Rattle.drv_run.specs.declared.ending.Refusal.{Refusal}
use Rattle.drv_system.specs.Facts.{Facts, read_of}
use Rattle.drv_system.specs.Known.{◌>>=◌, Is, Known, asked}
use Rattle.drv_system.specs.declared.event.ReadAnswer.TheVariants.{Failed, Missing, Read, TooLarge}
use Rattle.drv_system.specs.declared.event.ReadAnswer.{ReadAnswer}
use Rattle.std.specs.Prelude.{◌≡◌, Err, List, [], ◌∷◌, ◌++◌, None, Ok, Option, Result, Some, codes, ℕ}

-- The words of a call, over facts: response files expanded, of which none may be there and not be readable, and the words of c99 turned
-- into gcc's (GCC manual, "Overall Options", @file; POSIX, c99).
-- For clauses of src/expanding.rt and src/wording.rt.

-- the path of a response file that a word still names, since it can't be read
abbrev pub if_unread : List ℕ → ReadAnswer → Option (List ℕ)
if_unread path (Read text) = None
if_unread path Missing = None
if_unread path Failed = Some path
if_unread path TooLarge = None

-- the path of a word that names a response file, if that file is there and can't be read
abbrev pub unread_at : Facts → Option (List ℕ) → Known (Option (List ℕ))
unread_at F None = Is None
unread_at F (Some path) = asked (read_of F path) >>= λ answer. Is (if_unread path answer)

-- the first path of two that is there: the later one is asked for only without the first
abbrev pub or_later : Option (List ℕ) → Known (Option (List ℕ)) → Known (Option (List ℕ))
or_later None later = later
or_later (Some path) later = Is (Some path)

-- the first response file of the words that is there and can't be read
abbrev pub first_unread : Facts → List (List ℕ) → Known (Option (List ℕ))
first_unread F [] = Is None
first_unread F (word ∷ words) = unread_at F (file_named word) >>= λ path. or_later path (first_unread F words)

-- the words of a front
abbrev pub with_words : Expanded → Result (List (List ℕ)) C99Fault → Result Expanded Ending
with_words expanded (Ok words) = Ok (record expanded { words = words })
with_words expanded (Err fault) = Err (stopped_by_c99 fault)

-- how a line in a language that no spec file serves ends a call
abbrev pub unserved : List ℕ → Ending
unserved language = Refused (refusal.Plan (plan_fault.NotInstalled language))

-- the words of a call by the name it was called by: those of c99 become gcc's, or are refused; those of g++ are refused
abbrev pub words_of_front : Front → Expanded → Result Expanded Ending
words_of_front Gcc expanded = Ok expanded
words_of_front C99 expanded = with_words expanded (front_of expanded.words)
words_of_front Cxx expanded = Err (unserved (codes "C++"))

-- the facts in which a response file of more than 262,144 words is too large (gcc has no such limit; this project's profile)
abbrev pub within_limit : Facts → Facts
within_limit F = limited (Some 262144) F

-- the words of a call: response files are expanded, each could be read, and those of c99 are turned into gcc's
pub record Words (F : Facts) (calling : Calling) (args : List (List ℕ)) (words : Expanded) : Type 0 where
  pub expanded : Expanded
  pub expands : Expands (within_limit F) 2000 args (Ok expanded)
  pub readable : first_unread F expanded.words ≡ Is None
  pub fronts : words_of_front calling.front expanded ≡ Ok words

-- The text of a refusal of the driver: that of c99 has its name in its text. No spec file of this program is for another language than C
-- and assembler, so none is said to be not installed.
abbrev pub told_refusal : List ℕ → Refusal → List ℕ
told_refusal name (refusal.C99 fault) = refusal_text (refusal.C99 fault) ++ codes "\n"
told_refusal name (refusal.Args fault) = error_line name (refusal_text (refusal.Args fault))
told_refusal name (refusal.Specs fault) = error_line name (refusal_text (refusal.Specs fault))
told_refusal name (refusal.Plan (plan_fault.NotInstalled language)) =
    error_line name (language ++ codes " is not supported: gdrv-cc compiles C and assembler")
told_refusal name (refusal.Plan fault) = error_line name (refusal_text (refusal.Plan fault))

-- how a call ends before its work that the driver would end so
abbrev pub stop_of : List ℕ → Ending → Stop
stop_of name (Refused refusal) = Told (told_refusal name refusal)
stop_of name (Done status) = Memory
stop_of name OutOfMemory = Memory

-- The text of the refusal in their place: that response files aren't expanded, that one can't be read, or that the front refuses the words.
abbrev pub IsUnexpanded : Facts → List ℕ → List (List ℕ) → List ℕ → Type 0
IsUnexpanded F name args text =
    (fault : ArgsFault) × RefusesExpansion (within_limit F) 2000 args fault × (text ≡ told_refusal name (refusal.Args fault))

-- a response file can't be read, and this text says it
abbrev pub IsUnread : Facts → List ℕ → List (List ℕ) → List ℕ → Type 0
IsUnread F name words text = (path : List ℕ) × (first_unread F words ≡ Is (Some path)) × (text ≡ unread_text name path)

-- the front refuses the words, and this text says it
abbrev pub IsUnfronted : Calling → Expanded → List ℕ → Type 0
IsUnfronted calling expanded text =
    (refusal : Refusal) × (words_of_front calling.front expanded ≡ Err (Refused refusal)) × (text ≡ told_refusal calling.name refusal)

-- why the words of a call are refused, and the text that says it
pub data RefusesWords (F : Facts) (calling : Calling) (args : List (List ℕ)) (text : List ℕ) : Type 0 where
  not_expanded : IsUnexpanded F calling.name args text → RefusesWords F calling args text
  not_readable : {expanded : Expanded} → Expands (within_limit F) 2000 args (Ok expanded) → IsUnread F calling.name expanded.words text
      → RefusesWords F calling args text
  not_fronted : {expanded : Expanded} → Expands (within_limit F) 2000 args (Ok expanded) → first_unread F expanded.words ≡ Is None
      → IsUnfronted calling expanded text
      → RefusesWords F calling args text
