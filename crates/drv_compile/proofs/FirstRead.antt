use Rattle.drv_compile.specs.Inputs.{Noted}
use Rattle.drv_compile.specs.Overwriting.{First, IsAt, IsRead, at_it, clash_of, further, is_at, new_output, no_file, none_left}
use Rattle.drv_compile.specs.Overwriting.{old_output}
use Rattle.drv_compile.specs.Suffixes.{is_no_file}
use Rattle.drv_compile.specs.declared.host.HostEvent.TheVariants.{Resolved}
use Rattle.drv_compile.specs.declared.host.HostEvent.{HostEvent}
use Rattle.drv_compile.specs.declared.overwriting.Clash.{Clash}
use Rattle.drv_compile.specs.declared.overwriting.FileRead.{FileRead}
use Rattle.drv_compile.specs.declared.overwriting.ReadAs.{ReadAs}
use Rattle.std.proofs.Common.{◌≡◌, ◌<◌, ◌≤◌, ◌+◌, ◌∙◌, ◌∷◌, ◌++◌, [], Bool, Err, IfOk, IsErrAnd, List, None, Ok, Option, Result, Some, ap}
use Rattle.std.proofs.Common.{append_assoc, drop, false, if◌then◌else◌, length, refl, subst, sym, true, ℕ}
use Rattle.std.proofs.lemmas.Bool.{false≢true}
use Rattle.std.proofs.lemmas.List.{append-nil, drop_all, drop_more}
use Rattle.std.specs.Prelude.{get_or, is_some}

-- For files that a line writes and reads (src/overwriting.rt): the searches over outputs and over files, one after another.
-- Names: `Step` is the search for one of `xs`, of which `x` is the one at index `i`, and `found` what it found. `before` is the host's notes
-- before the search, `so` those so far, and `after` those after the one at hand. `result` is what the code's call gives. `Noted before after
-- P`: events were added, of which P holds. `First Step xs events found`: by these events that was found first.

-- If the one at hand isn't what is searched for, then those after it decide.
pub first_more : {A B : Type 0} (Step : A → List HostEvent → Option B → Type 0) (xs : List A) (i : ℕ) (x : A) (found : Option B)
    (before so after : List HostEvent) → i < length xs → x ≡ get_or xs i x → is_some found ≡ false
    → Noted so after (λ events. Step x events found)
    → Noted before so (λ events. (more : List HostEvent) (f : Option B) → First Step (drop i xs) more f
    → First Step xs (events ++ more) f)
    → Noted before after (λ events. (more : List HostEvent) (f : Option B) → First Step (drop (i + 1) xs) more f
    → First Step xs (events ++ more) f)
first_more Step xs i x (Some b) before so after below here none step so_far = absurd (false≢true (sym none))
first_more Step xs i x None before so after below here none (asked, grown, is) (events, done, so_far) = (
  events ++ asked,
  grown ∙ ap (λ e. e ++ asked) done ∙ append_assoc before events asked,
  λ more f first.
      subst (λ e. First Step xs e f) (sym (append_assoc events asked more))
      (so_far (asked ++ more) f
      (subst (λ ys. First Step ys (asked ++ more) f)
      (sym (drop_more xs i x below ∙ ap (λ y. y ∷ drop (i + 1) xs) (sym here)))
      (further is first))),
)

-- If the one at hand is what is searched for, then it is the first.
pub first_it : {A B : Type 0} (Step : A → List HostEvent → Option B → Type 0) (xs : List A) (i : ℕ) (x : A) (found : Option B)
    (before so after : List HostEvent) → i < length xs → x ≡ get_or xs i x → is_some found ≡ true
    → Noted so after (λ events. Step x events found)
    → Noted before so (λ events. (more : List HostEvent) (f : Option B) → First Step (drop i xs) more f
    → First Step xs (events ++ more) f)
    → Noted before after (λ events. First Step xs events found)
first_it Step xs i x None before so after below here some step so_far = absurd (false≢true some)
first_it Step xs i x (Some b) before so after below here some (asked, grown, is) (events, done, so_far) = (
  events ++ asked,
  grown ∙ ap (λ e. e ++ asked) done ∙ append_assoc before events asked,
  so_far asked (Some b)
      (subst (λ ys. First Step ys asked (Some b)) (sym (drop_more xs i x below ∙ ap (λ y. y ∷ drop (i + 1) xs) (sym here)))
      (at_it is)),
)

-- If all were asked for, then none is.
pub first_none : {A B : Type 0} (Step : A → List HostEvent → Option B → Type 0) (xs : List A) (i : ℕ) (before so : List HostEvent)
    → length xs ≤ i
    → Noted before so (λ events. (more : List HostEvent) (f : Option B) → First Step (drop i xs) more f
    → First Step xs (events ++ more) f)
    → Noted before so (λ events. First Step xs events None)
first_none Step xs i before so past (events, is, so_far) = (
  events,
  is,
  subst (λ e. First Step xs e None) (append-nil events)
      (so_far [] None (subst (λ ys. First Step ys [] None) (sym (drop_all i xs past)) none_left)),
)

-- Where memory lacked for a step, nothing is said of what was found.
pub short_noted : {X E : Type 0} (before so after : List HostEvent) (one two : List HostEvent → Type 0) (result : Result X E)
    (what : List HostEvent → X → Type 0) (why : E → Type 0)
    → Noted before so one → Noted so after two → IsErrAnd result why → Noted before after (λ events. IfOk result (what events))
short_noted before so after one two (Ok x) what why noted noted' is = absurd is
short_noted before so after one two (Err e) what why (events, grown, said) (more, grown', said') is =
    (events ++ more, grown' ∙ ap (λ n. n ++ more) grown ∙ append_assoc before events more, tt)

-- For `read_at`: the host's answer says whether the file is at the path.
pub asked_at : (path : List ℕ) (file : FileRead) (answer : Option (List ℕ)) (found : Option ReadAs) (before after : List HostEvent)
    → after ≡ before ++ Resolved file.name answer ∷ [] → found ≡ (if is_at path answer then Some file.read_as else None)
    → Noted before after (λ events. IsAt path file events found)
asked_at path file answer found before after grown is = (Resolved file.name answer ∷ [], grown, (answer, refl, is))

-- the notes with the question for the output and those for files
old_grown : (output path : List ℕ) (answer : Option (List ℕ)) (before mid after events : List HostEvent) → answer ≡ Some path
    → mid ≡ before ++ Resolved output answer ∷ [] → after ≡ mid ++ events → after ≡ before ++ Resolved output (Some path) ∷ events
old_grown output path answer before mid after events some grown done =
    done ∙ ap (λ m. m ++ events) (grown ∙ ap (λ a. before ++ Resolved output a ∷ []) some)
    ∙ append_assoc before (Resolved output (Some path) ∷ []) events

-- For `clash_with`: an output that is no file isn't read, and the host is asked nothing.
pub sink_read : (files : List FileRead) (output lent : List ℕ) (found : Bool) (notes : List HostEvent) → lent ≡ output
    → found ≡ is_no_file lent → found ≡ true → Noted notes notes (λ events. IsRead files output events None)
sink_read files output lent found notes same is so =
    ([], sym (append-nil notes), no_file (sym (ap is_no_file same) ∙ sym is ∙ so))

-- For `clash_with`: an output that isn't there isn't read, by one question.
pub new_read : (files : List FileRead) (output lent : List ℕ) (found : Bool) (answer : Option (List ℕ)) (before after : List HostEvent)
    → lent ≡ output → found ≡ is_no_file lent → found ≡ false → answer ≡ None
    → after ≡ before ++ Resolved output answer ∷ [] → Noted before after (λ events. IsRead files output events None)
new_read files output lent found answer before after same is so none grown = (
  Resolved output None ∷ [],
  grown ∙ ap (λ a. before ++ Resolved output a ∷ []) none,
  new_output (sym (ap is_no_file same) ∙ sym is ∙ so),
)

-- For `clash_with`: an output that is there is read if a file leads to its path.
pub old_read : {E : Type 0} (files : List FileRead) (output path : List ℕ) (answer : Option (List ℕ)) (found : Option ReadAs)
    (before mid after : List HostEvent) (result : Result (Option Clash) E)
    → is_no_file output ≡ false → answer ≡ Some path → mid ≡ before ++ Resolved output answer ∷ []
    → Noted mid after (λ events. First (IsAt path) files events found) → IfOk result (λ clash. clash ≡ clash_of output found)
    → Noted before after (λ events. IfOk result (λ clash. IsRead files output events clash))
old_read files output path answer found before mid after (Err e) file some grown (events, done, first) is =
    (Resolved output (Some path) ∷ events, old_grown output path answer before mid after events some grown done, tt)
old_read files output path answer found before mid after (Ok clash) file some grown (events, done, first) is = (
  Resolved output (Some path) ∷ events,
  old_grown output path answer before mid after events some grown done,
  subst (λ c. IsRead files output (Resolved output (Some path) ∷ events) c) (sym is) (old_output file first),
)
