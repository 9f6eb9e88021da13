use Rattle.drv_compile.specs.Settling.{BeginsToGo, Going, IsFolder, IsTried}
use Rattle.drv_compile.specs.Compiles.{GoesBy, settled, unnamed, unsettled}
use Rattle.drv_compile.specs.Inputs.{Noted}
use Rattle.drv_compile.specs.TempFolder.{Chooses, IsSettled, Tries, folder_names, folders_of_all, if_set, named_by, own, tries_last}
use Rattle.drv_compile.specs.TempFolder.{tries_next, tries_none, unusable, usable}
use Rattle.drv_compile.specs.declared.compiling.Outcome.TheVariants.{OutOfMemory}
use Rattle.drv_compile.specs.declared.compiling.Outcome.{Outcome}
use Rattle.drv_compile.specs.declared.host.HostEvent.TheVariants.{Tried}
use Rattle.drv_compile.specs.declared.host.HostEvent.{HostEvent}
use Rattle.drv_run.proofs.Endings.{no_pipe_after_questions}
use Rattle.drv_search.specs.Search.{Adds}
use Rattle.drv_system.proofs.AnswerMaps.{answer_to-with_answer, keeps_answers, pair_elsewhere, pair_here}
use Rattle.drv_system.proofs.Asking.{extends_refl, extends_then, learn-append, learn_extends, new_append}
use Rattle.drv_system.specs.Asking.{AreNew, Asks, Extends, IsNew}
use Rattle.drv_system.specs.Facts.{Facts, answer_to, learn, learnt, no_facts, variable_of, with_answer, with_value}
use Rattle.drv_system.specs.Known.{◌>>=◌, Is, asked}
use Rattle.drv_system.specs.Running.{run_of}
use Rattle.drv_system.specs.declared.event.Event.TheVariants.{Kind, Put, Read, Run, Say, Variable}
use Rattle.drv_system.specs.declared.event.Event.{Event}
use Rattle.drv_words.specs.Stepping.{pipe_pending}
use Rattle.std.proofs.Common.{◌≡◌, ◌<◌, ◌≤◌, ◌+◌, ◌∙◌, ◌∷◌, ◌++◌, [], Bool, Err, IfOk, IsErrAnd, List, None, Ok, OnOk, Option, Result, Some}
use Rattle.std.proofs.Common.{ap, append_assoc, codes, drop, false, inl, inr, length, refl, subst, sym, true, ℕ}
use Rattle.std.proofs.lemmas.Bool.{false≢true}
use Rattle.std.proofs.lemmas.List.{append-nil, drop_all, drop_more}
use Rattle.std.proofs.lemmas.Map.Lookups.{exact_bytes}
use Rattle.std.specs.BTreeMap.{is_at}
use Rattle.std.specs.Cmp.{Equal-is}
use Rattle.std.specs.Cmp.Lexicographic.{slice_cmp}
use Rattle.std.specs.Option.{option_or}
use Rattle.std.specs.Ordering.{nat_cmp}
use Rattle.std.specs.Prelude.{◌≢◌, get_or, if◌then◌else◌, is_some}

-- For `compile` (src/compiling.rt): the facts of a call whose folder of temporaries is settled.
-- Names: `F` and `G` are what is known of the outside, without the folder and with it. `known` is what the call's questions told. `names`
-- is the names that may be the folder's, and `name` the one at index `i`. `answer` says whether that is usable. `before`, `so` and `after`
-- are the host's events before the loop, so far, and after one more. `slice` is the names as the code lends them. `folder` is the folder of
-- temporaries. `journal` and `notes` are the events of the system and of the host before, and `journal'` and `notes'` after. `asked` and
-- `tried` are what was added to these. `result` is what the code's call gives. `Noted before after P`: events were added, of which P holds.
-- `Adds names before after`: these names were added (drv_search). `Chooses names events folder` and `Tries names events` say which folder
-- the host's answers choose, or that they chose none yet (specs/TempFolder). `IsSettled F folder G`: G is F with that folder. `Extends F
-- G`: G knows all that F knows. `IsFolder`, `IsTried`, `Going` and `BeginsToGo` are in specs/Settling.

-- the names

-- For `push_variable`: if the value of a variable was added where it is set, then its names were added.
pub name_pushed : {X E : Type 0} (F : Facts) (variable : List ℕ) (value : Option (List ℕ)) (before after : List (List ℕ))
    (result : Result X E)
    → asked (variable_of F variable) ≡ Is value → OnOk result (after ≡ before ++ if_set value)
    → OnOk result (Adds (named_by F variable) before after)
name_pushed F variable value before after (Err e) is grown = tt
name_pushed F variable value before after (Ok x) is grown = (if_set value, ap (λ k. k >>= λ v. Is (if_set v)) is, grown)

-- For `push_names`: if the names of three variables were added, and then the usual folders, then all names were.
pub names_pushed : {X E : Type 0} (F : Facts) (none first second third all : List (List ℕ)) (result : Result X E)
    → Adds (named_by F (codes "TMPDIR")) none first → Adds (named_by F (codes "TMP")) first second
    → Adds (named_by F (codes "TEMP")) second third
    → OnOk result (all ≡ third ++ folders_of_all) → OnOk result (Adds (folder_names F) none all)
names_pushed F none first second third all (Err e) (tmpdir, is1, grown1) (tmp, is2, grown2) (temp, is3, grown3) ends = tt
names_pushed F none first second third all (Ok x) (tmpdir, is1, grown1) (tmp, is2, grown2) (temp, is3, grown3) ends = (
  tmpdir ++ tmp ++ temp ++ folders_of_all,
  rw (is1, is2, is3) refl,
  ends
      ∙ ap (λ n. n ++ folders_of_all) (grown3 ∙ ap (λ n. n ++ temp) (grown2 ∙ ap (λ n. n ++ tmp) grown1))
      ∙ regrouped none tmpdir tmp temp folders_of_all,
)
  where
    -- Plan: `regrouped` says that what was added one after another was added together.
    regrouped : (before tmpdir tmp temp usual : List (List ℕ)) → before ++ tmpdir ++ tmp ++ temp ++ usual
        ≡ before ++ (tmpdir ++ tmp ++ temp ++ usual)
    regrouped before tmpdir tmp temp usual =
        ap (λ n. n ++ temp ++ usual) (append_assoc before tmpdir tmp) ∙ ap (λ n. n ++ usual) (append_assoc before (tmpdir ++ tmp) temp)
        ∙ append_assoc before (tmpdir ++ tmp ++ temp) usual

-- For `folder_names`: if all names were added to none, then these are all names.
pub names_known : (F : Facts) (none all : List (List ℕ)) → none ≡ [] → Adds (folder_names F) none all → folder_names F ≡ Is all
names_known F none all empty (names, is, grown) = is ∙ ap Is (sym (grown ∙ ap (λ n. n ++ names) empty))

-- one name more

-- `first_usable` tried the names so far in vain, and the choice is among the rest
abbrev pub Choosing : List (List ℕ) → ℕ → List HostEvent → List HostEvent → Type 0
Choosing names i before so =
    Noted before so (λ events. (more : List HostEvent) (folder : List ℕ) → Chooses (drop i names) more folder
    → Chooses names (events ++ more) folder)

-- For `first_usable`: if folder i isn't usable, then the choice is among those after it.
pub chooses_later : (names : List (List ℕ)) (i : ℕ) (name : List ℕ) (answer : Bool) (before so after : List HostEvent) → i < length names
    → name ≡ get_or names i name
    → answer ≡ false → after ≡ so ++ Tried name answer ∷ [] → Choosing names i before so → Choosing names (i + 1) before after
chooses_later names i name answer before so after below here says grown (events, is, so_far) = (
  events ++ Tried name false ∷ [],
  grown ∙ ap (λ b. so ++ Tried name b ∷ []) says ∙ ap (λ e. e ++ Tried name false ∷ []) is
      ∙ append_assoc before events (Tried name false ∷ []),
  λ more folder chooses.
      subst (λ e. Chooses names e folder) (sym (append_assoc events (Tried name false ∷ []) more))
      (so_far (Tried name false ∷ more) folder
      (subst (λ xs. Chooses xs (Tried name false ∷ more) folder)
      (sym (drop_more names i name below ∙ ap (λ x. x ∷ drop (i + 1) names) (sym here)))
      (unusable chooses))),
)

-- For `first_usable`: if folder i is usable, then it is the choice.
pub chooses_it : {E : Type 0} (names : List (List ℕ)) (i : ℕ) (name : List ℕ) (answer : Bool) (before so after : List HostEvent)
    (result : Result (List ℕ) E) → i < length names
    → name ≡ get_or names i name → answer ≡ true → after ≡ so ++ Tried name answer ∷ [] → Choosing names i before so
    → IfOk result (λ folder. folder ≡ name)
    → Noted before after (λ events. IfOk result (λ folder. Chooses names events folder))
chooses_it names i name answer before so after (Err e) below here says grown (events, is, so_far) same = (
  events ++ Tried name true ∷ [],
  grown ∙ ap (λ b. so ++ Tried name b ∷ []) says ∙ ap (λ e. e ++ Tried name true ∷ []) is
      ∙ append_assoc before events (Tried name true ∷ []),
  tt,
)
chooses_it names i name answer before so after (Ok folder) below here says grown (events, is, so_far) same = (
  events ++ Tried name true ∷ [],
  grown ∙ ap (λ b. so ++ Tried name b ∷ []) says ∙ ap (λ e. e ++ Tried name true ∷ []) is
      ∙ append_assoc before events (Tried name true ∷ []),
  subst (λ f. Chooses names (events ++ Tried name true ∷ []) f) (sym same)
      (so_far (Tried name true ∷ []) name
      (subst (λ xs. Chooses xs (Tried name true ∷ []) name)
      (sym (drop_more names i name below ∙ ap (λ x. x ∷ drop (i + 1) names) (sym here))) usable)),
)

-- For `first_usable`: if no folder is usable, then the folder of the call is the choice.
pub chooses_own : {E : Type 0} (names : List (List ℕ)) (i : ℕ) (before so : List HostEvent) (result : Result (List ℕ) E) → length names ≤ i
    → Choosing names i before so
    → IfOk result (λ folder. folder ≡ codes ".") → Noted before so (λ events. IfOk result (λ folder. Chooses names events folder))
chooses_own names i before so (Err e) past (events, is, so_far) same = (events, is, tt)
chooses_own names i before so (Ok folder) past (events, is, so_far) same = (
  events,
  is,
  subst (λ f. Chooses names events f) (sym same)
      (subst (λ e. Chooses names e (codes ".")) (append-nil events)
      (so_far [] (codes ".") (subst (λ xs. Chooses xs [] (codes ".")) (sym (drop_all i names past)) own))),
)

-- the same for what was tried

-- the names so far were tried, and the rest may be
abbrev pub Trying : List (List ℕ) → ℕ → List HostEvent → List HostEvent → Type 0
Trying names i before so = Noted before so (λ events. (more : List HostEvent) → Tries (drop i names) more → Tries names (events ++ more))

-- no folder was tried at first
pub tries_none_yet : (names : List (List ℕ)) (before : List HostEvent) → Trying names 0 before before
tries_none_yet names before = ([], sym (append-nil before), λ more tries. tries)

-- one folder more was tried in vain
pub tries_later : (names : List (List ℕ)) (i : ℕ) (name : List ℕ) (answer : Bool) (before so after : List HostEvent) → i < length names
    → name ≡ get_or names i name
    → answer ≡ false → after ≡ so ++ Tried name answer ∷ [] → Trying names i before so → Trying names (i + 1) before after
tries_later names i name answer before so after below here says grown (events, is, so_far) = (
  events ++ Tried name false ∷ [],
  grown ∙ ap (λ b. so ++ Tried name b ∷ []) says ∙ ap (λ e. e ++ Tried name false ∷ []) is
      ∙ append_assoc before events (Tried name false ∷ []),
  λ more tries.
      subst (λ e. Tries names e) (sym (append_assoc events (Tried name false ∷ []) more))
      (so_far (Tried name false ∷ more)
      (subst (λ xs. Tries xs (Tried name false ∷ more)) (sym (drop_more names i name below ∙ ap (λ x. x ∷ drop (i + 1) names) (sym here)))
      (tries_next tries))),
)

-- one folder more was tried, after which memory lacked
pub tries_it : (names : List (List ℕ)) (i : ℕ) (name : List ℕ) (answer : Bool) (before so after : List HostEvent) → i < length names
    → name ≡ get_or names i name
    → after ≡ so ++ Tried name answer ∷ [] → Trying names i before so → Noted before after (Tries names)
tries_it names i name answer before so after below here grown (events, is, so_far) = (
  events ++ Tried name answer ∷ [],
  grown ∙ ap (λ e. e ++ Tried name answer ∷ []) is ∙ append_assoc before events (Tried name answer ∷ []),
  so_far (Tried name answer ∷ [])
      (subst (λ xs. Tries xs (Tried name answer ∷ [])) (sym (drop_more names i name below ∙ ap (λ x. x ∷ drop (i + 1) names) (sym here)))
      tries_last),
)

-- memory lacked before the next folder was tried
pub tries_no_more : (names : List (List ℕ)) (i : ℕ) (before so after : List HostEvent) → after ≡ so → Trying names i before so
    → Noted before after (Tries names)
tries_no_more names i before so after same (events, is, so_far) =
    (events, same ∙ is, subst (λ e. Tries names e) (append-nil events) (so_far [] tries_none))

-- no choice for lack of memory
pub chooses_none : {X E : Type 0} (names : List (List ℕ)) (i : ℕ) (before so after : List HostEvent) (result : Result X E)
    (what : E → Type 0) (chosen : List HostEvent → X → Type 0)
    → Choosing names i before so → after ≡ so → IsErrAnd result what → Noted before after (λ events. IfOk result (chosen events))
chooses_none names i before so after (Ok x) what chosen choosing same is = absurd is
chooses_none names i before so after (Err e) what chosen (events, grown, so_far) same is = (events, same ∙ grown, tt)

-- the folder by its names

-- For `folder_asked`: if a folder was chosen among the names, then it is the folder of temporaries by all facts that extend these.
pub folder_chosen : {E : Type 0} (known : Facts) (names slice : List (List ℕ)) (before after : List HostEvent) (result : Result (List ℕ) E)
    → slice ≡ names
    → ((F : Facts) → Extends known F → folder_names F ≡ Is names)
    → Noted before after (λ events. IfOk result (λ folder. Chooses slice events folder))
    → Noted before after (λ events. (F : Facts) → Extends known F → IfOk result (λ folder. IsFolder F events folder))
folder_chosen known names slice before after (Err e) same told (events, grown, chooses) = (events, grown, λ F e. tt)
folder_chosen known names slice before after (Ok folder) same told (events, grown, chooses) =
    (events, grown, λ F e. (names, told F e, subst (λ xs. Chooses xs events folder) same chooses))

-- For `folder_asked`: if memory lacked, then some of the names were tried.
pub folder_tried : (known : Facts) (names slice : List (List ℕ)) (before after : List HostEvent) → slice ≡ names
    → ((F : Facts) → Extends known F → folder_names F ≡ Is names) → Noted before after (Tries slice)
    → Noted before after (λ events. (F : Facts) → Extends known F → IsTried F events)
folder_tried known names slice before after same told (events, grown, tries) =
    (events, grown, λ F e. inr (names, told F e, subst (λ xs. Tries xs events) same tries))

-- For `folder_asked`: if memory lacked for the names, then none was tried.
pub nothing_tried : (known : Facts) (notes : List HostEvent)
    → Noted notes notes (λ events. (F : Facts) → Extends known F → IsTried F events)
nothing_tried known notes = ([], sym (append-nil notes), λ F e. inl refl)

-- a table with the folder

-- the table tells a name from another that is not the same
apart_at : (name key : List ℕ) (same : Bool) → is_at (slice_cmp nat_cmp name) key ≡ same → name ≢ key
    → is_at (slice_cmp nat_cmp name) key ≡ false
apart_at name key true is apart = absurd (apart (exact_bytes name key ((Equal-is (slice_cmp nat_cmp name key)).0 is)))
apart_at name key false is apart = is

-- For `settle`: if the folder is put in the place of TMPDIR, then the table is settled: all else is as it was.
pub settled_with : (F : Facts) (folder : List ℕ) → IsSettled F folder (with_value F (codes "TMPDIR") (Some folder))
settled_with F folder = record {
  reads = λ path. refl;
  kinds = λ path. refl;
  variables = λ name apart. pair_elsewhere F.variables (codes "TMPDIR") name (Some folder)
      (apart_at name (codes "TMPDIR") (is_at (slice_cmp nat_cmp name) (codes "TMPDIR")) refl apart);
  folder_is = pair_here F.variables (codes "TMPDIR") (Some folder);
}

-- one answer more in both

-- a table has the same answers as another where both learn one more
answers_alike : {Y : Type 0} (gs fs : List (List ℕ × Y)) (key other : List ℕ) (answer : Y) → answer_to gs other ≡ answer_to fs other
    → answer_to (with_answer gs key answer) other ≡ answer_to (with_answer fs key answer) other
answers_alike gs fs key other answer same =
    answer_to-with_answer gs key other answer
    ∙ ap (λ known. option_or known (if is_at (slice_cmp nat_cmp other) key then Some answer else None)) same
    ∙ sym (answer_to-with_answer fs key other answer)

-- what a table knows is not asked again
not_new : {X : Type 0} {x : X} {known : Option X} → known ≡ Some x → known ≡ None → ⊥
not_new had new = absurd (false≢true (sym (ap is_some new) ∙ ap is_some had))

-- an answer that is new to the table with the folder is new to that without it
settled_learnt : (F G : Facts) (folder : List ℕ) (event : Event) → IsSettled F folder G → IsNew G event
    → IsNew F event × IsSettled (learnt F event) folder (learnt G event)
settled_learnt F G folder (Read path answer) is new = (
  sym (is.reads path) ∙ new,
  record {
    reads = λ other. answers_alike G.reads F.reads path other answer (is.reads other);
    kinds = is.kinds;
    variables = is.variables;
    folder_is = is.folder_is;
  },
)
settled_learnt F G folder (Kind path kind) is new = (
  sym (is.kinds path) ∙ new,
  record {
    reads = is.reads;
    kinds = λ other. answers_alike G.kinds F.kinds path other kind (is.kinds other);
    variables = is.variables;
    folder_is = is.folder_is;
  },
)
settled_learnt F G folder (Variable name value) is new = (
  sym (is.variables name (λ same. not_new is.folder_is (subst (λ n. variable_of G n ≡ None) same new))) ∙ new,
  record {
    reads = is.reads;
    kinds = is.kinds;
    variables = λ other apart. answers_alike G.variables F.variables name other value (is.variables other apart);
    folder_is = keeps_answers G.variables name (codes "TMPDIR") value (Some folder) is.folder_is;
  },
)
settled_learnt F G folder (Say text answer) is new = absurd new
settled_learnt F G folder (Put text answer) is new = absurd new
settled_learnt F G folder (Run e) is new = absurd new

-- all answers that are new to the table with the folder are new to that without it: no question was asked twice
settled_learn : (F G : Facts) (folder : List ℕ) (events : List Event) → IsSettled F folder G → AreNew G events
    → AreNew F events × IsSettled (learn F events) folder (learn G events)
settled_learn F G folder [] is new = (tt, is)
settled_learn F G folder (event ∷ events) is new =
    let one = settled_learnt F G folder event is new.0 in
    let rest = settled_learn (learnt F event) (learnt G event) folder events one.1 new.1 in ((one.0, rest.0), rest.1)

-- what a call goes by

-- For `settle`: if memory lacked before the first question, then nothing was asked.
pub nothing_begun : (journal : List Event) (notes : List HostEvent) → BeginsToGo journal journal notes notes
nothing_begun journal notes = record {
  asked = [];
  tried = [];
  questions = tt;
  journal_grows = sym (append-nil journal);
  notes_grow =
      sym (append-nil notes);
  is_tried = inl refl;
}

-- For `settle`: if memory lacked before there is a folder, then the questions and tries so far are those of the call.
pub begun : {journal journal' : List Event} {F known : Facts} {notes notes' : List HostEvent} → F ≡ no_facts → Asks journal journal' F known
    → Noted notes notes' (λ events. (G : Facts) → Extends known G → IsTried G events) → BeginsToGo journal journal' notes notes'
begun {known = known} empty asks (tried, grown, is_tried) =
    let known_is : known ≡ learn no_facts asks.asked = asks.facts_grow ∙ ap (λ G. learn G asks.asked) empty in record {
      asked = asks.asked;
      tried = tried;
      questions = subst (λ G. AreNew G asks.asked) empty asks.questions;
      journal_grows = asks.journal_grows;
      notes_grow = grown;
      is_tried = subst (λ G. IsTried G tried) known_is (is_tried known (extends_refl known));
    }

-- a call for whose folder memory lacked goes by no facts
pub tried_goes : {asked : List Event} {tried : List HostEvent} → IsTried (learn no_facts asked) tried
    → GoesBy asked tried OutOfMemory no_facts
tried_goes {asked} (inl none) = subst (λ t. GoesBy asked t OutOfMemory no_facts) (sym none) unnamed
tried_goes (inr (names, known, tries)) = unsettled known tries

-- For `settle`: if there is a folder, then the call goes by the table with it.
pub going : {journal journal' : List Event} {F known : Facts} {notes notes' : List HostEvent} (folder : List ℕ) (table : Facts)
    → F ≡ no_facts
    → Asks journal journal' F known → Noted notes notes' (λ events. (G : Facts) → Extends known G → IsFolder G events folder)
    → table ≡ with_value known (codes "TMPDIR") (Some folder) → Going journal journal' notes notes' table
going {known = known} folder table empty asks (tried, grown, is_folder) put =
    let known_is : known ≡ learn no_facts asks.asked = asks.facts_grow ∙ ap (λ G. learn G asks.asked) empty in record {
      asked = asks.asked;
      tried = tried;
      folder = folder;
      questions = subst (λ G. AreNew G asks.asked) empty asks.questions;
      journal_grows = asks.journal_grows;
      notes_grow = grown;
      is_folder = λ G e. is_folder G (subst (λ K. Extends K G) (sym known_is) e);
      settles = subst (λ K. IsSettled K folder table) known_is
          (subst (λ T. IsSettled known folder T) (sym put) (settled_with known folder));
    }

-- For `settle`: the same, if the code put the folder under its own copy of the name TMPDIR.
pub table_settled : {X E : Type 0} {journal journal' : List Event} {F known : Facts} (notes notes' : List HostEvent) (result : Result X E)
    (folder name : List ℕ)
    (before table : Facts) → name ≡ codes "TMPDIR" → before ≡ known → F ≡ no_facts → Asks journal journal' F known
    → Noted notes notes' (λ events. (G : Facts) → Extends known G → IsFolder G events folder)
    → OnOk result (table ≡ with_value before name (Some folder))
    → OnOk result (Going journal journal' notes notes' table)
table_settled notes notes' (Err e) folder name before table named same empty asks chosen put = tt
table_settled notes notes' (Ok x) folder name before table named same empty asks chosen put =
    going folder table empty asks chosen (put ∙ ap (λ n. with_value before n (Some folder)) named
    ∙ ap (λ K. with_value K (codes "TMPDIR") (Some folder)) same)

-- For `compile_settled`: if a call goes by a folder and asks more, then it still goes by that folder.
pub going_further : {journal mid journal' : List Event} {notes notes' : List HostEvent} {G G' : Facts} → Going journal mid notes notes' G
    → Asks mid journal' G G'
    → Going journal journal' notes notes' G'
going_further {journal} {G = G} {G' = G'} before asks =
    let both = settled_learn (learn no_facts before.asked) G before.folder asks.asked before.settles asks.questions in
    let grown = learn-append no_facts before.asked asks.asked in record {
      asked = before.asked ++ asks.asked;
      tried = before.tried;
      folder = before.folder;
      questions = new_append no_facts before.asked asks.asked before.questions both.0;
      journal_grows = asks.journal_grows ∙ ap (λ j. j ++ asks.asked) before.journal_grows ∙ append_assoc journal before.asked asks.asked;
      notes_grow = before.notes_grow;
      is_folder = λ F e. before.is_folder F (extends_then
          (subst (λ K. Extends (learn no_facts before.asked) K) (sym grown) (learn_extends (learn no_facts before.asked) asks.asked)) e);
      settles =
          subst (λ K. IsSettled K before.folder G') (sym grown)
          (subst (λ T. IsSettled (learn (learn no_facts before.asked) asks.asked) before.folder T) (sym asks.facts_grow) both.1);
    }

-- a call with a folder goes by it
by_folder : {asked : List Event} {tried : List HostEvent} {folder : List ℕ} {G : Facts} {outcome : Outcome}
    → IsFolder (learn no_facts asked) tried folder
    → IsSettled (learn no_facts asked) folder G → GoesBy asked tried outcome G
by_folder (names, known, chooses) settles = settled known chooses settles

-- each call that has a folder goes by it, however it ends
pub goes_by : {journal journal' : List Event} {notes notes' : List HostEvent} {G : Facts} (outcome : Outcome)
    (all : Going journal journal' notes notes' G)
    → GoesBy all.asked all.tried outcome G
goes_by outcome all = by_folder (all.is_folder (learn no_facts all.asked) (extends_refl (learn no_facts all.asked))) all.settles

-- questions start nothing, so no pipe is pending after `settle`
pub no_pipe_begun : {journal journal' : List Event} {notes notes' : List HostEvent} → BeginsToGo journal journal' notes notes'
    → pipe_pending (run_of journal) ≡ false
    → pipe_pending (run_of journal') ≡ false
no_pipe_begun {journal} {journal'} before none = no_pipe_after_questions (asks_of before) none
  where
    -- Plan: `asks_of` says that the journal grew by questions alone.
    asks_of : {notes notes' : List HostEvent} (b : BeginsToGo journal journal' notes notes')
        → Asks journal journal' no_facts (learn no_facts b.asked)
    asks_of b = record { asked = b.asked; questions = b.questions; journal_grows = b.journal_grows; facts_grow = refl }
