use Rattle.drv_args.specs.declared.items.Item.{Item}
use Rattle.drv_cc.specs.Front.{answer_of, front_of}
use Rattle.drv_cc.specs.Items.{items_of}
use Rattle.drv_cc.specs.UnknownWords.{has_unknown}
use Rattle.drv_cc.specs.declared.answer.Answer.TheVariants.{Ask, Refuse, Run}
use Rattle.drv_cc.specs.declared.answer.Answer.{Answer}
use Rattle.drv_cc.specs.declared.answer.Surroundings.{Surroundings}
use Rattle.drv_cc.specs.declared.item.Item.{Item as Read}
use Rattle.drv_cc.specs.declared.refusal.Refusal.{Refusal}
use Rattle.drv_compile.specs.Beside.{bytes_read, known_names}
use Rattle.drv_compile.specs.Code.Naming.{items_at, items_beside, items_named}
use Rattle.drv_compile.specs.Places.{companion}
use Rattle.drv_compile.specs.Reading.{answer_names, file_names, files_names, folders_given, items_names, kept, known_answer}
use Rattle.drv_compile.specs.Reading.{line_read, names_read, or_by_files, read_beside, read_by, reads_again, refused_answer, specs_given}
use Rattle.drv_compile.specs.Reading.{unknown_switches}
use Rattle.drv_compile.specs.Written.{whole_lines}
use Rattle.drv_compile.specs.declared.reading.Reading.{Reading}
use Rattle.drv_search.specs.Search.{Adds, file_found, is_plain, prefixes_of}
use Rattle.drv_search.specs.declared.prefixes.Prefixes.{Prefixes}
use Rattle.drv_system.specs.Facts.{Facts, kind_of, read_of}
use Rattle.drv_system.specs.Known.{◌>>=◌, Is, Known, Unasked}
use Rattle.drv_system.specs.declared.event.PathKind.{PathKind}
use Rattle.drv_system.specs.declared.event.ReadAnswer.TheVariants as read_answer
use Rattle.drv_system.specs.declared.event.ReadAnswer.{ReadAnswer}
use Rattle.std.proofs.Common.{◌≡◌, ◌<◌, ◌+◌, ◌∙◌, ◌∷◌, ◌++◌, [], Bool, Err, IfOk, List, None, Ok, OnOk, Option, Result, Some, ap}
use Rattle.std.proofs.Common.{append_assoc, codes, drop, false, length, refl, sym, true, ℕ}
use Rattle.std.proofs.lemmas.Bool.{false≢true}
use Rattle.std.proofs.lemmas.List.{drop_more}
use Rattle.std.specs.Option.{option_and_then, unwrap_or}
use Rattle.std.specs.Prelude.{get_or}

-- For the reading of a line (src/reading.rt and src/naming.rt): the names that its files list, and the answer by them.
-- Names: `F` is what is known of the outside. `specs` is the path of the spec file. `words` is the words of the line, and `items` the same
-- as items. `around` is the compiler and its folders. `known` is the text of options beyond the table. `names` and `named` are names that
-- files list. `files` is the spec files of the line, and `file` the one at index `i`. `done` and `after` are the names before that file and
-- after it. `answer` is the answer to the line, `refusals` what it refuses, and `slice` a list as the code lends it. `result` is what the
-- code's call gives. `Adds names before after`: these names were added (drv_search). `items_of`, `answer_of` and `front_of` are drv_cc's:
-- the items of words, and the answer by items and by words. `known_answer`, `refused_answer` and `read_beside` are in specs/Reading.

-- the names so far, and then others
abbrev pub after_names : List (List ℕ) → Known (List (List ℕ)) → Known (List (List ℕ))
after_names done others = others >>= λ names. Is (done ++ names)

-- names that are added are the first of those still to come
following_more : (done after names : List (List ℕ)) (others : Known (List (List ℕ))) → after ≡ done ++ names
    → after_names after others ≡ after_names done (others >>= λ rest. Is (names ++ rest))
following_more done after names Unasked is = refl
following_more done after names (Is rest) is = rw (is, append_assoc) refl

-- If no names are there yet, all of them are still to come: so `files_names` begins.
pub names_begin : (others : Known (List (List ℕ))) → after_names [] others ≡ others
names_begin Unasked = refl
names_begin (Is names) = refl

-- one file more
pub file_more : (F : Facts) (prefixes : Prefixes) (files : List (List ℕ)) (i : ℕ) (file : List ℕ) (done after : List (List ℕ))
    → i < length files → file ≡ get_or files i file → Adds (file_names F prefixes file) done after
    → after_names done (files_names F prefixes (drop i files)) ≡ files_names F prefixes files
    → after_names after (files_names F prefixes (drop (i + 1) files)) ≡ files_names F prefixes files
file_more F prefixes files i file done after below here (names, is, grown) so_far =
    following_more done after names (files_names F prefixes (drop (i + 1) files)) grown
    ∙ ap (after_names done) (sym (
    ap (files_names F prefixes) (drop_more files i file below ∙ ap (λ f. f ∷ drop (i + 1) files) (sym here))
    ∙ ap (λ known. known >>= λ some. files_names F prefixes (drop (i + 1) files) >>= λ others. Is (some ++ others)) is))
    ∙ so_far

-- the names of one file, which was found and read
pub file_read : {X E : Type 0} (F : Facts) (prefixes : Prefixes) (file path : List ℕ) (answer : ReadAnswer) (before after : List (List ℕ))
    (result : Result X E)
    → file_found F prefixes file ≡ Is path → read_of F path ≡ Some answer → OnOk result (after ≡ before ++ names_read answer)
    → OnOk result (Adds (file_names F prefixes file) before after)
file_read F prefixes file path answer before after (Ok x) found read grown = (names_read answer, rw (found, read) refl, grown)
file_read F prefixes file path answer before after (Err e) found read grown = tt

-- those of items of the driver's line
pub items_read : {E : Type 0} (F : Facts) (items : List Item) (dirs files : List (List ℕ)) (prefixes : Prefixes)
    (result : Result (List (List ℕ)) E)
    → dirs ≡ folders_given items → files ≡ specs_given items → prefixes_of F dirs ≡ Is prefixes
    → IfOk result (λ names. files_names F prefixes files ≡ Is names) → IfOk result (λ names. items_names F items ≡ Is names)
items_read F items dirs files prefixes (Err e) dirs_are files_are made is = tt
items_read F items dirs files prefixes (Ok names) dirs_are files_are made is = rw (sym dirs_are, sym files_are, made) is

-- the answer to a line that is refused without its spec files
pub refused_read : {E : Type 0} (F : Facts) (known : List ℕ) (around : Surroundings) (words : List (List ℕ)) (refusals : List Refusal)
    (switches : List (List ℕ)) (taken : Answer) (named slice : List (List ℕ)) (result : Result Answer E)
    → switches ≡ unknown_switches refusals → taken ≡ front_of known switches around words → answer_names F taken ≡ Is named → slice ≡ named
    → IfOk result (λ answer. answer ≡ front_of known slice around words)
    → IfOk result (λ answer. refused_answer F known around words refusals ≡ Is answer)
refused_read F known around words refusals switches taken named slice (Err e) switches_are taken_is names same is = tt
refused_read F known around words refusals switches taken named slice (Ok answer) switches_are taken_is names same is =
    ap (λ a. answer_names F a >>= λ n. Is (front_of known n around words))
    (ap (λ s. front_of known s around words) (sym switches_are) ∙ sym taken_is)
    ∙ ap (λ k. k >>= λ n. Is (front_of known n around words)) names
    ∙ ap (λ n. Is (front_of known n around words)) (sym same)
    ∙ ap Is (sym is)

-- the same of items that were read by these names
pub refused_again : {E : Type 0} (F : Facts) (known : List ℕ) (around : Surroundings) (words : List (List ℕ)) (refusals : List Refusal)
    (items : List Read) (switches : List (List ℕ)) (taken : Answer) (named slice : List (List ℕ)) (result : Result Answer E)
    → items ≡ items_of known None words → switches ≡ unknown_switches refusals → taken ≡ answer_of switches around items
    → answer_names F taken ≡ Is named → slice ≡ named → IfOk result (λ answer. answer ≡ answer_of slice around items)
    → IfOk result (λ answer. refused_answer F known around words refusals ≡ Is answer)
refused_again {E = E} F known around words refusals items switches taken named slice (Err e) items_are switches_are taken_is names same is =
    tt
refused_again {E = E} F known around words refusals items switches taken named slice
    (Ok answer) items_are switches_are taken_is names same is =
    refused_read {E = E} F known around words refusals switches taken named slice (Ok answer) switches_are
    (taken_is ∙ ap (answer_of switches around) items_are) names same
    (is ∙ ap (answer_of slice around) items_are)

-- the answer to a line that is not refused, and to one that is
ended : (F : Facts) (known : List ℕ) (around : Surroundings) (words : List (List ℕ)) (answer : Answer)
    → ((refusals : List Refusal) → answer ≡ Refuse refusals → ⊥) → or_by_files F known around words answer ≡ Is answer
ended F known around words Ask not_refused = refl
ended F known around words (Refuse refusals) not_refused = absurd (not_refused refusals refl)
ended F known around words (Run call) not_refused = refl

-- For `known_answer`: if the first answer is no refusal, then it is the answer.
pub known_ended : (F : Facts) (known : List ℕ) (around : Surroundings) (words : List (List ℕ)) (items : List Read) (answer : Answer)
    → items ≡ items_of known None words → answer ≡ answer_of [] around items → ((refusals : List Refusal) → answer ≡ Refuse refusals → ⊥)
    → known_answer F known around words ≡ Is answer
known_ended F known around words items answer items_are is not_refused =
    ap (or_by_files F known around words) (ap (answer_of [] around) (sym items_are) ∙ sym is)
    ∙ ended F known around words answer not_refused

-- For `known_answer`: if the line is refused at first, then the answer by its spec files is the answer.
pub known_refused : {E : Type 0} (F : Facts) (known : List ℕ) (around : Surroundings) (words : List (List ℕ)) (items : List Read)
    (answer : Answer)
    (refusals slice : List Refusal) (result : Result Answer E) → items ≡ items_of known None words → answer ≡ answer_of [] around items
    → answer ≡ Refuse refusals → slice ≡ refusals → IfOk result (λ a. refused_answer F known around words slice ≡ Is a)
    → IfOk result (λ a. known_answer F known around words ≡ Is a)
known_refused F known around words items answer refusals slice (Err e) items_are is refused same ends = tt
known_refused F known around words items answer refusals slice (Ok a) items_are is refused same ends =
    ap (or_by_files F known around words) (ap (answer_of [] around) (sym items_are) ∙ sym is ∙ refused)
    ∙ ap (refused_answer F known around words) (sym same) ∙ ends

-- with names of options that are known, or without them

-- whether something was asked, and found
abbrev is_there : {X : Type 0} → Known (Option X) → Bool
is_there Unasked = false
is_there (Is None) = false
is_there (Is (Some x)) = true

-- whether it was asked
abbrev is_asked : {X : Type 0} → Known X → Bool
is_asked Unasked = false
is_asked (Is x) = true

-- what was found, or nothing
abbrev or_nothing : {X : Type 0} → Known (Option (List X)) → List X
or_nothing Unasked = []
or_nothing (Is None) = []
or_nothing (Is (Some xs)) = xs

-- For `items_in`: if the file of names was read and is whole, then the items by its names are those that the definition has.
pub whole_named : (words : List (List ℕ)) (answer : ReadAnswer) (text slice : List ℕ) (found : Option (List ℕ)) (names : List ℕ)
    (named : List Read)
    → answer ≡ read_answer.Read text → slice ≡ text → found ≡ whole_lines slice → found ≡ Some names → named ≡ items_of names None words
    → Some named ≡ items_named words (option_and_then whole_lines (bytes_read answer))
whole_named words answer text slice found names named is same seen some named_is =
    ap Some named_is ∙ ap (items_named words) (sym some ∙ seen ∙ ap whole_lines same)
    ∙ ap (λ a. items_named words (option_and_then whole_lines (bytes_read a))) (sym is)

-- For `items_at`: if the path is a plain file and was read, then the result is the items by its names.
pub items_read_at : {E : Type 0} (F : Facts) (path : List ℕ) (words : List (List ℕ)) (kind : PathKind) (answer : ReadAnswer)
    (result : Result (Option (List Read)) E)
    → is_plain kind ≡ true → kind_of F path ≡ Some kind → read_of F path ≡ Some answer
    → IfOk result (λ named. named ≡ items_named words (option_and_then whole_lines (bytes_read answer)))
    → IfOk result (λ named. items_at F path words ≡ Is named)
items_read_at F path words kind answer (Ok named) plain known read is = rw (known, plain, read, is) refl
items_read_at F path words kind answer (Err e) plain known read is = tt

-- For `items_beside`: if the path is that beside the spec file, then the items by it are those beside the spec file.
pub items_known : {E : Type 0} (F : Facts) (specs path : List ℕ) (words : List (List ℕ)) (result : Result (Option (List Read)) E)
    → path ≡ companion specs (codes ".options")
    → IfOk result (λ named. items_at F path words ≡ Is named) → IfOk result (λ named. items_beside F specs words ≡ Is named)
items_known F specs path words (Ok named) is read = ap (λ p. items_at F p words) (sym is) ∙ read
items_known F specs path words (Err e) is read = tt

-- For `names_kept`: if the answer needs the names again, then those that were found are those that it keeps.
pub kept_so : (F : Facts) (specs : List ℕ) (answer : Answer) (known : List ℕ) (found : Option (List ℕ)) (names : List ℕ)
    → reads_again answer ≡ true
    → known_names F specs ≡ Is (Some known) → known_names F specs ≡ Is found → names ≡ unwrap_or found [] → names ≡ kept answer known
kept_so F specs answer known found names reads some is names_are = rw reads (names_are ∙ from_found found ∙ ap or_nothing (sym is ∙ some))
  where
    -- Plan: `from_found` says that no names are the names of nothing.
    from_found : (found : Option (List ℕ)) → unwrap_or found [] ≡ or_nothing (Is found)
    from_found None = refl
    from_found (Some xs) = refl

-- For `read_by`: if the items were read by the names beside the spec file, then the answer by them is the line's reading.
pub read_named : (F : Facts) (specs : List ℕ) (around : Surroundings) (words : List (List ℕ)) (named : Option (List Read))
    (items : List Read) (answer : Answer) (names : List ℕ)
    → items_beside F specs words ≡ Is named → named ≡ Some items
    → ((known : List ℕ) → items ≡ items_of known None words → known_answer F known around words ≡ Is answer)
    → ((known : List ℕ) → known_names F specs ≡ Is (Some known) → names ≡ kept answer known)
    → read_beside F specs around words ≡ Is (Some (record { known = names; answer = answer }))
read_named F specs around words named items answer names asked some answers keeps = by (known_names F specs) refl asked
  where
    -- Plan: `by` goes by whether the names beside the spec file were asked for, and whether that file is whole.
    by : (found : Known (Option (List ℕ))) → known_names F specs ≡ found → (found >>= λ known. Is (items_named words known)) ≡ Is named
        → (found >>= λ known. read_by F around words known) ≡ Is (Some (record { known = names; answer = answer }))
    by Unasked is none = absurd (false≢true (ap is_there (none ∙ ap Is some)))
    by (Is None) is none = absurd (false≢true (ap is_there (none ∙ ap Is some)))
    by (Is (Some known)) is there =
        ap (λ k. k >>= λ a. Is (Some (record { known = kept a known; answer = a })))
        (answers known (sym (ap or_nothing (there ∙ ap Is some))))
        ∙ ap (λ n. Is (Some (record { known = n; answer = answer }))) (sym (keeps known is))

-- For `read_by`: if the file with the names isn't whole, then the line has no reading.
pub read_unnamed : (F : Facts) (specs : List ℕ) (around : Surroundings) (words : List (List ℕ)) (named : Option (List Read))
    → items_beside F specs words ≡ Is named → named ≡ None → read_beside F specs around words ≡ Is None
read_unnamed F specs around words named asked none = by (known_names F specs) asked
  where
    -- Plan: `by` goes by whether the names beside the spec file were asked for, and whether that file is whole.
    by : (found : Known (Option (List ℕ))) → (found >>= λ known. Is (items_named words known)) ≡ Is named
        → (found >>= λ known. read_by F around words known) ≡ Is None
    by Unasked is = absurd (false≢true (ap is_asked is))
    by (Is None) is = refl
    by (Is (Some known)) is = absurd (false≢true (sym (ap is_there (is ∙ ap Is none))))

-- a line with an unknown word
pub line_unknown : {E : Type 0} (F : Facts) (specs : List ℕ) (around : Surroundings) (words : List (List ℕ)) (items : List Read)
    (result : Result (Option Reading) E)
    → items ≡ items_of [] None words → has_unknown items ≡ true
    → IfOk result (λ reading. read_beside F specs around words ≡ Is reading)
    → IfOk result (λ reading. line_read F specs around words ≡ Is reading)
line_unknown F specs around words items (Err e) are unknown reading_is = tt
line_unknown F specs around words items (Ok reading) are unknown reading_is =
    rw (ap has_unknown (sym are) ∙ unknown) reading_is

-- a line without one
pub line_known : (F : Facts) (specs : List ℕ) (around : Surroundings) (words : List (List ℕ)) (items : List Read) (answer : Answer)
    (known : List ℕ)
    → items ≡ items_of [] None words → has_unknown items ≡ false → answer ≡ answer_of [] around items → known ≡ []
    → line_read F specs around words ≡ Is (Some (record { known = known; answer = answer }))
line_known F specs around words items answer known are none is empty =
    rw (ap has_unknown (sym are) ∙ none)
    (ap (λ a. Is (Some (record { known = []; answer = a }))) (ap (answer_of [] around) (sym are) ∙ sym is)
    ∙ ap (λ k. Is (Some (record { known = k; answer = answer }))) (sym empty))
