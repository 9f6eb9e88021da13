use Rattle.drv_search.specs.Search.{Adds, ends_with_slash, folders_under, is_dir, machine_folder, option_for, options_for, without_slash}
use Rattle.drv_system.specs.Facts.{Facts, kind_of}
use Rattle.drv_system.specs.Known.{◌>>=◌, Is, Known, Unasked, asked}
use Rattle.drv_system.specs.declared.event.PathKind.{PathKind}
use Rattle.std.proofs.Common.{◌≡◌, ◌<◌, ◌+◌, ◌∙◌, List, [], ◌∷◌, ◌++◌, None, OnOk, Err, Ok, Option, Result, Some, ap, append_assoc, codes}
use Rattle.std.proofs.Common.{drop, false, length, flat_map, refl, sym, true, ℕ}
use Rattle.std.proofs.lemmas.List.{append-nil, drop_more}
use Rattle.std.specs.Prelude.{get_or}

-- For `dir_options`: the options for folders, one after another.
-- Names: `F` is what is known of the outside. `prefix` is a prefix: what is put before a name, often a folder with its slash. `prefixes` is
-- the prefixes in the order of the search. `others` is the prefixes, folders or candidates that follow. `folder` is one folder. `folders`
-- is folders in order. `options` is the options so far. `after` is the options (or prefixes) after one more. `done` is the options or
-- prefixes before. `options_for F folders` is a -L for each folder that is there. `folders_under prefix` is the folders of libraries under
-- a prefix. `Is` is a value that the facts give. `Adds defined before after` says that the defined options were added. `Known` is a value,
-- or `Unasked` if the facts lack an answer. `option_for` is that of one folder. `kind_of F path` is the known kind of a path, if it was
-- asked. `without_slash`: a path without its last byte, except for the root. `machine_folder`: the folder of the machine under a prefix.

-- the options so far, followed by others
abbrev pub after_options : List (List ℕ) → Known (List (List ℕ)) → Known (List (List ℕ))
after_options done others = others >>= λ options. Is (done ++ options)

-- options after options after those of the rest
after_append : (done more : List (List ℕ)) (others : Known (List (List ℕ))) → (after_options done (after_options more others))
    ≡ after_options (done ++ more) others
after_append done more Unasked = refl
after_append done more (Is options) = rw append_assoc refl

-- the options of two lists, by the kind of the first folder
options_by : (F : Facts) (folder : List ℕ) (folders others : List (List ℕ)) (known : Option PathKind)
    → options_for F (folders ++ others) ≡ (options_for F folders >>= λ options. after_options options (options_for F others))
    → (asked known >>= λ kind. options_for F (folders ++ others) >>= λ options. Is (option_for folder kind ++ options))
    ≡ ((asked known >>= λ kind. options_for F folders >>= λ options. Is (option_for folder kind ++ options)) >>= λ options. after_options
    options (options_for F others))
options_by F folder folders others None later = refl
options_by F folder folders others (Some kind) later = rw later (by (options_for F folders) (options_for F others))
  where
    by : (first second : Known (List (List ℕ)))
        → ((first >>= λ options. after_options options second) >>= λ options. Is (option_for folder kind ++ options))
        ≡ ((first >>= λ options. Is (option_for folder kind ++ options)) >>= λ options. after_options options second)
    by Unasked second = refl
    by (Is options) second = after_append (option_for folder kind) options second

-- nothing before the options of the rest
following_none : (others : Known (List (List ℕ))) → after_options [] others ≡ others
following_none Unasked = refl
following_none (Is options) = refl

-- the options of two lists are those of the first, and then those of the second
pub options-append : (F : Facts) (folders others : List (List ℕ))
    → options_for F (folders ++ others) ≡ (options_for F folders >>= λ options. after_options options (options_for F others))
options-append F [] others = sym (following_none (options_for F others))
options-append F (folder ∷ folders) others = options_by F folder folders others (kind_of F folder) (options-append F folders others)

-- the options of some more folders
pub options_more : (F : Facts) (done after more : List (List ℕ)) (folders others : List (List ℕ)) → options_for F folders ≡ Is more
    → after ≡ done ++ more
    → after_options after (options_for F others) ≡ after_options done (options_for F (folders ++ others))
options_more F done after more folders others is grown =
    ap (λ before. after_options before (options_for F others)) grown
    ∙ sym (after_append done more (options_for F others))
    ∙ ap (after_options done)
    (sym (options-append F folders others ∙ ap (λ known. known >>= λ options. after_options options (options_for F others)) is))

-- the folders under one more prefix
pub prefix_options : (F : Facts) (done after : List (List ℕ)) (prefix : List ℕ) (others : List (List ℕ))
    → Adds (options_for F (folders_under prefix)) done after
    → after_options after (options_for F (flat_map folders_under others)) ≡ after_options done
    (options_for F (flat_map folders_under (prefix ∷ others)))
prefix_options F done after prefix others (more, is, grown) = options_more F done after more (folders_under prefix)
    (flat_map folders_under others) is grown

-- a path whose kind was asked for
pub no_option : (F : Facts) (folder : List ℕ) (kind : PathKind) (options : List (List ℕ)) → kind_of F folder ≡ Some kind
    → is_dir kind ≡ false → Adds (options_for F (folder ∷ [])) options options
no_option F folder kind options known bare = ([], rw (known, bare) refl, sym (append-nil options))

-- a folder that is there adds its option
pub one_option : (F : Facts) (folder option : List ℕ) (kind : PathKind) (options after : List (List ℕ)) → kind_of F folder ≡ Some kind
    → is_dir kind ≡ true
    → option ≡ codes "-L" ++ folder → after ≡ options ++ option ∷ [] → Adds (options_for F (folder ∷ [])) options after
one_option F folder option kind options after known folds named grown = (option ∷ [], rw (known, folds, named) refl, grown)

-- a prefix that is no folder adds the option of the machine's folder alone
pub one_folder : (F : Facts) (prefix : List ℕ) (options after : List (List ℕ)) → ends_with_slash prefix ≡ false
    → Adds (options_for F (without_slash (prefix ++ machine_folder) ∷ [])) options after
    → Adds (options_for F (folders_under prefix)) options after
one_folder F prefix options after bare (more, first, grown) = (more, rw bare first, grown)

-- a prefix adds the options of the machine's folder and of its own
pub two_folders : {E : Type 0} (F : Facts) (prefix : List ℕ) (options mid after : List (List ℕ)) (result : Result (Unit {0}) E)
    → ends_with_slash prefix ≡ true
    → Adds (options_for F (without_slash (prefix ++ machine_folder) ∷ [])) options mid
    → OnOk result (Adds (options_for F (without_slash prefix ∷ [])) mid after)
    → OnOk result (Adds (options_for F (folders_under prefix)) options after)
two_folders F prefix options mid after (Err e) ends added rest = tt
two_folders F prefix options mid after (Ok u) ends (more, first, grown) (others, second, grown') = (
  more ++ others,
  rw ends (options-append F (without_slash (prefix ++ machine_folder) ∷ []) (without_slash prefix ∷ [])
      ∙ ap (λ known. known >>= λ options. after_options options (options_for F (without_slash prefix ∷ []))) first
      ∙ ap (after_options more) second),
  grown' ∙ ap (λ os. os ++ others) grown ∙ append_assoc options more others,
)

-- one more prefix, by its bytes, and the end of the list
pub prefix_done : (F : Facts) (prefixes : List (List ℕ)) (i : ℕ) (prefix bytes : List ℕ) (done after : List (List ℕ))
    (all : Known (List (List ℕ))) → i < length prefixes → prefix ≡ get_or prefixes i prefix → bytes ≡ prefix
    → Adds (options_for F (folders_under bytes)) done after
    → after_options done (options_for F (flat_map folders_under (drop i prefixes))) ≡ all
    → after_options after (options_for F (flat_map folders_under (drop (i + 1) prefixes))) ≡ all
prefix_done F prefixes i prefix bytes done after all below here is (more, given, grown) so_far =
    prefix_options F done after prefix (drop (i + 1) prefixes) (more, ap (λ p. options_for F (folders_under p)) (sym is) ∙ given, grown)
    ∙ ap (λ ps. after_options done (options_for F (flat_map folders_under ps)))
    (sym (drop_more prefixes i prefix below ∙ ap (λ p. p ∷ drop (i + 1) prefixes) (sym here)))
    ∙ so_far

-- the options that were added are those of the definition
added : (all : Known (List (List ℕ))) (before after : List (List ℕ)) → Is after ≡ after_options before all → Adds all before after
added Unasked before after is = absurd cc
added (Is more) before after is = (more, refl, cc)

-- once no prefix is left, all options were added
pub all_added : (F : Facts) (prefixes before after : List (List ℕ)) (i : ℕ) → drop i prefixes ≡ []
    → after_options after (options_for F (flat_map folders_under (drop i prefixes))) ≡ after_options before
    (options_for F (flat_map folders_under prefixes))
    → Adds (options_for F (flat_map folders_under prefixes)) before after
all_added F prefixes before after i none so_far =
    added (options_for F (flat_map folders_under prefixes)) before after
    (ap Is (sym (append-nil after)) ∙ ap (λ ps. after_options after (options_for F (flat_map folders_under ps))) (sym none) ∙ so_far)

-- they are all there is, since the list was empty before
pub all_options : (F : Facts) (prefixes start options : List (List ℕ)) → start ≡ []
    → Adds (options_for F (flat_map folders_under prefixes)) start options
    → options_for F (flat_map folders_under prefixes) ≡ Is options
all_options F prefixes start options none (more, is, grown) = is ∙ ap Is (sym (grown ∙ ap (λ s. s ++ more) none))
