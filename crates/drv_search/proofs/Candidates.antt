use Rattle.drv_search.specs.Search.{candidates, candidates_under, found, given_of, is_plain, is_prefix, library_folders, prefix_for}
use Rattle.drv_search.specs.Search.{machine_folder, prefix_of, prefixes_of, program_folders}
use Rattle.drv_system.specs.Facts.{Facts, kind_of}
use Rattle.drv_system.specs.Known.{◌>>=◌, Is, Known, Unasked, asked}
use Rattle.drv_system.specs.declared.event.PathKind.{PathKind}
use Rattle.std.proofs.Common.{◌≡◌, ◌<◌, ◌+◌, ◌∙◌, Bool, List, [], ◌∷◌, ◌++◌, None, Option, Some, ap, append_assoc, drop, false}
use Rattle.std.proofs.Common.{if◌then◌else◌, length, refl, sym, true, Result, IfOk, Ok, Err, ℕ}
use Rattle.std.proofs.lemmas.List.{drop_more}
use Rattle.std.specs.Prelude.{get_or}

-- For the searches: prefixes one after another, and candidates one after another.
-- Names: `F` is what is known of the outside. `prefix` is a prefix: what is put before a name, often a folder with its slash. `prefixes` is
-- the prefixes in the order of the search. `paths` is candidates, in the order of the search. `others` is the prefixes, folders or
-- candidates that follow. `path` is one candidate. `name` is the name that is searched for. `hit` is what was found. `i` is how many
-- prefixes were searched. `bytes` is the bytes of the prefix. `dir` is the argument of -B. `found F paths` is the first candidate that is a
-- plain file. `Is` is a value that the facts give. `candidates prefixes name` is all of them, prefix by prefix. `candidates_under name
-- prefix` is those under one prefix. `Known` is a value, or `Unasked` if the facts lack an answer. `kind_of F path` is the known kind of a
-- path, if it was asked. `prefix_of F dir` is the prefix that -B gives. `given_of`: the prefixes of all -B, in order. `is_plain`: whether a
-- path is a plain file.

-- the prefix of an argument whose kind was asked for
pub prefix_asked : (F : Facts) (dir prefix : List ℕ) (kind : PathKind) → is_prefix dir ≡ false → kind_of F dir ≡ Some kind
    → prefix ≡ prefix_for dir kind → prefix_of F dir ≡ Is prefix
prefix_asked F dir prefix kind bare known is = rw (bare, known, is) refl

-- the prefixes so far, followed by others
abbrev pub after_prefixes : List (List ℕ) → Known (List (List ℕ)) → Known (List (List ℕ))
after_prefixes done others = others >>= λ prefixes. Is (done ++ prefixes)

-- one more prefix, and then those of the other arguments
following_more : (done after : List (List ℕ)) (prefix : List ℕ) (others : Known (List (List ℕ))) → after ≡ done ++ prefix ∷ []
    → after_prefixes after others ≡ after_prefixes done (others >>= λ prefixes. Is (prefix ∷ prefixes))
following_more done after prefix Unasked is = refl
following_more done after prefix (Is prefixes) is = rw (is, append_assoc) refl

-- the prefixes so far with one more, in the code's loop
pub prefix_more : (F : Facts) (dirs : List (List ℕ)) (i : ℕ) (dir prefix : List ℕ) (done after : List (List ℕ))
    → i < length dirs → dir ≡ get_or dirs i dir → prefix_of F dir ≡ Is prefix → after ≡ done ++ prefix ∷ []
    → after_prefixes done (given_of F (drop i dirs)) ≡ given_of F dirs
    → after_prefixes after (given_of F (drop (i + 1) dirs)) ≡ given_of F dirs
prefix_more F dirs i dir prefix done after below here is grown so_far =
    following_more done after prefix (given_of F (drop (i + 1) dirs)) grown
    ∙ ap (after_prefixes done) (sym (
    ap (given_of F) (drop_more dirs i dir below ∙ ap (λ d. d ∷ drop (i + 1) dirs) (sym here))
    ∙ ap (λ known. known >>= λ p. given_of F (drop (i + 1) dirs) >>= λ ps. Is (p ∷ ps)) is))
    ∙ so_far

-- what a search found, or else what the next search finds
abbrev pub or_found : Option (List ℕ) → Known (Option (List ℕ)) → Known (Option (List ℕ))
or_found None others = others
or_found (Some path) others = Is (Some path)

-- a search goes on in the second list, by the kind of the first candidate
found_by : (F : Facts) (path : List ℕ) (paths others : List (List ℕ)) (known : Option PathKind)
    → found F (paths ++ others) ≡ (found F paths >>= λ hit. or_found hit (found F others))
    → (asked known >>= λ kind. if is_plain kind then Is (Some path) else found F (paths ++ others))
    ≡ ((asked known >>= λ kind. if is_plain kind then Is (Some path) else found F paths) >>= λ hit. or_found hit (found F others))
found_by F path paths others None later = refl
found_by F path paths others (Some kind) later = by (is_plain kind) refl
  where
    by : (plain : Bool) → is_plain kind ≡ plain → (if is_plain kind then Is (Some path) else found F (paths ++ others))
        ≡ ((if is_plain kind then Is (Some path) else found F paths) >>= λ hit. or_found hit (found F others))
    by true is = rw is refl
    by false is = rw is later

-- a search through two lists is one through the first, and then one through the second
pub found-append : (F : Facts) (paths others : List (List ℕ))
    → found F (paths ++ others) ≡ (found F paths >>= λ hit. or_found hit (found F others))
found-append F [] others = refl
found-append F (path ∷ paths) others = found_by F path paths others (kind_of F path) (found-append F paths others)

-- a file among the first candidates, or among those after them
pub found_first : (F : Facts) (paths others : List (List ℕ)) (path : List ℕ) → found F paths ≡ Is (Some path)
    → found F (paths ++ others) ≡ Is (Some path)
found_first F paths others path is = found-append F paths others ∙ ap (λ known. known >>= λ hit. or_found hit (found F others)) is

-- if the first list has nothing, the second decides
pub found_later : (F : Facts) (paths others : List (List ℕ)) → found F paths ≡ Is None → found F (paths ++ others) ≡ found F others
found_later F paths others is = found-append F paths others ∙ ap (λ known. known >>= λ hit. or_found hit (found F others)) is

-- the prefix of -B, by the kind that the code asked
pub prefix_given : {E : Type 0} (F : Facts) (dir : List ℕ) (kind : PathKind) (result : Result (List ℕ) E)
    → is_prefix dir ≡ false → kind_of F dir ≡ Some kind → IfOk result (λ prefix. prefix ≡ prefix_for dir kind)
    → IfOk result (λ prefix. prefix_of F dir ≡ Is prefix)
prefix_given F dir kind (Ok prefix) bare known is = prefix_asked F dir prefix kind bare known is
prefix_given F dir kind (Err e) bare known is = tt

-- the result under one prefix if the folder of the machine has no such file
pub under_second : {E : Type 0} (F : Facts) (prefix name : List ℕ) (hit : Option (List ℕ)) (result : Result (Option (List ℕ)) E)
    → found F ((prefix ++ machine_folder ++ name) ∷ []) ≡ Is hit → hit ≡ None
    → IfOk result (λ h. found F ((prefix ++ name) ∷ []) ≡ Is h) → IfOk result (λ h. found F (candidates_under name prefix) ≡ Is h)
under_second F prefix name hit (Err e) first none second = tt
under_second F prefix name hit (Ok h) first none second =
    found_later F ((prefix ++ machine_folder ++ name) ∷ []) ((prefix ++ name) ∷ []) (first ∙ ap Is none) ∙ second

-- one more prefix, by its bytes, and the prefixes that are left
left_prefixes : (prefixes : List (List ℕ)) (i : ℕ) (prefix bytes : List ℕ) → i < length prefixes → prefix ≡ get_or prefixes i prefix
    → bytes ≡ prefix
    → drop i prefixes ≡ bytes ∷ drop (i + 1) prefixes
left_prefixes prefixes i prefix bytes below here is = drop_more prefixes i prefix below ∙ ap (λ p. p ∷ drop (i + 1) prefixes)
    (sym here ∙ sym is)

-- nothing under this prefix: the search goes on with the next one
pub prefix_missed : (F : Facts) (prefixes : List (List ℕ)) (name : List ℕ) (i : ℕ) (prefix bytes : List ℕ) (hit : Option (List ℕ))
    → i < length prefixes → prefix ≡ get_or prefixes i prefix → bytes ≡ prefix
    → found F (candidates_under name bytes) ≡ Is hit → hit ≡ None → found F (candidates (drop (i + 1) prefixes) name)
    ≡ found F (candidates (drop i prefixes) name)
prefix_missed F prefixes name i prefix bytes hit below here is given none =
    sym (ap (λ ps. found F (candidates ps name)) (left_prefixes prefixes i prefix bytes below here is)
    ∙ found_later F (candidates_under name bytes) (candidates (drop (i + 1) prefixes) name) (given ∙ ap Is none))

-- a file under this prefix: it is the result
pub prefix_hit : (F : Facts) (prefixes : List (List ℕ)) (name : List ℕ) (i : ℕ) (prefix bytes path : List ℕ) (hit : Option (List ℕ))
    → i < length prefixes → prefix ≡ get_or prefixes i prefix → bytes ≡ prefix
    → found F (candidates_under name bytes) ≡ Is hit → hit ≡ Some path → found F (candidates (drop i prefixes) name) ≡ Is (Some path)
prefix_hit F prefixes name i prefix bytes path hit below here is given some =
    ap (λ ps. found F (candidates ps name)) (left_prefixes prefixes i prefix bytes below here is)
    ∙ found_first F (candidates_under name bytes) (candidates (drop (i + 1) prefixes) name) path (given ∙ ap Is some)

-- the two lists that the code makes are those of the definition
pub prefixes_made : (F : Facts) (dirs given programs libraries : List (List ℕ)) → given_of F dirs ≡ Is given
    → programs ≡ given ++ program_folders → libraries ≡ given ++ library_folders
    → prefixes_of F dirs ≡ Is (record { programs = programs; libraries = libraries })
prefixes_made F dirs given programs libraries known is is' = rw (known, is, is') refl
