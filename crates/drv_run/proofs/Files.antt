use Rattle.drv_args.specs.declared.line.Settings.{Settings}
use Rattle.drv_search.specs.Search.{prefixes_of}
use Rattle.drv_search.specs.declared.prefixes.Prefixes.{Prefixes}
use Rattle.drv_specs.specs.Builtin.{builtin_specs}
use Rattle.drv_specs.specs.Loading.{file_loaded, then_by}
use Rattle.drv_specs.specs.Sets.{Set}
use Rattle.drv_specs.specs.declared.fault.SpecsFault.TheVariants as specs_fault
use Rattle.drv_specs.specs.declared.fault.SpecsFault.{SpecsFault}
use Rattle.drv_system.specs.Facts.{Facts}
use Rattle.drv_system.specs.Gives.{GivesKnown}
use Rattle.drv_system.specs.Known.{◌>>=◌, Is, Known}
use Rattle.drv_run.specs.Drives.{files_loaded, specs_of, specs_over}
use Rattle.std.proofs.Common.{◌≡◌, ◌<◌, ◌+◌, ◌⊎◌, ◌∙◌, Err, IsErrAnd, List, ◌∷◌, Ok, Result, ap, drop, inl, inr, length, subst, sym, ℕ}
use Rattle.std.proofs.lemmas.List.{drop_more}
use Rattle.std.specs.Prelude.{get_or}

-- For `load_specs`: the files of -specs= are loaded one after another, over the built-in specs. `whole` is what the definition gives of all
-- files.
-- Names: `F` is what is known of the outside before the call. `set` is the specs. `prefixes` is where files are searched for. `names` is
-- the files of -specs= that are left. `n` is how many files were loaded. `settings` is the settings of the line. `next` is the file that is
-- loaded next. `files_loaded` is a set after spec files.

-- what a file gives, and then the files after it
abbrev then_files : Facts → Prefixes → List (List ℕ) → Known (Result Set SpecsFault) → Known (Result Set SpecsFault)
then_files F prefixes names loads = then_by loads (λ set. files_loaded F prefixes set names)

-- the files from the n-th on: that one, and those after it
at_file : (F : Facts) (prefixes : Prefixes) (set : Set) (names : List (List ℕ)) (n : ℕ) (next : List ℕ) → n < length names
    → next ≡ get_or names n next
    → files_loaded F prefixes set (drop n names) ≡ then_files F prefixes (drop (n + 1) names) (file_loaded F prefixes set next)
at_file F prefixes set names n next below here =
    ap (files_loaded F prefixes set) (drop_more names n next below ∙ ap (λ name. name ∷ drop (n + 1) names) (sym here))

-- the next file was loaded: the rest are loaded over its set
pub file_taken : (F : Facts) (prefixes : Prefixes) (set after : Set) (names : List (List ℕ)) (n : ℕ) (next : List ℕ)
    (whole : Known (Result Set SpecsFault))
    → n < length names → next ≡ get_or names n next → file_loaded F prefixes set next ≡ Is (Ok after)
    → files_loaded F prefixes set (drop n names) ≡ whole
    → files_loaded F prefixes after (drop (n + 1) names) ≡ whole
file_taken F prefixes set after names n next whole below here loads before =
    sym (at_file F prefixes set names n next below here ∙ ap (then_files F prefixes (drop (n + 1) names)) loads) ∙ before

-- where the next file can't be loaded, the whole is refused
pub file_refused : (F : Facts) (prefixes : Prefixes) (set : Set) (names : List (List ℕ)) (n : ℕ) (next : List ℕ) (fault : SpecsFault)
    (whole : Known (Result Set SpecsFault))
    → n < length names → next ≡ get_or names n next → (fault ≡ specs_fault.Memory) ⊎ (file_loaded F prefixes set next ≡ Is (Err fault))
    → files_loaded F prefixes set (drop n names) ≡ whole
    → (fault ≡ specs_fault.Memory) ⊎ (whole ≡ Is (Err fault))
file_refused F prefixes set names n next fault whole below here (inl memory) before = inl memory
file_refused F prefixes set names n next fault whole below here (inr refused) before =
    inr (sym before ∙ at_file F prefixes set names n next below here ∙ ap (then_files F prefixes (drop (n + 1) names)) refused)

-- the specs of a line over a set, once its prefixes are known
specs_from : (F : Facts) (settings : Settings) (dirs names : List (List ℕ)) (prefixes : Prefixes) (set : Set) → dirs ≡ settings.prefixes
    → names ≡ settings.specs
    → prefixes_of F dirs ≡ Is prefixes → specs_over F set settings ≡ files_loaded F prefixes set names
specs_from F settings dirs names prefixes set dirs_are names_are made =
    ap (λ known. known >>= λ p. files_loaded F p set settings.specs) (ap (prefixes_of F) (sym dirs_are) ∙ made)
    ∙ ap (files_loaded F prefixes set) (sym names_are)

-- the specs of a line are what its files make of a set
pub specs_loaded : (F : Facts) (settings : Settings) (dirs names : List (List ℕ)) (prefixes : Prefixes) (set : Set)
    (result : Result Set SpecsFault) → dirs ≡ settings.prefixes → names ≡ settings.specs
    → prefixes_of F dirs ≡ Is prefixes → GivesKnown specs_fault.Memory (λ loaded. loaded) result (files_loaded F prefixes set names)
    → GivesKnown specs_fault.Memory (λ loaded. loaded) result (specs_over F set settings)
specs_loaded F settings dirs names prefixes set result dirs_are names_are made gives =
    subst (GivesKnown specs_fault.Memory (λ loaded. loaded) result)
    (sym (specs_from F settings dirs names prefixes set dirs_are names_are made)) gives

-- the specs of a line are those over the built-in set
pub builtin_given : (F : Facts) (settings : Settings) (set : Set) (result : Result Set SpecsFault) → set ≡ builtin_specs
    → GivesKnown specs_fault.Memory (λ loaded. loaded) result (specs_over F set settings)
    → GivesKnown specs_fault.Memory (λ loaded. loaded) result (specs_of F settings)
builtin_given F settings set result is gives = subst
    (λ s. GivesKnown specs_fault.Memory (λ loaded. loaded) result (specs_over F s settings)) is gives

-- a refusal of a step is that of the call
pub refusal_given : {X Y E : Type 0} (memory fault : E) (result : Result X E) (view : X → Y) (defined : Known (Result Y E))
    → IsErrAnd result (λ e. e ≡ fault) → (fault ≡ memory) ⊎ (defined ≡ Is (Err fault)) → GivesKnown memory view result defined
refusal_given memory fault (Ok x) view defined is refused = absurd is
refusal_given memory fault (Err e) view defined is (inl same) = inl (is ∙ same)
refusal_given memory fault (Err e) view defined is (inr refused) = inr (refused ∙ ap (λ f. Is (Err f)) (sym is))
