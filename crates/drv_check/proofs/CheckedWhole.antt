use Rattle.drv_check.specs.Checked.{checked, checked_over}
use Rattle.drv_check.specs.Checks.{all_called, is_full, most_faults, unchecked_over}
use Rattle.drv_check.specs.Origins.{sources_found, sources_of}
use Rattle.drv_check.specs.declared.findings.Checking.{Checking}
use Rattle.drv_check.specs.declared.findings.Source.{Source}
use Rattle.drv_check.specs.declared.known_names.Names.TheVariants.{Driver}
use Rattle.drv_check.specs.declared.known_names.Names.{Names}
use Rattle.drv_search.specs.Search.{prefixes_of}
use Rattle.drv_search.specs.declared.prefixes.Prefixes.{Prefixes}
use Rattle.drv_specs.specs.Builtin.{builtin_specs}
use Rattle.drv_specs.specs.Sets.{Set}
use Rattle.drv_system.specs.Facts.{Facts}
use Rattle.drv_system.specs.Known.{◌>>=◌, Is}
use Rattle.std.proofs.Common.{◌≡◌, ◌∙◌, Err, IfOk, List, Ok, Result, [], ap, sym, ℕ}

-- For check_files and sources_of (src/checking.rt): the prefixes are found first, and files are checked over others.
-- Names: `F` is what is known of the outside. `prefixes` is where files are searched for. `over` is the files that are loaded first, and
-- `names` those of the call. `start`, `base` and `c` are the check before them, between them and after them, and `whole` what is given.
-- `result` is what the code's call gives.

module _ (F : Facts) (prefixes : Prefixes) where
  -- The files of the call are checked over those that are loaded first, and warnings change no check.
  pub over_checked : (whose : Names) (over names : List (List ℕ)) (set : Set) (start base c whole : Checking) → set ≡ builtin_specs
      → start ≡ unchecked_over whose set → all_called F prefixes (is_full most_faults) start over ≡ Is base
      → all_called F prefixes (is_full most_faults) base names ≡ Is c → whole ≡ c → checked_over F prefixes whose over names ≡ Is whole
  over_checked whose over names set start base c whole built starts first second same =
      ap (λ s. all_called F prefixes (is_full most_faults) s over >>= λ b. all_called F prefixes (is_full most_faults) b names)
      (sym (starts ∙ ap (unchecked_over whose) built))
      ∙ ap (λ k. k >>= λ b. all_called F prefixes (is_full most_faults) b names) first ∙ second ∙ ap Is (sym same)

  -- A check over the built-in set opens the files of the definition.
  pub sources_opened : (names : List (List ℕ)) (set : Set) (start c : Checking) → set ≡ builtin_specs → start ≡ unchecked_over Driver set
      → all_called F prefixes (is_full most_faults) start names ≡ Is c → sources_found F prefixes names ≡ Is c.sources
  sources_opened names set start c built starts is =
      ap (λ s. all_called F prefixes (is_full most_faults) s names >>= λ d. Is d.sources) (sym (starts ∙ ap (unchecked_over Driver) built))
      ∙ ap (λ k. k >>= λ d. Is d.sources) is

  -- The prefixes that the call finds are those of the definition.
  pub opens_sources : {E : Type 0} (dirs names : List (List ℕ)) (result : Result (List Source) E) → prefixes_of F dirs ≡ Is prefixes
      → IfOk result (λ sources. sources_found F prefixes names ≡ Is sources)
      → IfOk result (λ sources. sources_of F dirs names ≡ Is sources)
  opens_sources dirs names (Err e) is opens = opens
  opens_sources dirs names (Ok sources) is opens = ap (λ known. known >>= λ p. sources_found F p names) is ∙ opens

  -- So are those of a check.
  pub checks_files : {E : Type 0} (whose : Names) (over names dirs : List (List ℕ)) (result : Result Checking E) → dirs ≡ []
      → prefixes_of F dirs ≡ Is prefixes
      → IfOk result (λ c. checked_over F prefixes whose over names ≡ Is c) → IfOk result (λ c. checked F whose over names ≡ Is c)
  unfolding checked
  checks_files whose over names dirs (Err e) none is goes = goes
  checks_files whose over names dirs (Ok c) none is goes =
      ap (λ ds. prefixes_of F ds >>= λ p. checked_over F p whose over names) (sym none)
      ∙ ap (λ k. k >>= λ p. checked_over F p whose over names) is ∙ goes
