use Rattle.drv_check.proofs.Agreeing.{Loads, agrees, loaded_both, loads_join, same_in}
use Rattle.drv_check.proofs.PiecesChecked.{names_kept}
use Rattle.drv_check.proofs.RefusedFirst.{all_load, by_number, loading_ends}
use Rattle.drv_check.specs.Agreement.{Agrees, all_loaded, faults_of}
use Rattle.drv_check.specs.Checked.{checked, checked_over}
use Rattle.drv_check.specs.Checks.{all_called, is_full, most_faults, unchecked_over}
use Rattle.drv_check.specs.declared.findings.Checking.{Checking}
use Rattle.drv_check.specs.declared.known_names.Names.{Names}
use Rattle.drv_search.specs.Search.{prefixes_of}
use Rattle.drv_search.specs.declared.prefixes.Prefixes.{Prefixes}
use Rattle.drv_specs.specs.Builtin.{builtin_specs}
use Rattle.drv_specs.specs.Loading.{then_by}
use Rattle.drv_system.specs.Facts.{Facts}
use Rattle.drv_system.specs.Known.{◌>>=◌, Is, Known, Unasked}
use Rattle.std.proofs.Common.{◌≡◌, ◌∙◌, ◌++◌, Bool, List, [], ap, false, refl, subst, sym, true, ℕ}

-- For first_fault_is_refusal (src/laws.rt): a whole check agrees with the driver.
-- Names: `F` is what is known of the outside. `prefixes` is where files are searched for. `over` is the files that are loaded first, `base`
-- their check, and `names` the files of the call. `c` and `d` are whole checks. `faults_of` is the faults of findings, in order.
-- `all_loaded` is files loaded by the driver. `Loads` says that a check ends as the driver does (Agreeing), and `Agrees` is the claim of
-- the law.

module _ (F : Facts) (prefixes : Prefixes) (whose : Names) (over names : List (List ℕ)) (c : Checking) where
  -- the faults of the files `over` are the driver's
  base_faults : (base : Checking) → all_called F prefixes (is_full most_faults) (unchecked_over whose builtin_specs) over ≡ Is base
      → Loads F prefixes [] base (all_loaded F prefixes builtin_specs over)
  base_faults base is =
      all_load F prefixes (is_full most_faults) (by_number most_faults) (unchecked_over whose builtin_specs) base over refl is

  -- the files of the call end as the driver's loading of all files, also where those before them have ended the check
  both_load : (base d : Checking) → Loads F prefixes [] base (all_loaded F prefixes builtin_specs over)
      → all_called F prefixes (is_full most_faults) base names ≡ Is d → (full : Bool) → is_full most_faults base ≡ full
      → Loads F prefixes [] d (then_by (all_loaded F prefixes builtin_specs over) (λ next. all_loaded F prefixes next names))
  both_load base d first rest true full =
      loading_ends F prefixes (is_full most_faults) (by_number most_faults) (unchecked_over whose builtin_specs) d base
      (all_loaded F prefixes builtin_specs over) (λ next. all_loaded F prefixes next names) refl full
      (same_in (sym (names_kept F prefixes (is_full most_faults) base names full) ∙ rest)) first
  both_load base d first rest false goes =
      loads_join F prefixes [] base d (all_loaded F prefixes builtin_specs over) (λ next. all_loaded F prefixes next names) first
      (all_load F prefixes (is_full most_faults) (by_number most_faults) base d names goes rest)

  -- the faults of all files are the driver's
  over_agrees : checked_over F prefixes whose over names ≡ Is c
      → Agrees (faults_of c.findings) (all_loaded F prefixes builtin_specs (over ++ names))
  over_agrees is = by (all_called F prefixes (is_full most_faults) (unchecked_over whose builtin_specs) over) refl is
    where
      -- Plan: `by` goes by whether the check of the files `over` is known.
      by : (known : Known Checking) → all_called F prefixes (is_full most_faults) (unchecked_over whose builtin_specs) over ≡ known
          → (known >>= λ base. all_called F prefixes (is_full most_faults) base names) ≡ Is c
          → Agrees (faults_of c.findings) (all_loaded F prefixes builtin_specs (over ++ names))
      by Unasked first rest = absurd cc
      by (Is base) first rest =
          subst (λ k. Agrees (faults_of c.findings) k) (sym (loaded_both F prefixes builtin_specs over names))
          (agrees F prefixes c _ (both_load base c (base_faults base first) rest (is_full most_faults base) refl))

  -- the whole check agrees with the driver: this is what the law of the first fault needs
  pub checked_agrees : prefixes_of F [] ≡ Is prefixes → checked F whose over names ≡ Is c
      → Agrees (faults_of c.findings) (all_loaded F prefixes builtin_specs (over ++ names))
  unfolding checked
  checked_agrees known is = over_agrees (ap (λ k. k >>= λ p. checked_over F p whose over names) (sym known) ∙ is)
