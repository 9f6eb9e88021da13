use Rattle.drv_check.specs.Checks.{all_called, is_full, most_faults, unchecked_over}
use Rattle.drv_check.specs.declared.findings.Checking.{Checking}
use Rattle.drv_check.specs.declared.known_names.Names.{Names}
use Rattle.drv_search.specs.Search.{prefixes_of}
use Rattle.drv_search.specs.declared.prefixes.Prefixes.{Prefixes}
use Rattle.drv_specs.specs.Builtin.{builtin_specs}
use Rattle.drv_system.specs.Facts.{Facts}
use Rattle.drv_system.specs.Known.{◌>>=◌, Known}
use Rattle.std.specs.Prelude.{List, [], ℕ}

-- Spec files checked (GCC manual, "Spec Files"): the files `names` over the built-in set as the files `over` change it, each over what the
-- earlier ones made. The check ends at `most_faults` faults.
-- For clauses of src/checking.rt, and laws of src/laws.rt.

-- the check of the files `over`, and of the files `names` over the set that they make
abbrev pub checked_over : Facts → Prefixes → Names → List (List ℕ) → List (List ℕ) → Known Checking
checked_over F prefixes whose over names =
    all_called F prefixes (is_full most_faults) (unchecked_over whose builtin_specs) over
    >>= λ base. all_called F prefixes (is_full most_faults) base names

-- the check of files along the prefixes of a call without -B
unfoldable pub checked : Facts → Names → List (List ℕ) → List (List ℕ) → Known Checking
checked F whose over names = prefixes_of F [] >>= λ prefixes. checked_over F prefixes whose over names
