use Rattle.drv_compile.specs.Beside.{bytes_read, file_of_variable, is_written, or_own, path_if_plain, plain_at, spec_file, written_lines}
use Rattle.drv_compile.specs.Written.{whole_lines}
use Rattle.drv_search.specs.Search.{is_plain}
use Rattle.drv_system.specs.Facts.{Facts, kind_of, read_of}
use Rattle.drv_system.specs.Known.{Is}
use Rattle.drv_system.specs.declared.event.PathKind.{PathKind}
use Rattle.drv_system.specs.declared.event.ReadAnswer.{ReadAnswer}
use Rattle.std.proofs.Common.{◌≡◌, Err, IfOk, List, Ok, Option, Result, Some, refl, sym, true, ℕ}
use Rattle.std.specs.Option.{is_some, option_and_then}

-- For the spec file of a call (src/finding.rt): files that were read, and paths that were found.
-- Names: `F` is what is known of the outside. `path` is a path, `kind` what is there, and `answer` what its reading gave. `own` is the
-- program's own spec file, and `named` that of the variable. `place` is the one that counts. `result` is what the code's call gives.
-- `kind_of` and `read_of` are answers that are known.

-- For `plain_at`: if the kind of the given path was asked for, then what was found there is that path if it is a plain file.
pub plain_asked : (F : Facts) (given : Option (List ℕ)) (path : List ℕ) (kind : PathKind) (found : Option (List ℕ))
    → given ≡ Some path → kind_of F path ≡ Some kind → found ≡ path_if_plain path kind → plain_at F given ≡ Is found
plain_asked F given path kind found some known is = rw (some, known, is) refl

-- For `written_lines`: if the path is a plain file and was read, then the result is its lines, if it is whole.
pub written_read : {E : Type 0} (F : Facts) (path : List ℕ) (kind : PathKind) (answer : ReadAnswer) (result : Result (Option (List ℕ)) E)
    → is_plain kind ≡ true → kind_of F path ≡ Some kind → read_of F path ≡ Some answer
    → IfOk result (λ lines. lines ≡ option_and_then whole_lines (bytes_read answer)) → IfOk result (λ lines. written_lines F path
    ≡ Is lines)
written_read F path kind answer (Ok lines) plain known read is = rw (known, plain, read, is) refl
written_read F path kind answer (Err e) plain known read is = tt

-- For `is_written`: if the path is a plain file and was read, then whether it is whole follows from its bytes; no copy of its lines is
-- made.
pub whole_read : (F : Facts) (path : List ℕ) (kind : PathKind) (answer : ReadAnswer)
    → is_plain kind ≡ true → kind_of F path ≡ Some kind → read_of F path ≡ Some answer
    → is_written F path ≡ Is (is_some (option_and_then whole_lines (bytes_read answer)))
whole_read F path kind answer plain known read = rw (known, plain, read) refl

-- For `spec_file`: if the variable was asked for first, and then what is at the place that it or the program names, then the result is the
-- spec file.
pub file_found_so : {E : Type 0} (F : Facts) (own named place : Option (List ℕ)) (result : Result (Option (List ℕ)) E)
    → file_of_variable F ≡ Is named → place ≡ or_own own named → IfOk result (λ path. plain_at F place ≡ Is path)
    → IfOk result (λ path. spec_file F own ≡ Is path)
file_found_so F own named place (Ok path) known so is = rw (known, sym so) is
file_found_so F own named place (Err e) known so is = tt
