use Rattle.drv_args.specs.declared.items.Item.{Item}
use Rattle.drv_cc.specs.declared.answer.Stages.{Stages}
use Rattle.drv_cc.specs.declared.answer.Surroundings.{Surroundings}
use Rattle.drv_compile.specs.Beside.{given_by, file_of_variable, spec_file, written_beside}
use Rattle.drv_compile.specs.Compilers.{values}
use Rattle.drv_compile.specs.Decides.{copies_of, decide, decided_around, decided_by, decided_over, decided_with, first_of, of_reading}
use Rattle.drv_compile.specs.Decides.{children_of, surroundings}
use Rattle.drv_compile.specs.Parts.{texts_at, texts_of}
use Rattle.drv_compile.specs.Places.{part_or_whole, texts_for}
use Rattle.drv_compile.specs.Reading.{line_read}
use Rattle.drv_compile.specs.declared.deciding.Decision.{Decision}
use Rattle.drv_compile.specs.declared.deciding.SpecFile.{SpecFile}
use Rattle.drv_compile.specs.declared.parts.Texts.{Texts}
use Rattle.drv_compile.specs.declared.reading.Reading.{Reading}
use Rattle.drv_system.specs.Facts.{Facts, kind_of, variable_of}
use Rattle.drv_system.specs.Known.{◌>>=◌, Is, asked}
use Rattle.drv_system.specs.declared.event.PathKind.{PathKind}
use Rattle.std.proofs.Common.{◌≡◌, ◌∙◌, Err, IfOk, List, Ok, Option, Result, Some, ap, codes, sym, ℕ}

-- For `decide` (src/deciding.rt): what was asked, one thing after another, gives the decision.
-- Names: `F` is what is known of the outside. `own` is the place of the program's own spec file. `specs` is the path of the spec file, and
-- `slice` the same as the code lends it. `words` is the words of the line. `text` is the text of the file beside the spec file, which names
-- the compiler, and `lent` the same as the code lends it. `file` is both files. `around` is the compiler and its folders. `result` is what
-- the code's call gives. `IfOk result P`: P holds of the value, if there is one. `decide`, `decided_with`, `decided_over` and
-- `decided_around` are the decision, from the whole line to its last step (specs/Decides).

-- For `file_of_variable`: if the name is that of the variable, then what was made of its value is the file of the variable.
pub named_by_variable : {E : Type 0} (F : Facts) (name : List ℕ) (value : Option (List ℕ)) (result : Result (Option (List ℕ)) E)
    → name ≡ codes "GDRV_CC_SPECS" → variable_of F name ≡ Some value → IfOk result (λ path. path ≡ given_by value)
    → IfOk result (λ path. file_of_variable F ≡ Is path)
named_by_variable F name value (Err e) named known is = tt
named_by_variable F name value (Ok path) named known is =
    ap (λ v. asked v >>= λ w. Is (given_by w)) (ap (variable_of F) (sym named) ∙ known) ∙ ap Is (sym is)

-- For `texts_asked`: if the part for a line was asked for, and then the file that it takes, then the result is the line's texts.
pub texts_found : {E : Type 0} (F : Facts) (specs : List ℕ) (items : List Item) (stages : Stages) (part path : List ℕ) (kind : PathKind)
    (result : Result Texts E)
    → part ≡ texts_for specs items stages → kind_of F part ≡ Some kind → path ≡ part_or_whole specs part kind
    → IfOk result (λ texts. texts_at F path ≡ Is texts) → IfOk result (λ texts. texts_of F specs items stages ≡ Is texts)
texts_found F specs items stages part path kind (Err e) part_is known path_is is = tt
texts_found F specs items stages part path kind (Ok texts) part_is known path_is is =
    ap (λ p. asked (kind_of F p) >>= λ k. texts_at F (part_or_whole specs p k)) (sym part_is)
    ∙ ap (λ k. asked k >>= λ k'. texts_at F (part_or_whole specs part k')) known
    ∙ ap (texts_at F) (sym path_is) ∙ is

-- For `decided_around`: if the result is the decision for what was read of the line, then it is the decision around this compiler.
pub around_read : {E : Type 0} (F : Facts) (file : SpecFile) (slice : List ℕ) (words : List (List ℕ)) (around : Surroundings)
    (reading : Option Reading) (result : Result Decision E)
    → slice ≡ file.path → line_read F slice around words ≡ Is reading → IfOk result (λ decision. decision ≡ of_reading file around reading)
    → IfOk result (λ decision. decided_around F file words around ≡ Is decision)
around_read F file slice words around reading (Err e) same read is = tt
around_read F file slice words around reading (Ok decision) same read is =
    ap (λ k. k >>= λ r. Is (of_reading file around r)) (ap (λ s. line_read F s around words) (sym same) ∙ read) ∙ ap Is (sym is)

-- For `decided_by`: if the file names a compiler, and both variables were asked for, then the decision in these surroundings is that by the
-- file's text.
pub compiler_given : {E : Type 0} (F : Facts) (specs : List ℕ) (words : List (List ℕ)) (text lent : List ℕ)
    (compiler : List ℕ) (around : Surroundings)
    (programs libraries : Option (List ℕ)) (result : Result Decision E) → lent ≡ text
    → first_of (values (codes "compiler ") lent) ≡ Some compiler → around ≡ surroundings specs lent compiler programs libraries
    → asked (variable_of F (codes "COMPILER_PATH")) ≡ Is programs
    → asked (variable_of F (codes "LIBRARY_PATH")) ≡ Is libraries
    → IfOk result (λ decision. decided_around F (record { path = specs; about = text }) words around ≡ Is decision)
    → IfOk result (λ decision. decided_over F specs words (Some text) ≡ Is decision)
compiler_given F specs words text lent compiler around programs libraries (Err e) same some around_is first second is = tt
compiler_given F specs words text lent compiler around programs libraries (Ok decision) same some around_is first second is =
    ap (decided_by F specs words text) (ap (λ t. first_of (values (codes "compiler ") t)) (sym same) ∙ some)
    ∙ ap (λ k. k >>= λ p. asked (variable_of F (codes "LIBRARY_PATH"))
    >>= λ l. decided_around F (record { path = specs; about = text }) words (surroundings specs text compiler p l)) first
    ∙ ap (λ k. k >>= λ l. decided_around F (record { path = specs; about = text }) words (surroundings specs text compiler programs l))
    second
    ∙ ap (decided_around F (record { path = specs; about = text }) words)
    (sym (around_is ∙ ap (λ t. surroundings specs t compiler programs libraries) same))
    ∙ is

-- For `decided_by` too: the surroundings that the code makes are those of the text.
pub surrounded : (specs slice text compiler : List ℕ) (folders copies children : List (List ℕ)) (programs libraries : Option (List ℕ))
    → slice ≡ specs → folders ≡ values (codes "folder ") text → copies ≡ copies_of slice text → children ≡ children_of text
    → record {
      compiler = compiler;
      folders = folders;
      copies = copies;
      compiler_path = programs;
      library_path = libraries;
      children = children;
    } ≡ surroundings specs text compiler programs libraries
surrounded specs slice text compiler folders copies children programs libraries same folders_are copies_are children_are =
    ap (λ f. record {
      compiler = compiler;
      folders = f;
      copies = copies;
      compiler_path = programs;
      library_path = libraries;
      children = children;
    }) folders_are
    ∙ ap (λ c. record {
      compiler = compiler;
      folders = values (codes "folder ") text;
      copies = c;
      compiler_path = programs;
      library_path = libraries;
      children = children;
    }) (copies_are ∙ ap (λ s. copies_of s text) same)
    ∙ ap (λ c. record {
      compiler = compiler;
      folders = values (codes "folder ") text;
      copies = copies_of specs text;
      compiler_path = programs;
      library_path = libraries;
      children = c;
    }) children_are

-- For `decided_with`: if a spec file was found, then the decision by the file beside it, which names the compiler, is the decision.
pub specs_given : {E : Type 0} (F : Facts) (own : Option (List ℕ)) (words : List (List ℕ)) (found : Option (List ℕ)) (specs slice : List ℕ)
    (text : Option (List ℕ)) (result : Result Decision E)
    → found ≡ Some specs → slice ≡ specs → written_beside F slice (codes ".gcc") ≡ Is text
    → IfOk result (λ decision. decided_over F specs words text ≡ Is decision)
    → IfOk result (λ decision. decided_with F own words found ≡ Is decision)
specs_given F own words found specs slice text (Err e) some same written is = tt
specs_given F own words found specs slice text (Ok decision) some same written is =
    ap (decided_with F own words) some
    ∙ ap (λ k. k >>= λ t. decided_over F specs words t) (ap (λ s. written_beside F s (codes ".gcc")) (sym same) ∙ written) ∙ is

-- For `decide`: if the spec file was looked for at the program's own place, then the decision with it is the decision of the call; the code
-- copies that place twice.
pub decided_so : {E : Type 0} (F : Facts) (own : Option (List ℕ)) (words : List (List ℕ)) (place found again : Option (List ℕ))
    (result : Result Decision E)
    → place ≡ own → spec_file F place ≡ Is found → again ≡ own
    → IfOk result (λ decision. decided_with F again words found ≡ Is decision) → IfOk result (λ decision. decide F own words ≡ Is decision)
decided_so F own words place found again (Err e) place_is known again_is is = tt
decided_so F own words place found again (Ok decision) place_is known again_is is =
    ap (λ k. k >>= λ s. decided_with F own words s) (ap (spec_file F) (sym place_is) ∙ known)
    ∙ ap (λ o. decided_with F o words found) (sym again_is) ∙ is
