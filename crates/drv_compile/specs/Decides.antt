use Rattle.drv_cc.specs.declared.answer.Surroundings.{Surroundings}
use Rattle.drv_compile.specs.Beside.{file_of_variable, or_own, spec_file, written_beside}
use Rattle.drv_compile.specs.Compilers.{values}
use Rattle.drv_compile.specs.Places.{companion}
use Rattle.drv_compile.specs.Reading.{line_read}
use Rattle.drv_compile.specs.declared.deciding.Decision.TheVariants.{Damaged, NoCompiler, NoSpecs, Read}
use Rattle.drv_compile.specs.declared.deciding.Decision.{Decision}
use Rattle.drv_compile.specs.declared.deciding.SpecFile.{SpecFile}
use Rattle.drv_compile.specs.declared.reading.Reading.{Reading}
use Rattle.drv_system.specs.Facts.{Facts, variable_of}
use Rattle.drv_system.specs.Known.{◌>>=◌, Is, Known, asked}
use Rattle.std.specs.Prelude.{List, [], ◌∷◌, ◌++◌, None, Option, Some, codes, map, ℕ}

-- What the words of a line ask for, over the spec file of the call and the files beside it (this project's profile). One set of facts
-- answers all questions; which are asked follows from what was answered before.
-- For clauses of src/deciding.rt and src/compilers.rt.

-- what the reading of a line decides; the file with the names of options was damaged where there is no reading
abbrev pub of_reading : SpecFile → Surroundings → Option Reading → Decision
of_reading file around None = Damaged file.path (companion file.path (codes ".options"))
of_reading file around (Some reading) = Read file around reading

-- what a line asks for where the compiler and its folders are known
abbrev pub decided_around : Facts → SpecFile → List (List ℕ) → Surroundings → Known Decision
decided_around F file words around = line_read F file.path around words >>= λ reading. Is (of_reading file around reading)

-- the folders beside the spec file that have copies of vendors' spec files: a line `copies` of that file has the ending of one
abbrev pub copies_of : List ℕ → List ℕ → List (List ℕ)
copies_of specs text = map (companion specs) (values (codes "copies ") text)

-- what the compiler gives its children: a line `child` has one thing. The words of the line's row follow them all
abbrev pub children_of : List ℕ → List (List ℕ)
children_of text = values (codes "child ") text ++ codes "\t\t--gdrv-row" ∷ []

-- what a line is read in: the first compiler that the file names, what it says of that, and the two variables with paths. A line `folder`
-- has a folder of the compiler
abbrev pub surroundings : List ℕ → List ℕ → List ℕ → Option (List ℕ) → Option (List ℕ) → Surroundings
surroundings specs text compiler programs libraries =
    record {
      compiler = compiler;
      folders = values (codes "folder ") text;
      copies = copies_of specs text;
      compiler_path = programs;
      library_path = libraries;
      children = children_of text;
    }

-- the first of several values, if there is any
abbrev pub first_of : List (List ℕ) → Option (List ℕ)
first_of [] = None
first_of (compiler ∷ others) = Some compiler

-- what a line asks for, by the compiler that the file beside the spec file names, if it names any
abbrev pub decided_by : Facts → List ℕ → List (List ℕ) → List ℕ → Option (List ℕ) → Known Decision
decided_by F specs words text None = Is (NoCompiler specs)
decided_by F specs words text (Some compiler) =
    asked (variable_of F (codes "COMPILER_PATH")) >>= λ programs. asked (variable_of F (codes "LIBRARY_PATH")) >>= λ libraries.
    decided_around F (record { path = specs; about = text }) words (surroundings specs text compiler programs libraries)

-- what a line asks for, by the text of that file, if it is whole
abbrev pub decided_over : Facts → List ℕ → List (List ℕ) → Option (List ℕ) → Known Decision
decided_over F specs words None = Is (Damaged specs (companion specs (codes ".gcc")))
decided_over F specs words (Some text) = decided_by F specs words text (first_of (values (codes "compiler ") text))

-- what a line asks for, by its spec file; without one the decision says where it should be
abbrev pub decided_with : Facts → Option (List ℕ) → List (List ℕ) → Option (List ℕ) → Known Decision
decided_with F own words None = file_of_variable F >>= λ named. Is (NoSpecs (or_own own named))
decided_with F own words (Some specs) = written_beside F specs (codes ".gcc") >>= λ text. decided_over F specs words text

-- The decision: `own` is where the spec file of this program lies, if that is known.
abbrev pub decide : Facts → Option (List ℕ) → List (List ℕ) → Known Decision
decide F own words = spec_file F own >>= λ specs. decided_with F own words specs
