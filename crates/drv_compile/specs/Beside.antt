use Rattle.drv_compile.specs.Places.{companion, path_of_caller}
use Rattle.drv_compile.specs.Written.{whole_lines}
use Rattle.drv_search.specs.Search.{is_plain}
use Rattle.drv_system.specs.Facts.{Facts, kind_of, read_of, variable_of}
use Rattle.drv_system.specs.Known.{◌>>=◌, Is, Known, asked}
use Rattle.drv_system.specs.declared.event.PathKind.{PathKind}
use Rattle.drv_system.specs.declared.event.ReadAnswer.TheVariants.{Failed, Missing, Read, TooLarge}
use Rattle.drv_system.specs.declared.event.ReadAnswer.{ReadAnswer}
use Rattle.std.specs.Option.{is_some, option_and_then}
use Rattle.std.specs.Prelude.{Bool, List, [], ◌∷◌, None, Option, Some, codes, if◌then◌else◌, ℕ}

-- The spec file of a call and the files beside it, over facts (this project's profile).
-- For clauses of src/finding.rt and src/naming.rt.

-- the bytes of a file that could be read
abbrev pub bytes_read : ReadAnswer → Option (List ℕ)
bytes_read (Read text) = Some text
bytes_read Missing = None
bytes_read Failed = None
bytes_read TooLarge = None

-- the bytes of a path that is a plain file and could be read
abbrev pub plain_text : Facts → List ℕ → Known (Option (List ℕ))
plain_text F path = asked (kind_of F path) >>= λ kind. if is_plain kind then (asked (read_of F path) >>= λ answer. Is (bytes_read answer))
    else Is None

-- the lines before the mark of a file, where it is a plain one and whole
abbrev pub written_lines : Facts → List ℕ → Known (Option (List ℕ))
written_lines F path = plain_text F path >>= λ text. Is (option_and_then whole_lines text)

-- whether a file is a plain one and whole
abbrev pub is_written : Facts → List ℕ → Known Bool
is_written F path = written_lines F path >>= λ lines. Is (is_some lines)

-- the lines of a file beside the spec file, where that is whole
abbrev pub written_beside : Facts → List ℕ → List ℕ → Known (Option (List ℕ))
written_beside F specs ending = written_lines F (companion specs ending)

-- the names of the compiler's options, a line each
abbrev pub known_names : Facts → List ℕ → Known (Option (List ℕ))
known_names F specs = written_beside F specs (codes ".options")

-- The spec file: the one that the variable GDRV_CC_SPECS names, or else the one beside the program, where that place is known. There is
-- none where that is no plain file.

-- a path, if a plain file is there
abbrev pub path_if_plain : List ℕ → PathKind → Option (List ℕ)
path_if_plain path kind = if is_plain kind then Some path else None

-- a path, if a plain file is there
abbrev pub plain_at : Facts → Option (List ℕ) → Known (Option (List ℕ))
plain_at F None = Is None
plain_at F (Some path) = asked (kind_of F path) >>= λ kind. Is (path_if_plain path kind)

-- the path that a variable's value names; an empty value names none
abbrev pub given_by : Option (List ℕ) → Option (List ℕ)
given_by None = None
given_by (Some []) = None
given_by (Some (b ∷ path)) = Some (path_of_caller (b ∷ path))

-- the spec file that the caller names by GDRV_CC_SPECS
abbrev pub file_of_variable : Facts → Known (Option (List ℕ))
file_of_variable F = asked (variable_of F (codes "GDRV_CC_SPECS")) >>= λ value. Is (given_by value)

-- the place where a spec file should be
abbrev pub or_own : Option (List ℕ) → Option (List ℕ) → Option (List ℕ)
or_own own None = own
or_own own (Some path) = Some path

-- the spec file of a call, if it is a plain file
abbrev pub spec_file : Facts → Option (List ℕ) → Known (Option (List ℕ))
spec_file F own = file_of_variable F >>= λ named. plain_at F (or_own own named)
