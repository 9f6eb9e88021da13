use Rattle.drv_words.specs.Bytes as ascii
use Rattle.drv_syntax.specs.Bytes.{is_name_byte, is_of, is_suffix, is_white}
use Rattle.drv_syntax.specs.Code.Writing.{runs_in}
use Rattle.drv_syntax.specs.declared.descent.contexts.ListKind.TheVariants as lists
use Rattle.drv_syntax.specs.declared.descent.contexts.ListKind.{ListKind}
use Rattle.drv_syntax.specs.declared.descent.runs.RunKind.TheVariants as kinds
use Rattle.drv_syntax.specs.declared.descent.runs.RunKind.{RunKind}
use Rattle.std.specs.Prelude.{Bool, List, [], ◌∷◌, not, ℕ}

-- Bytes that are read in runs. For the clauses of src/descent/runs.rt alone.

-- the bytes that are not plain in a list of this kind: they begin another item, or end the list
abbrev pub stops : ListKind → List ℕ
stops lists.Top = ascii.backslash ∷ ascii.percent ∷ ascii.bar ∷ ascii.space ∷ ascii.tab ∷ ascii.newline ∷ []
stops lists.InX = ascii.backslash ∷ ascii.percent ∷ ascii.bar ∷ ascii.space ∷ ascii.tab ∷ ascii.newline ∷ ascii.semicolon
    ∷ ascii.closing_brace ∷ []
stops lists.InArguments = ascii.backslash ∷ ascii.percent ∷ ascii.bar ∷ ascii.space ∷ ascii.tab ∷ ascii.newline ∷ ascii.closing_parenthesis
    ∷ []

-- the byte is plain in a list of this kind, so that `run_length` of src/descent/runs.rt may run over it
abbrev pub runs : ListKind → ℕ → Bool
runs kind b = not (is_of (stops kind) b)

-- the bytes that end a text for the user in a list of this kind, and the one that escapes the next
abbrev pub said_stops : ListKind → List ℕ
said_stops lists.Top = ascii.backslash ∷ ascii.newline ∷ []
said_stops lists.InX = ascii.backslash ∷ ascii.newline ∷ ascii.semicolon ∷ ascii.closing_brace ∷ []
said_stops lists.InArguments = ascii.backslash ∷ ascii.newline ∷ []

-- the byte is one of a run of this kind
abbrev pub in_run : RunKind → ℕ → Bool
in_run kinds.White = is_white
in_run kinds.Name = is_name_byte
in_run kinds.Suffix = is_suffix
in_run (kinds.Plain list) = runs list
in_run (kinds.Word class) = runs_in class
