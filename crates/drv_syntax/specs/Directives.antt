use Rattle.drv_syntax.specs.Bytes.{is_of}
use Rattle.drv_syntax.specs.Tree.{ArgumentsFile, Brace, Braces, FailureFile, Item, Notice, UserError}
use Rattle.drv_syntax.specs.declared.directives.BraceKind.TheVariants.{InPlace, IntoArgumentsFile, IntoFailureFile}
use Rattle.drv_syntax.specs.declared.directives.BraceKind.{BraceKind}
use Rattle.drv_syntax.specs.declared.directives.BuiltinName.TheVariants.{Assembler, AssemblerFinal, Compiler, CompilerPlus, EndFiles}
use Rattle.drv_syntax.specs.declared.directives.BuiltinName.TheVariants.{Libraries, Linker, Preprocessor, StartFiles, Support}
use Rattle.drv_syntax.specs.declared.directives.BuiltinName.{BuiltinName}
use Rattle.drv_syntax.specs.declared.directives.Directive.TheVariants.{Named, Nowhere, OfStar, Whole, WithBraces, WithCall}
use Rattle.drv_syntax.specs.declared.directives.Directive.TheVariants.{WithMarkedBraces, WithName, WithOption, WithPattern, WithSaying}
use Rattle.drv_syntax.specs.declared.directives.Directive.TheVariants.{WithSuffix}
use Rattle.drv_syntax.specs.declared.directives.Directive.{Directive}
use Rattle.drv_syntax.specs.declared.directives.SayKind.TheVariants.{AsError, AsNotice}
use Rattle.drv_syntax.specs.declared.directives.SayKind.{SayKind}
use Rattle.drv_syntax.specs.declared.token.Leaf.TheVariants.{AssemblerOptions, BaseName, BaseStem, Directories, FoundFile, FoundScript}
use Rattle.drv_syntax.specs.declared.token.Leaf.TheVariants.{Accumulated, InputName, NoOutput, ObjectSuffix, Output, Outputs, Percent}
use Rattle.drv_syntax.specs.declared.token.Leaf.TheVariants.{PreprocessorOptions, Removed}
use Rattle.drv_syntax.specs.declared.token.TempKind.TheVariants.{Last, New, PipedIn, PipedOut, Shared}
use Rattle.std.specs.Prelude.{◌==◌, Bool, false, true, if◌then◌else◌, List, [], ◌∷◌, ◌++◌, codes, ℕ}

-- The directives, by the byte after their % (GCC manual, "Spec Files"). A new one has a row here and in src/directives.rt, a meaning in
-- drv_machine (specs/Atoms), and, if it holds parts, a case in Spelling, Fronts, Refusals and Descent.

-- a row of a table by bytes, for the byte that this text is
abbrev pub on : {X : Type 0} → List ℕ → X → ℕ × X
on [] x = (0, x)
on (b ∷ text) x = (b, x)

-- what a table by bytes has for a byte, or else this
abbrev pub found : {X : Type 0} → X → List (ℕ × X) → ℕ → X
found otherwise [] b = otherwise
found otherwise (row ∷ rows) b = if b == row.0 then row.1 else found otherwise rows b

-- what each goes on with, in the order of the manual: the directives of files and their names
abbrev pub file_directives : List (ℕ × Directive)
file_directives =
    on (codes "%") (Whole Percent) ∷  -- %%
    on (codes "i") (Whole InputName) ∷  -- %i
    on (codes "b") (Whole BaseStem) ∷  -- %b
    on (codes "B") (Whole BaseName) ∷  -- %B
    on (codes "d") (Whole Removed) ∷  -- %d
    on (codes "g") (WithSuffix Shared) ∷  -- %gSUFFIX
    on (codes "u") (WithSuffix New) ∷  -- %uSUFFIX
    on (codes "U") (WithSuffix Last) ∷  -- %USUFFIX
    on (codes "|") (WithSuffix PipedOut) ∷  -- %|SUFFIX
    on (codes "m") (WithSuffix PipedIn) ∷  -- %mSUFFIX
    on (codes "w") (Whole Output) ∷  -- %w
    on (codes "V") (Whole NoOutput) ∷  -- %V
    on (codes "o") (Whole Outputs) ∷  -- %o
    on (codes "O") (Whole ObjectSuffix) ∷  -- %O
    on (codes "s") (Whole FoundFile) ∷  -- %s
    on (codes "T") (Whole FoundScript) ∷  -- %T
    []

-- what each goes on with, in the order of the manual: the directives of options and texts, with an inside or without one
abbrev pub text_directives : List (ℕ × Directive)
text_directives =
    on (codes "e") (WithSaying AsError) ∷  -- %eTEXT
    on (codes "n") (WithSaying AsNotice) ∷  -- %nTEXT
    on (codes "x") WithOption ∷  -- %x{OPTION}
    on (codes "X") (Whole Accumulated) ∷  -- %X
    on (codes "Y") (Whole AssemblerOptions) ∷  -- %Y
    on (codes "Z") (Whole PreprocessorOptions) ∷  -- %Z
    on (codes "a") (Named Assembler) ∷  -- %a
    on (codes "A") (Named AssemblerFinal) ∷  -- %A
    on (codes "l") (Named Linker) ∷  -- %l
    on (codes "D") (Whole Directories) ∷  -- %D
    on (codes "L") (Named Libraries) ∷  -- %L
    on (codes "G") (Named Support) ∷  -- %G
    on (codes "S") (Named StartFiles) ∷  -- %S
    on (codes "E") (Named EndFiles) ∷  -- %E
    on (codes "C") (Named Preprocessor) ∷  -- %C
    on (codes "1") (Named Compiler) ∷  -- %1
    on (codes "2") (Named CompilerPlus) ∷  -- %2
    on (codes "*") OfStar ∷  -- %*
    on (codes "(") WithName ∷  -- %(NAME)
    on (codes "<") WithPattern ∷  -- %<PATTERN
    on (codes ">") WithPattern ∷  -- %>PATTERN
    on (codes ":") WithCall ∷  -- %:NAME(ARGUMENTS)
    on (codes "{") WithBraces ∷  -- %{..}
    on (codes "W") (WithMarkedBraces IntoFailureFile) ∷  -- %W{..}
    on (codes "@") (WithMarkedBraces IntoArgumentsFile) ∷  -- %@{..}
    []

-- what a byte after % says among the directives of options and texts; `Nowhere` for a byte that is none of them
abbrev pub text_directive_of : ℕ → Directive
text_directive_of b = found Nowhere text_directives b

-- all directives, in the order of the manual
abbrev pub directives : List (ℕ × Directive)
directives = file_directives ++ text_directives

-- what a byte after % says; `Nowhere` for a byte that is no directive
abbrev pub directive_of : ℕ → Directive
directive_of b = found Nowhere directives b

-- in a function's arguments, and in braces there, these directives alone are allowed: %% %i %b %B %O %s %* %{ %:
abbrev pub is_allowed : Bool → ℕ → Bool
is_allowed false b = true
is_allowed true b = is_of (codes "%ibBOs*{:") b

-- the name of the text that a letter denotes
abbrev pub text_of : BuiltinName → List ℕ
text_of Assembler = codes "asm"
text_of AssemblerFinal = codes "asm_final"
text_of Linker = codes "link"
text_of Libraries = codes "lib"
text_of Support = codes "libgcc"
text_of StartFiles = codes "startfile"
text_of EndFiles = codes "endfile"
text_of Preprocessor = codes "cpp"
text_of Compiler = codes "cc1"
text_of CompilerPlus = codes "cc1plus"

-- the item that braces are, by what is before them: nothing, W or @
abbrev pub braced : BraceKind → Brace → Item
braced InPlace brace = Braces brace
braced IntoFailureFile brace = FailureFile brace
braced IntoArgumentsFile brace = ArgumentsFile brace

-- the item that a text for the user is: of %e an error, of %n a notice
abbrev pub said : SayKind → List ℕ → Item
said AsError text = UserError text
said AsNotice text = Notice text
