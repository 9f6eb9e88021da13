use Rattle.drv_funcs.specs.declared.function.Function.{Function}
use Rattle.drv_funcs.specs.declared.function.Function.TheVariants.{Getenv, IfExists, IfExistsElse, IfExistsThenElse, RemoveOutfile}
use Rattle.drv_funcs.specs.declared.function.Function.TheVariants.{ReplaceOutfile, VersionCompare}
use Rattle.std.specs.Cmp.Lexicographic.{pointwise}
use Rattle.std.specs.Map.{lookup}
use Rattle.std.specs.Prelude.{List, [], ◌∷◌, Option, codes, nat_eq, ℕ}

-- The names of the functions of spec texts (GCC manual, "Spec Files"; which functions there are is this project's profile).

-- the name of a function
abbrev pub name_of : Function → List ℕ
name_of Getenv = codes "getenv"
name_of IfExists = codes "if-exists"
name_of IfExistsElse = codes "if-exists-else"
name_of IfExistsThenElse = codes "if-exists-then-else"
name_of ReplaceOutfile = codes "replace-outfile"
name_of RemoveOutfile = codes "remove-outfile"
name_of VersionCompare = codes "version-compare"

-- the functions by their names
abbrev pub functions : List (List ℕ × Function)
functions =
    (codes "getenv", Getenv) ∷ (codes "if-exists", IfExists) ∷ (codes "if-exists-else", IfExistsElse)
    ∷ (codes "if-exists-then-else", IfExistsThenElse) ∷ (codes "replace-outfile", ReplaceOutfile)
    ∷ (codes "remove-outfile", RemoveOutfile) ∷ (codes "version-compare", VersionCompare) ∷ []

-- the function with this name
abbrev pub function_of : List ℕ → Option Function
function_of name = lookup (pointwise nat_eq name) functions
