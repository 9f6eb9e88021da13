use Rattle.drv_funcs.specs.Functions.{function_of, name_of}
use Rattle.drv_funcs.specs.Functions as funcs
use Rattle.drv_funcs.specs.declared.function.Function.TheVariants.{Getenv, IfExists, IfExistsElse, IfExistsThenElse, RemoveOutfile}
use Rattle.drv_funcs.specs.declared.function.Function.TheVariants.{ReplaceOutfile, VersionCompare}
use Rattle.drv_funcs.specs.declared.function.Function.{Function}
use Rattle.drv_syntax.proofs.FunctionNames.{same_pointwise}
use Rattle.drv_syntax.specs.Bytes.{any_of, is_function, is_same}
use Rattle.std.proofs.Common.{◌≡◌, ◌∙◌, List, [], ◌∷◌, ap, refl, sym}
use Rattle.std.specs.Cmp.Lexicographic.{pointwise}
use Rattle.std.specs.Map.{lookup}
use Rattle.std.specs.Prelude.{Bool, Some, cond, false, if◌then◌else◌, is_some, map, nat_eq, true, ℕ}

-- For `function_names` (grammar.rt), which lists what may follow `%:`: the grammar knows exactly the names of the functions.
-- Names: `t`: a test's value, so that `by` can go by both cases. `any_of`: one of these names passes the test f. `is_same`: two names are
-- equal, byte by byte.

-- a name is one of a table's names exactly if it has a row
among : {X : Type 0} (name : List ℕ) (rows : List (List ℕ × X))
    → any_of (is_same name) (map (λ row. row.0) rows) ≡ is_some (lookup (pointwise nat_eq name) rows)
among name [] = refl
among name (row ∷ rows) = ap (λ t. if t then true else any_of (is_same name) (map (λ other. other.0) rows))
    (sym (same_pointwise name row.0)) ∙ by (pointwise nat_eq name row.0) (among name rows)
  where
    by : (t : Bool) → any_of (is_same name) (map (λ other. other.0) rows) ≡ is_some (lookup (pointwise nat_eq name) rows)
        → (if t then true else any_of (is_same name) (map (λ other. other.0) rows))
        ≡ is_some (cond t (Some row.1) (lookup (pointwise nat_eq name) rows))
    by true e = refl
    by false e = e

-- a name is one of the grammar exactly if a function has it
pub is_function_known : (name : List ℕ) → is_function name ≡ is_some (function_of name)
is_function_known name = among name funcs.functions

-- the name of each function denotes it
pub name_of_denotes : (function : Function) → function_of (name_of function) ≡ Some function
name_of_denotes Getenv = refl
name_of_denotes IfExists = refl
name_of_denotes IfExistsElse = refl
name_of_denotes IfExistsThenElse = refl
name_of_denotes ReplaceOutfile = refl
name_of_denotes RemoveOutfile = refl
name_of_denotes VersionCompare = refl
