use Rattle.drv_funcs.specs.Versions.{order}
use Rattle.drv_funcs.specs.declared.operator.Operator.{Operator}
use Rattle.drv_funcs.specs.declared.operator.Operator.TheVariants.{AtLeast, Below, Between, NotAtLeast, NotBelow, Outside}
use Rattle.std.specs.Cmp.Lexicographic.{pointwise}
use Rattle.std.specs.Map.{lookup}
use Rattle.std.specs.Ordering.{is_lt}
use Rattle.std.specs.Prelude.{◌&&◌, ◌||◌, Bool, List, [], ◌∷◌, Option, codes, false, nat_eq, not, true, ℕ}

-- The comparisons of `version-compare` (GCC manual, "Spec Files").

-- the operators, as a spec text writes them
abbrev pub operators : List (List ℕ × Operator)
operators =
    (codes ">=", AtLeast) ∷ (codes "!>", NotAtLeast) ∷ (codes "<", Below) ∷ (codes "!<", NotBelow) ∷ (codes "><", Between) ∷
    (codes "<>", Outside) ∷ []

-- the comparison with this name
abbrev pub operator_of : List ℕ → Option Operator
operator_of word = lookup (pointwise nat_eq word) operators

-- whether a comparison takes a second version
abbrev pub takes_two : Operator → Bool
takes_two Between = true
takes_two Outside = true
takes_two operator = false

-- a version is earlier than another
abbrev pub is_earlier : List ℕ → List ℕ → Bool
is_earlier one other = is_lt (order one other)

-- how a version compares with the first version, and with the second if the comparison takes two
abbrev pub holds : Operator → List ℕ → List ℕ → List ℕ → Bool
holds AtLeast value first second = not (is_earlier value first)
holds NotAtLeast value first second = is_earlier value first
holds Below value first second = is_earlier value first
holds NotBelow value first second = not (is_earlier value first)
holds Between value first second = not (is_earlier value first) && is_earlier value second
holds Outside value first second = is_earlier value first || not (is_earlier value second)

-- the answer if no switch has the prefix: a comparison that begins with `!` holds
abbrev pub holds_of_none : Operator → Bool
holds_of_none NotAtLeast = true
holds_of_none NotBelow = true
holds_of_none operator = false
