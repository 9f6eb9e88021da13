use Rattle.drv_syntax.specs.Labels.{Label, label_at, part_label}
use Rattle.drv_syntax.specs.Tree.{Items}
use Rattle.drv_syntax.specs.declared.token.TestKind.TheVariants as asking
use Rattle.drv_syntax.specs.declared.token.TestKind.{TestKind}
use Rattle.std.specs.Cmp.Lexicographic.{pointwise}
use Rattle.std.specs.List.{list_all, list_any, starts_with}
use Rattle.std.specs.Prelude.{◌&&◌, Bool, List, [], ◌∷◌, false, if◌then◌else◌, nat_eq, not, true, ℕ}

-- Branches that no line reaches (GCC manual, "Spec Files", %{S:X; T:Y; :D}; that it is a warning is this project's profile). A branch is an
-- alternative of braces. The first one with a true test counts.
-- For clauses of src/branches.rt, and laws of src/laws.rt.

-- each switch that the second pattern names is named by the first
abbrev pub names_all : Label → Label → Bool
names_all first second = if first.starred then starts_with nat_eq second.word first.word
    else not second.starred && pointwise nat_eq second.word first.word

-- what the first one asks is so wherever what the second one asks is so; a function may answer otherwise when it is called again
abbrev pub asks_all : TestKind → TestKind → Label → Label → Bool
asks_all asking.Switch asking.Switch first second = names_all first second
asks_all asking.Suffix asking.Suffix first second = pointwise nat_eq second.word first.word
asks_all asking.Language asking.Language first second = pointwise nat_eq second.word first.word
asks_all one other first second = false

-- the first test is true wherever the second one is; a ! turns both
abbrev pub covers : Label → Label → Bool
covers first second =
    if first.negated then second.negated && asks_all second.asks first.asks second first
    else not second.negated && asks_all first.asks second.asks first second

-- A branch that can't be reached: it has a test, and a test of an earlier one covers each of its own. One without a test is the last one.

-- whether a test is covered by an earlier one: where it is true, that one was true before it
abbrev pub is_covered : List Label → Label → Bool
is_covered earlier test = list_any (λ other. covers other test) earlier

-- whether a branch has no test and so is always reached, if it is the last
abbrev pub is_default : List Label → Bool
is_default [] = true
is_default (test ∷ tests) = false

-- whether no line reaches a branch of these tests after earlier ones
abbrev pub is_unreachable : List Label → List Label → Bool
is_unreachable earlier tests = not (is_default tests) && list_all (is_covered earlier) tests

-- the test that the n-th token's label shows
abbrev pub test_at : Items → ℕ → Label
test_at items n = part_label (label_at items n).word (label_at items n).starred (label_at items n).negated (label_at items n).asks
