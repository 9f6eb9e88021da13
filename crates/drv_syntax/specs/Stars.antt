use Rattle.drv_syntax.specs.Tree.{ArgumentsFile, Asked, Brace, Braces, Choices, Choose, Emit, FailureFile, Function, HasResult, Item, Items}
use Rattle.drv_syntax.specs.Tree.{Star, Tests, choice, more, no_choice, no_test, none, test}
use Rattle.std.specs.Prelude.{◌||◌, Bool, false, true}

-- Which %* belong to an X (GCC manual, "Spec Files"; this project's profile): such an X is run for each switch that is hit. Labels keep it
-- for each alternative (`holds_star`).

abbrev mutual
  -- a %* that belongs to the X that these items are: it is in it, outside the Xs of inner braces
  pub has_star : Items → Bool
  has_star none = false
  has_star (more span item items) = item_has_star item || has_star items

  -- an item is a %* of the X around it, or holds one
  pub item_has_star : Item → Bool
  item_has_star Star = true
  item_has_star (Function name arguments) = has_star arguments
  item_has_star (Braces brace) = brace_has_star brace
  item_has_star (FailureFile brace) = brace_has_star brace
  item_has_star (ArgumentsFile brace) = brace_has_star brace
  item_has_star _ = false

  -- braces hold a %* of the X around them: in a test's arguments alone, for their own Xs have theirs
  pub brace_has_star : Brace → Bool
  brace_has_star (Emit patterns) = false
  brace_has_star (Choose choices) = choices_have_star choices

  -- alternatives hold a %* of the X around their braces: in their tests, not in their own Xs
  pub choices_have_star : Choices → Bool
  choices_have_star no_choice = false
  choices_have_star (choice span tests items choices) = tests_have_star tests || choices_have_star choices

  -- tests hold a %* of the X around their braces: in the arguments of a function
  pub tests_have_star : Tests → Bool
  tests_have_star no_test = false
  tests_have_star (test span negated asked tests) = asked_has_star asked || tests_have_star tests

  -- what a test asks holds a %* of the X around its braces
  pub asked_has_star : Asked → Bool
  asked_has_star (HasResult name arguments) = has_star arguments
  asked_has_star _ = false
