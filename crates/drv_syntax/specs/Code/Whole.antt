use Rattle.drv_syntax.specs.Code.Writing.{flat, given}
use Rattle.drv_syntax.specs.Contexts.{top}
use Rattle.drv_syntax.specs.Descent.{levels}
use Rattle.drv_syntax.specs.Labels.{Label, labels, nodes_of}
use Rattle.drv_syntax.specs.Outcome.{descent, judged}
use Rattle.drv_syntax.specs.Parsed.{listed}
use Rattle.drv_syntax.specs.declared.fault.SyntaxFault.{SyntaxFault}
use Rattle.drv_syntax.specs.declared.token.Token.{Token}
use Rattle.std.specs.Prelude.{◌++◌, List, None, Result, length, ℕ}

-- What the code gives of a whole text. For the clauses of src/descent/reading.rt alone.

-- the tokens and labels of a whole text, or its fault; that it is too long is judged before
abbrev pub whole_given : List ℕ → Result (List Token × List Label) SyntaxFault
whole_given text = listed (judged (descent text))

-- the tokens and labels of a text of which the first n bytes were read before, and gave these tokens and labels
abbrev pub rest_given : ℕ → List ℕ → List Token → List Label → Result (List Token × List Label) SyntaxFault
rest_given n more tokens names =
    given None (λ list end. (tokens ++ flat (length tokens) (nodes_of list.0), names ++ labels (nodes_of list.0)))
    ((levels 64).0 top (record { at = n; bytes = more }))
