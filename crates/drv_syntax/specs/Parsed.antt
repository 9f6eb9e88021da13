use Rattle.drv_syntax.specs.Labels.{Label, labels_of}
use Rattle.drv_syntax.specs.Outcome.{parsed}
use Rattle.drv_syntax.specs.Tokens.{tokens_of}
use Rattle.drv_syntax.specs.Tree.{Items, none}
use Rattle.drv_syntax.specs.declared.fault.SyntaxFault.{SyntaxFault}
use Rattle.drv_syntax.specs.declared.token.Token.{Token}
use Rattle.std.specs.Prelude.{List, Result, Err, Ok, ℕ}

-- The tree of a text that has one, and its tokens and labels (this project's profile). Contracts of all crates that go over a `SpecTree`
-- cite it.

-- the tree that was read, or no item in place of a fault
abbrev pub tree_in : Result Items SyntaxFault → Items
tree_in (Ok items) = items
tree_in (Err fault) = none

-- the tree of a text; where it has none, this says nothing
abbrev pub tree_of : List ℕ → Items
tree_of text = tree_in (parsed text)

-- the tokens of a tree and their labels, or the fault in place of a tree
abbrev pub listed : Result Items SyntaxFault → Result (List Token × List Label) SyntaxFault
listed (Ok items) = Ok (tokens_of items, labels_of items)
listed (Err fault) = Err fault
