use Rattle.drv_specs.specs.Sets.{Set, by_tree}
use Rattle.drv_specs.specs.declared.fault.SpecsFault.TheVariants.{Syntax}
use Rattle.drv_syntax.specs.Tree.{Items}
use Rattle.drv_syntax.specs.declared.fault.SyntaxFault.{SyntaxFault}
use Rattle.std.proofs.Common.{◌≡◌, Err, List, Ok, Result, ap, ℕ}

-- For `parsed_text` and `extended_text`: what a text that is put gives, by the answer of its parse: the set, or a refusal with the fault.
-- Names: `name` is the name of a text. `set` is the set with it. `given` is what its parse gives: a tree, or a fault. `by_tree` is the set,
-- or the refusal by that fault.

-- a text with a tree gives the set
pub tree_given : (name : List ℕ) (set : Set) (tree : Items) (given : Result Items SyntaxFault) → given ≡ Ok tree
    → by_tree name set given ≡ Ok set
tree_given name set tree given is = ap (by_tree name set) is

-- a text without a tree is refused with its fault
pub tree_refused : (name : List ℕ) (set : Set) (fault : SyntaxFault) (given : Result Items SyntaxFault) → given ≡ Err fault
    → by_tree name set given ≡ Err (Syntax name fault)
tree_refused name set fault given is = ap (by_tree name set) is
