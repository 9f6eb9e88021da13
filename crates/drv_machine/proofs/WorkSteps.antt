use Rattle.drv_machine.proofs.ItemKinds.{inner_step}
use Rattle.drv_machine.proofs.Steps.{fails_as, then_fails}
use Rattle.drv_machine.specs.Atoms.{input_name, leaf_step}
use Rattle.drv_machine.specs.Code.ByKind.{Means, kind_step}
use Rattle.drv_machine.specs.Context.{Context}
use Rattle.drv_machine.specs.Code.Running.{Machine, run}
use Rattle.drv_machine.specs.Code.Standing.{Stands}
use Rattle.drv_machine.specs.Working.{◌>>=◌, Levels, Step}
use Rattle.drv_machine.specs.declared.fault.MachineFault.TheVariants.{Memory}
use Rattle.drv_machine.specs.declared.fault.MachineFault.{MachineFault}
use Rattle.drv_syntax.specs.Labels.{inner_nodes, label_at}
use Rattle.drv_syntax.specs.Parsed.{tree_of}
use Rattle.drv_syntax.specs.Tokens.{kind_of}
use Rattle.drv_syntax.specs.Tree as tree
use Rattle.drv_syntax.specs.Tree.{Item}
use Rattle.drv_syntax.specs.declared.token.Leaf.{Leaf}
use Rattle.drv_syntax.specs.declared.token.TokenKind.{TokenKind}
use Rattle.drv_system.specs.Facts.{Facts}
use Rattle.drv_system.specs.Known.{Is}
use Rattle.std.proofs.Common.{◌≡◌, ◌⊎◌, ◌∙◌, Err, List, ap, refl, sym, ℕ}

-- For `work_item` and `work_leaf`: the item at a place, by its kind, does what the definition says.
-- Names: `F`: what is known of the outside. `C`: what the text is run for (switches, texts). `at`, `end`: places in the text's list of
-- parts. `s`: the machine: what has been cut, and the world. `star`: the value of `%*`. `levels`: what items mean after each part that may
-- still be opened. `run`: runs a step after what has been cut, in its world. `leaf_step`: the directives that are whole with their byte.
-- `input_name`: the name of the input. `kind_step`: `star` is the value of %*, and `inner` what the braces mean, or the text of a name.
-- `label_at`: the label of the part at this place of the list. `tree_of`: the tree of a text.

-- the part in an item is what the braces of its kind mean
pub item_means : (F : Facts) (C : Context) (text : List ℕ) (at end : ℕ) (levels : Levels) (star : List ℕ) (item : Item)
    → Stands text at (inner_nodes item) end
    → Means F C text (kind_of item) at end levels star (inner_step F C item levels star)
item_means F C text at end levels star (tree.Plain b) s = tt
item_means F C text at end levels star (tree.Escape b) s = tt
item_means F C text at end levels star tree.Blank s = tt
item_means F C text at end levels star tree.Newline s = tt
item_means F C text at end levels star tree.Pipe s = tt
item_means F C text at end levels star (tree.Leaf leaf) s = tt
item_means F C text at end levels star (tree.TempName kind suffix) s = tt
item_means F C text at end levels star (tree.Accumulate option) s = tt
item_means F C text at end levels star (tree.UserError words) s = tt
item_means F C text at end levels star (tree.Notice words) s = tt
item_means F C text at end levels star (tree.NamedText name) s = tt
item_means F C text at end levels star (tree.BuiltinText name) s = tt
item_means F C text at end levels star (tree.Hide p) s = tt
item_means F C text at end levels star (tree.Function name arguments) s = tt
item_means F C text at end levels star (tree.Braces (tree.Emit patterns)) s = (patterns, s, refl)
item_means F C text at end levels star (tree.Braces (tree.Choose choices)) s = (choices, s, refl)
item_means F C text at end levels star tree.Star s = tt
item_means F C text at end levels star (tree.FailureFile brace) s = tt
item_means F C text at end levels star (tree.ArgumentsFile brace) s = tt

-- the step of a kind, with another name for the same kind: for each arm of the code's match
pub by_kind : (F : Facts) (C : Context) (s : Machine) (kind k : TokenKind) (text : List ℕ) (at : ℕ) (star : List ℕ)
    (inner : Step (Unit {0})) → kind ≡ k
    → run F C s (kind_step F C k (label_at (tree_of text) at) star inner)
    ≡ run F C s (kind_step F C kind (label_at (tree_of text) at) star inner)
by_kind F C s kind k text at star inner e = ap (λ x. run F C s (kind_step F C x (label_at (tree_of text) at) star inner)) (sym e)

-- the step of a directive, with another name for the same directive
pub by_leaf : (F : Facts) (C : Context) (s : Machine) (leaf l : Leaf) → leaf ≡ l
    → run F C s (leaf_step F C l) ≡ run F C s (leaf_step F C leaf)
by_leaf F C s leaf l e = ap (λ x. run F C s (leaf_step F C x)) (sym e)

-- a directive that uses the input's name is refused where the text has no input
pub leaf_unnamed : (F : Facts) (C : Context) (s : Machine) (leaf other : Leaf) → leaf ≡ other → (rest : List ℕ → Step (Unit {0}))
    → leaf_step F C other ≡ (input_name F C >>= rest) → (fault : MachineFault)
    → (fault ≡ Memory) ⊎ (run F C s (input_name F C) ≡ Is (Err fault))
    → (fault ≡ Memory) ⊎ (run F C s (leaf_step F C leaf) ≡ Is (Err fault))
leaf_unnamed F C s leaf other is rest means fault stopped =
    fails_as _ (run F C s (leaf_step F C leaf)) (then_fails F C s (input_name F C) rest fault stopped)
    (λ e. sym (by_leaf F C s leaf other is) ∙ ap (run F C s) means ∙ e)
