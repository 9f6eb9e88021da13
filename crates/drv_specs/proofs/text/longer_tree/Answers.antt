use Rattle.drv_specs.proofs.Appending.{read_on}
use Rattle.drv_specs.proofs.text.longer_tree.Goals as goal
use Rattle.drv_syntax.specs.Outcome.{parsed}
use Rattle.drv_syntax.specs.Parsed.{tree_of}
use Rattle.drv_syntax.specs.declared.fault.SyntaxFault.TheVariants as syntax
use Rattle.drv_words.specs.Gives.{Gives}
use Rattle.std.proofs.Common.{◌≡◌, ◌∙◌, List, ap, drop, length, nat_eq, subst, ℕ}
use Rattle.std.specs.List.{starts_with}
use Rattle.std.specs.Prelude.{IfOk}

-- Names: `read_on`: the older tree's text with what was added since is the text with the addition.

-- the older tree read on is that of both texts together
pub returns-then-starts_with-clause-tree : goal.returns-then-starts_with-clause-tree
returns-then-starts_with-clause-tree c =
    subst (λ (t : List ℕ). Gives syntax.Memory tree_of c.extend.result (parsed t))
    (read_on c.args.text.now c.in-Some.tree c.following.result.now c.as_bytes.result.now c.args.more.now
    (c.if-starts_with.ensures.value ∙ ap (λ (t : List ℕ). starts_with nat_eq c.args.text.now t) c.text.ensures)
    (c.following.ensures ∙ ap (λ (t : List ℕ). drop (length t) c.args.text.now) c.text-then-starts_with.ensures)
    (c.as_bytes.ensures ∙ c.in_ok-added.ensures))
    c.extend.ensures.tree

pub returns-then-starts_with-clause-text : goal.returns-then-starts_with-clause-text
returns-then-starts_with-clause-text c =
    subst (λ (t : List ℕ). IfOk c.extend.result (λ tree. tree ≡ t))
    (read_on c.args.text.now c.in-Some.tree c.following.result.now c.as_bytes.result.now c.args.more.now
    (c.if-starts_with.ensures.value ∙ ap (λ (t : List ℕ). starts_with nat_eq c.args.text.now t) c.text.ensures)
    (c.following.ensures ∙ ap (λ (t : List ℕ). drop (length t) c.args.text.now) c.text-then-starts_with.ensures)
    (c.as_bytes.ensures ∙ c.in_ok-added.ensures))
    c.extend.ensures.text
