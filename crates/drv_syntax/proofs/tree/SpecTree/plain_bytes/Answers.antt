use Rattle.drv_syntax.proofs.tree.SpecTree.plain_bytes.Goals as goal
use Rattle.drv_syntax.specs.Parsed.{tree_of}
use Rattle.drv_syntax.specs.PlainRuns.{IsByte}
use Rattle.drv_syntax.specs.Tokens.{tokens_of}
use Rattle.std.proofs.Common.{subst, sym}

-- Names: `b`: a byte. `byte`: the clause's condition `IsByte`. `tree_of`: the tree of a text. `tokens_of`: the tokens of a tree.

-- a plain byte of the tree is one of its labels
pub returns-clause-begins : goal.returns-clause-begins
returns-clause-begins c b below byte =
    c.plain_bytes.ensures.begins b below
    (subst (λ tokens. IsByte tokens c.labels.result.now c.args.place b) (sym c.tokens.ensures)
    (subst (λ labels. IsByte (tokens_of (tree_of c.args.self.now)) labels c.args.place b) (sym c.labels.ensures) byte))
