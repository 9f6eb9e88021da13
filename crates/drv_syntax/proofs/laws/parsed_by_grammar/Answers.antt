use Rattle.drv_syntax.proofs.ParsedGrammar as kinds
use Rattle.drv_syntax.proofs.laws.parsed_by_grammar.Goals as goal

-- a text with a tree by the grammar is parsed to it
pub returns-clause-tree : goal.returns-clause-tree
returns-clause-tree c = kinds.parsed_tree

-- a text whose front the grammar refuses is refused for that fault, whatever follows
pub returns-clause-refusal : goal.returns-clause-refusal
returns-clause-refusal c = kinds.parsed_refusal

-- a front without a tree is cut short at what is open
pub returns-clause-cut : goal.returns-clause-cut
returns-clause-cut c = kinds.parsed_cut

-- a text with too many bytes is refused for that
pub returns-clause-too_long : goal.returns-clause-too_long
returns-clause-too_long c = kinds.parsed_long
