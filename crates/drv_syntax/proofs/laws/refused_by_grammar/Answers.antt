use Rattle.drv_syntax.proofs.ParsedGrammar.{parsed_refused}
use Rattle.drv_syntax.proofs.ParsedGrammar.{refused_parsed}
use Rattle.drv_syntax.proofs.laws.refused_by_grammar.Goals as goal

-- Names: `parsed_refused`: a text that is parsed to a fault is refused for it by the grammar. `refused_parsed`: a text that the grammar
-- refuses for a fault is parsed to this fault.

-- a fault of a text is one by the grammar
pub returns-clause-refused : goal.returns-clause-refused
returns-clause-refused c = parsed_refused

-- a fault by the grammar is what a text is parsed to
pub returns-clause-parsed : goal.returns-clause-parsed
returns-clause-parsed c = λ text fault. refused_parsed
