use Rattle.syntax_lexer.proofs.Unique as laws
use Rattle.syntax_lexer.proofs.source.one_outcome.Goals as goal

pub returns : goal.returns
returns c = λ bytes o q p h. laws.one_outcome p h
