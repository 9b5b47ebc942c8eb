use Rattle.syntax_lexer.proofs.Printable as printable
use Rattle.syntax_lexer.proofs.laws.printable_tokens.Goals as goal

pub returns : goal.returns
returns c = printable.printable_tokens
