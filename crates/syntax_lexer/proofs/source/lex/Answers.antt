use Rattle.syntax_lexer.specs.Tokens.{Lexes}
use Rattle.syntax_lexer.proofs.Loop.{meets_unplaced}
use Rattle.syntax_lexer.proofs.source.lex.Goals as goal

pub returns-in-Err-clause-meets : goal.returns-in-Err-clause-meets
returns-in-Err-clause-meets c =
    meets_unplaced (λ o. Lexes 0 1 c.args.source.now o) c.in-Err.placed c.in-Err.ensures.meets
