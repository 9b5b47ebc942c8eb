use Rattle.std.proofs.Common.{◌≡◌, drop}
use Rattle.syntax_lexer.specs.Token.{lexemes}
use Rattle.derive_tokens.specs.Own.{own_fault}
use Rattle.derive_tokens.proofs.own.own_name.Given as goal

abbrev pub invariant-loop-token : goal.invariant-loop-token
invariant-loop-token l = own_fault (lexemes (drop l.token-index l.tokens)) ≡ own_fault (lexemes l.tokens)
