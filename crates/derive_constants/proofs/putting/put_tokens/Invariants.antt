use Rattle.std.proofs.Common.{◌≡◌, ◌++◌, drop}
use Rattle.syntax_lexer.specs.Token.{lexemes}
use Rattle.derive_tokens.specs.Pieces.{derived_all}
use Rattle.derive_constants.proofs.putting.put_tokens.Given as goal

abbrev pub invariant-loop-token : goal.invariant-loop-token
invariant-loop-token l = derived_all l.out.items ++ lexemes (drop l.token-index l.tokens)
    ≡ derived_all l.initial.out.items ++ lexemes l.tokens
