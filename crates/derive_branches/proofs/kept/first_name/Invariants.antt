use Rattle.std.proofs.Common.{◌≡◌, drop}
use Rattle.syntax_lexer.specs.Token.{lexemes}
use Rattle.derive_branches.specs.Kept.{first_name}
use Rattle.derive_branches.proofs.kept.first_name.Given as goal

abbrev pub invariant-loop-token : goal.invariant-loop-token
invariant-loop-token l =
    first_name (lexemes (drop l.token-index l.tokens)) ≡ first_name (lexemes l.tokens)
