use Rattle.std.proofs.Common.{◌≡◌, ◌≤◌, ◌+◌, ◌*◌, ◌^◌, drop}
use Rattle.syntax_lexer.specs.Token.{lexemes}
use Rattle.syntax_directives.specs.Grammar as grammar
use Rattle.syntax_directives.proofs.weight.weight_of.Given as goal

abbrev pub invariant-loop-token : goal.invariant-loop-token
invariant-loop-token l = record {
  sum : l.weight + grammar.weight_of (lexemes (drop l.token-index l.tokens)) ≡ grammar.weight_of (lexemes l.tokens);
  bound : l.weight ≤ l.token-index * (32 + 3 * 2 ^ 64);
}
