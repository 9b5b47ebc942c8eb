use Rattle.std.proofs.Common.{◌≡◌, ◌≤◌}
use Rattle.syntax_lexer.specs.Token.{lexemes}
use Rattle.derive_constants.specs.Cutting.{directives}
use Rattle.derive_constants.proofs.Cuts.{cut_at}
use Rattle.derive_constants.proofs.cutting.directive_length.Given as goal

abbrev pub invariant-loop-at : goal.invariant-loop-at
invariant-loop-at l = record {
  shallow : l.depth ≤ l.at;
  rest : cut_at l.depth l.at l.tokens ≡ directives (lexemes l.tokens);
}
