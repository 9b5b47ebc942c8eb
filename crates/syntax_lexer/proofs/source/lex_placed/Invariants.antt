use Rattle.std.proofs.Common.{◌+◌, ◌-◌, ◌≤◌, length, drop}
use Rattle.syntax_lexer.specs.Tokens.{Lexes, TokenOutcome}
use Rattle.syntax_lexer.proofs.Loop.{puts}
use Rattle.syntax_lexer.proofs.source.lex_placed.Given as goal

abbrev pub invariant-loop-offset : goal.invariant-loop-offset
invariant-loop-offset l = record {
  within : l.offset ≤ length l.source;
  lines : l.line ≤ l.offset + 1;
  rest : (o : TokenOutcome) → Lexes l.offset l.line (drop l.offset l.source) o
      → Lexes 0 1 l.source (puts l.tokens.items o);
}

abbrev pub decreases-loop-offset : goal.decreases-loop-offset
decreases-loop-offset l = length l.source - l.offset
