use Rattle.std.proofs.Common.{◌≡◌, ◌+◌, ◌≤◌, drop}
use Rattle.syntax_lexer.specs.Placed.{line_behind}
use Rattle.messages_parts.proofs.lines.line_behind.Given as goal

abbrev pub invariant-loop-byte : goal.invariant-loop-byte
invariant-loop-byte l = record {
  value : line_behind l.line (drop l.byte-index l.bytes) ≡ line_behind 1 l.bytes;
  small : l.line ≤ l.byte-index + 1;
}
