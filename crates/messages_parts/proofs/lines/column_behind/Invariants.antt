use Rattle.std.proofs.Common.{◌≡◌, ◌+◌, ◌≤◌, drop}
use Rattle.messages_parts.specs.Lines.{column_behind}
use Rattle.messages_parts.proofs.lines.column_behind.Given as goal

abbrev pub invariant-loop-byte : goal.invariant-loop-byte
invariant-loop-byte l = record {
  value : column_behind l.column (drop l.byte-index l.bytes) ≡ column_behind 1 l.bytes;
  small : l.column ≤ l.byte-index + 1;
}
