use Rattle.std.proofs.Common.{◌≡◌, ◌≤◌, ◌+◌, ◌*◌, drop, length}
use Rattle.ztext.specs.Alphabets.{spelled}
use Rattle.messages_diagnosis.proofs.table_bytes.text_characters.Given as goal

abbrev pub invariant-loop-character : goal.invariant-loop-character
invariant-loop-character l = record {
  sum : l.count + length (spelled (drop l.character-index l.text)) ≡ length (spelled l.text);
  bound : l.count ≤ l.character-index * 4;
}
