use Rattle.std.proofs.Common.{◌≡◌, ◌≤◌, ◌+◌, ◌*◌, ◌^◌, drop}
use Rattle.meaning.proofs.Folding.{texts_total}
use Rattle.messages_diagnosis.proofs.table_bytes.texts_bytes.Given as goal

abbrev pub invariant-loop-text : goal.invariant-loop-text
invariant-loop-text l = record {
  sum : l.size + texts_total (drop l.text-index l.texts) ≡ texts_total l.texts;
  bound : l.size ≤ l.text-index * (9 * 2 ^ 64);
}
