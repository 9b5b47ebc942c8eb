use Rattle.std.proofs.Common.{◌≡◌, ◌≤◌, ◌+◌, ◌*◌, ◌^◌, drop}
use Rattle.meaning.proofs.Folding.{objects_total}
use Rattle.messages_diagnosis.proofs.table_bytes.objects_bytes.Given as goal

abbrev pub invariant-loop-object : goal.invariant-loop-object
invariant-loop-object l = record {
  sum : l.size + objects_total (drop l.object-index l.objects) ≡ objects_total l.objects;
  bound : l.size ≤ l.object-index * (75 * 2 ^ 64);
}
