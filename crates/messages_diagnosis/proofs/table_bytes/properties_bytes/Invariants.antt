use Rattle.std.proofs.Common.{◌≡◌, ◌≤◌, ◌+◌, ◌*◌, drop}
use Rattle.meaning.proofs.Folding.{properties_total}
use Rattle.messages_diagnosis.proofs.table_bytes.properties_bytes.Given as goal

abbrev pub invariant-loop-property : goal.invariant-loop-property
invariant-loop-property l = record {
  sum : l.size + properties_total (drop l.property-index l.properties) ≡ properties_total l.properties;
  bound : l.size ≤ l.property-index * 66;
}
