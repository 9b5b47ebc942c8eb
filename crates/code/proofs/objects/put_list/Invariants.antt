use Rattle.std.proofs.Common.{◌≡◌, ◌++◌, drop}
use Rattle.tables.specs.Rows as written
use Rattle.code.proofs.objects.put_list.Given as goal

abbrev pub invariant-loop-property : goal.invariant-loop-property
invariant-loop-property l = l.bytes.items ++ written.list_bytes (drop l.property-index l.properties)
    ≡ l.initial.bytes.items ++ written.list_bytes l.properties
