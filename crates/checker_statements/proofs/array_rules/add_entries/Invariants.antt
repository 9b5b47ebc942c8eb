use Rattle.std.proofs.Common.{◌≡◌, ◌++◌, drop}
use Rattle.std.specs.List.{flat_map}
use Rattle.checker_values.specs.Noted.{noted}
use Rattle.checker_statements.specs.Entries.{own_entry_bytes, own_entry_breaches}
use Rattle.checker_values.specs.Scope.{file_in}
use Rattle.checker_statements.proofs.array_rules.add_entries.Given as goal

abbrev pub invariant-loop-value : goal.invariant-loop-value
invariant-loop-value l = record {
  bytes : l.bytes.items ++ flat_map (own_entry_bytes (file_in l.file) l.width) (drop l.value-index l.values)
      ≡ l.fn.bytes.items ++ flat_map (own_entry_bytes (file_in l.file) l.width) l.values;
  tally : noted l.tally (flat_map (own_entry_breaches l.file.table.entries l.width) (drop l.value-index l.values))
      ≡ noted l.fn.tally (flat_map (own_entry_breaches l.file.table.entries l.width) l.values);
}
