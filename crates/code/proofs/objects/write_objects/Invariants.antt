use Rattle.std.proofs.Common.{◌≡◌, ◌+◌, ◌++◌, drop, take, length}
use Rattle.std.specs.List.{All, flat_map}
use Rattle.tables.specs.Rows as written
use Rattle.code.proofs.TableSizes.{IsWhole}
use Rattle.code.proofs.objects.write_objects.Given as goal

-- the entries and the property tables so far are those of the rows so far, each of which fits
abbrev pub invariant-loop-row : goal.invariant-loop-row
invariant-loop-row l = record {
  entries : l.bytes.items ++ written.entries_bytes (l.start + length l.tables.items) (drop l.row-index l.rows)
      ≡ l.initial.bytes.items ++ written.entries_bytes l.start l.rows;
  tables : l.tables.items ++ flat_map written.table_bytes (drop l.row-index l.rows)
      ≡ flat_map written.table_bytes l.rows;
  whole : All IsWhole (take l.row-index l.rows);
}
