use Rattle.checker_values.specs.Scope.{file_in}
use Rattle.checker_statements.proofs.ArrayBytes.{all_added, entry_added, entry_noted, all_noted}
use Rattle.checker_statements.specs.Entries.{own_entry_bytes}
use Rattle.checker_statements.proofs.array_rules.add_entries.Goals as goal

pub loop-value-preserved : goal.loop-value-preserved
loop-value-preserved c = record {
  bytes = entry_added (file_in c.args.file.now) c.args.width c.args.values.now c.loop-value.value-index _
      c.entry-number.result c.loop-value.bytes.items c.add_entry.new.bytes.items _ c.loop-value-test.true
      c.entry-number.ensures.value c.in_ok-add_entry.ensures c.loop-value.invariant.bytes;
  tally = entry_noted c.args.file.now.table.entries c.args.width c.args.values.now c.loop-value.value-index _
      c.loop-value.tally c.entry-number.new.tally _ c.loop-value-test.true c.entry-number.ensures.breaches
      c.loop-value.invariant.tally;
}

pub returns-clause-bytes : goal.returns-clause-bytes
returns-clause-bytes c =
    all_added (own_entry_bytes (file_in c.args.file.now) c.args.width) c.args.values.now c.loop-value.value-index
    c.loop-value.bytes.items _ c.loop-value-test.false c.loop-value.invariant.bytes

pub returns-clause-breaches : goal.returns-clause-breaches
returns-clause-breaches c =
    all_noted c.args.file.now.table.entries c.args.width c.args.values.now c.loop-value.value-index c.loop-value.tally _
    c.loop-value-test.false c.loop-value.invariant.tally
