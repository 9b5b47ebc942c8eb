use Rattle.std.proofs.Common.{◌-◌}
use Rattle.machine_standard_tables.proofs.Fields.{FindsFrom}
use Rattle.machine_standard_tables.proofs.scanning.find_field.Given as goal

abbrev pub invariant-loop-step : goal.invariant-loop-step
invariant-loop-step l = record {
  same : FindsFrom l.store l.form l.word l.table l.count l.at (l.count - l.step);
}
