use Rattle.std.proofs.Common.{◌≡◌, ◌-◌, ◌<◌}
use Rattle.zcore_versions.specs.SmallObjects.{named_from}
use Rattle.machine_small_entries.proofs.named.named_from.Given as goal

abbrev pub invariant-loop-step : goal.invariant-loop-step
invariant-loop-step l = record {
  inside : l.at < l.end;
  same : named_from l.memory l.table l.end l.object l.at (256 - l.step)
      ≡ named_from l.memory l.table l.end l.object l.fn.from 256;
}
