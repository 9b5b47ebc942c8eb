use Rattle.std.proofs.Common.{◌≡◌, ◌+◌, ◌-◌, ◌<◌}
use Rattle.zcore.specs.Entries.{named_from}
use Rattle.machine_objects.proofs.links.named_from.Given as goal

abbrev pub invariant-loop-step : goal.invariant-loop-step
invariant-loop-step l = record {
  inside : l.at + 1 < l.end;
  same : named_from l.memory l.table l.end l.object l.at (4681 - l.step)
      ≡ named_from l.memory l.table l.end l.object l.fn.from 4681;
}
