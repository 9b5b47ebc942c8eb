use Rattle.std.proofs.Common.{◌≡◌, ◌-◌, length}
use Rattle.zcore_versions.specs.SmallProperties.{found_in}
use Rattle.machine_versions.proofs.properties.search_list.Given as goal

abbrev pub invariant-loop-step : goal.invariant-loop-step
invariant-loop-step l =
    found_in l.memory (length l.memory) l.number l.at (length l.memory - l.step)
    ≡ found_in l.memory (length l.memory) l.number l.start (length l.memory)
