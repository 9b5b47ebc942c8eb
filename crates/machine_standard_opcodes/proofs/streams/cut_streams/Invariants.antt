use Rattle.std.proofs.Common.{◌≡◌, drop}
use Rattle.zcore_standard.specs.Streams.{heard}
use Rattle.machine_standard_windows.specs.TurnState.{Keeps}
use Rattle.machine_standard_opcodes.proofs.streams.cut_streams.Given as goal

abbrev pub invariant-loop-i : goal.invariant-loop-i
invariant-loop-i l = record {
  heard : heard (drop l.i l.streams) (drop l.start l.text.items) ≡ heard l.streams (drop l.start l.fn.text.items);
  keeps : Keeps l.start l.fn.text.items l.text.items;
}
