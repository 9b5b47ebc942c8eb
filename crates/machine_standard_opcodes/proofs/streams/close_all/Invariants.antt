use Rattle.std.proofs.Common.{drop}
use Rattle.machine_standard_windows.specs.TurnState.{Keeps}
use Rattle.machine_standard_opcodes.proofs.Cuts.{Closing}
use Rattle.machine_standard_opcodes.proofs.streams.close_all.Given as goal

abbrev pub invariant-loop-i : goal.invariant-loop-i
invariant-loop-i l = record {
  closing : Closing l.extra l.streams l.fn.store l.store (drop l.start l.fn.text.items) (drop l.start l.text.items) l.i;
  keeps : Keeps l.start l.fn.text.items l.text.items;
}
