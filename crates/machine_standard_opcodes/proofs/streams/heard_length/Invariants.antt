use Rattle.std.proofs.Common.{◌≡◌, ◌≤◌, ℕ, List, drop, length, take}
use Rattle.zcore_standard.specs.Streams.{heard}
use Rattle.machine_standard_opcodes.proofs.streams.heard_length.Given as goal

abbrev pub invariant-loop-i : goal.invariant-loop-i
invariant-loop-i l = record {
  heard : (text : List ℕ) → length text ≡ l.long → heard (drop l.i l.streams) (take l.kept text) ≡ heard l.streams text;
  within : l.kept ≤ l.long;
}
