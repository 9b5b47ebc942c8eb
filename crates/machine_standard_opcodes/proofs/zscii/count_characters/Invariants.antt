use Rattle.std.proofs.Common.{◌≤◌}
use Rattle.machine_standard_opcodes.specs.Begun.{IsBegun}
use Rattle.machine_standard_opcodes.proofs.Codes.{Counted}
use Rattle.machine_standard_opcodes.proofs.zscii.count_characters.Given as goal

abbrev pub invariant-loop-i : goal.invariant-loop-i
invariant-loop-i l = record {
  counted : Counted l.bytes l.i l.count l.begun;
  begun : IsBegun l.begun;
  few : l.count ≤ l.i;
}
