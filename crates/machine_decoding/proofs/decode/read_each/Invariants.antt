use Rattle.std.proofs.Common.{◌≡◌, ◌≤◌, length, take, drop}
use Rattle.zcore.specs.Instruction.{operands}
use Rattle.machine_decoding.proofs.OperandsRead.{read_on}
use Rattle.machine_decoding.proofs.decode.read_each.Given as goal

abbrev pub invariant-loop-i : goal.invariant-loop-i
invariant-loop-i l = record {
  read : operands l.story (take l.count l.types) l.at
      ≡ read_on (take l.i l.operands) (operands l.story (drop l.i (take l.count l.types)) l.after);
  size : length l.operands ≡ 8;
  within : l.after ≤ length l.story;
}
