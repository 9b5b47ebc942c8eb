use Rattle.machine_standard_opcodes.proofs.Codes.{Added}
use Rattle.machine_standard_opcodes.proofs.zscii.add_zscii.Given as goal

abbrev pub invariant-loop-i : goal.invariant-loop-i
invariant-loop-i l = Added l.extra l.fn.text.items l.text.items l.from l.i l.begun
