use Rattle.std.proofs.Common.{arith}
use Rattle.std.proofs.lemmas.List.{take_all, length-drop}
use Rattle.machine_standard_opcodes.proofs.beginning.after_header.Goals as goal

pub returns : goal.returns
returns c = take_all _ _ (omega (arith, length-drop 64 c.args.memory.now))
