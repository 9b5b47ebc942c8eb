use Rattle.std.proofs.Common.{arith}
use Rattle.std.proofs.lemmas.List.{take_all, length-drop}
use Rattle.machine_standard_saves.proofs.restoring.bytes_after.Goals as goal

pub returns : goal.returns
returns c = take_all _ _ (omega (arith, length-drop c.args.at c.args.bytes.now))
