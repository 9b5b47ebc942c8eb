use Rattle.std.proofs.Common.{arith}
use Rattle.machine_lines.proofs.Words.{four_written}
use Rattle.machine_standard_words.proofs.slots.put_four.Goals as goal

pub returns : goal.returns
returns c = four_written c.args.bytes.now c.args.place _ _ _ _ (omega (arith, c.requires, c.told-bytes))
