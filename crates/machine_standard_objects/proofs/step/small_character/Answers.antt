use Rattle.std.proofs.Common.{arith}
use Rattle.machine_standard_objects.proofs.Characters.{small_character_read}
use Rattle.machine_standard_objects.proofs.step.small_character.Goals as goal

pub returns-clause-read : goal.returns-clause-read
returns-clause-read c = rw c.if-first-ne-PRINT_CHAR.false
    (small_character_read c.args.story.now c.args.at (omega arith) c.if-types-ne-ONE_SMALL.false)
