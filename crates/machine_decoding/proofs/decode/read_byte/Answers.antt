use Rattle.std.proofs.Common.{refl, length}
use Rattle.std.proofs.lemmas.Bool.{lt-ltb, le-ltb}
use Rattle.zcore.specs.Instruction.{byte}
use Rattle.machine_decoding.proofs.decode.read_byte.Goals as goal

pub returns-then-at-story-clause-byte : goal.returns-then-at-story-clause-byte
unfolding byte
returns-then-at-story-clause-byte c = rw (lt-ltb c.args.at (length c.args.story.now) c.if-at-story.true) refl

pub returns-else-at-story-clause-byte : goal.returns-else-at-story-clause-byte
unfolding byte
returns-else-at-story-clause-byte c = rw (le-ltb c.args.at (length c.args.story.now) c.if-at-story.false) refl
