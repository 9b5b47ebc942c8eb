use Rattle.machine_decoding.proofs.Decoding.{far_read, far_wrong}
use Rattle.machine_decoding.proofs.decode.far_jump.Goals as goal

pub returns-then-story-at-clause-instruction : goal.returns-then-story-at-clause-instruction
returns-then-story-at-clause-instruction c = far_wrong c.args.story.now c.args.at c.if-story-at.true

pub returns-clause-instruction : goal.returns-clause-instruction
returns-clause-instruction c = far_read c.args.story.now c.args.at c.if-story-at.false
