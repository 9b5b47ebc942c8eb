use Rattle.std.proofs.Common.{ap, ◌∙◌}
use Rattle.machine_frames.specs.Contents.{memory_of}
use Rattle.machine_standard_saves.proofs.GivenFiles.{goes_on_there, no_place}
use Rattle.machine_standard_saves.proofs.answers.is_place.Goals as goal

pub returns-then-not-follows-clause-is : goal.returns-then-not-follows-clause-is
returns-then-not-follows-clause-is c =
    no_place c.args.store.now.store c.args.story.now c.memory-memory.result.now c.args.form c.args.place
    c.follows_save-follows.result (c.memory-memory.ensures ∙ ap memory_of c.store.ensures)
    c.follows_save-follows.ensures c.if-not-follows.true

pub returns-clause-is : goal.returns-clause-is
returns-clause-is c =
    goes_on_there c.can_answer.result c.args.store.now.store c.args.story.now c.memory-memory.result.now c.args.form
    c.args.place c.follows_save-follows.result (c.memory-memory.ensures ∙ ap memory_of c.store.ensures)
    c.follows_save-follows.ensures c.if-not-follows.false c.can_answer.ensures.can
