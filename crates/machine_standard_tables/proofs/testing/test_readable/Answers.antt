use Rattle.std.proofs.Common.{ap, sym, ◌∙◌}
use Rattle.zcore_standard.specs.Tables.{are_readable}
use Rattle.machine_frames.specs.Contents.{memory_of}
use Rattle.machine_standard_tables.proofs.Tests.{readable_went, readable_none}
use Rattle.machine_standard_tables.proofs.testing.test_readable.Goals as goal

pub returns-then-are_readable : goal.returns-then-are_readable
returns-then-are_readable c =
    let memory = c.memory.ensures ∙ ap memory_of c.store.ensures in
    readable_went _ c.args.at c.args.count c.requires.sound
    (ap (λ m. are_readable m c.args.at c.args.count) (sym memory) ∙ sym c.are_readable.ensures
    ∙ c.if-are_readable.true)

pub returns-else-are_readable : goal.returns-else-are_readable
returns-else-are_readable c =
    let memory = c.memory.ensures ∙ ap memory_of c.store.ensures in
    readable_none _ c.args.at c.args.count c.requires.sound
    (ap (λ m. are_readable m c.args.at c.args.count) (sym memory) ∙ sym c.are_readable.ensures
    ∙ c.if-are_readable.false)
