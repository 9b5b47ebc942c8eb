use Rattle.std.proofs.Common.{ap, sym, ◌∙◌}
use Rattle.zcore_standard.specs.Tables.{are_writable}
use Rattle.machine_frames.specs.Contents.{memory_of}
use Rattle.machine_standard_tables.proofs.Tests.{writable_went, writable_none}
use Rattle.machine_standard_tables.proofs.testing.test_writable.Goals as goal

pub returns-then-are_writable : goal.returns-then-are_writable
returns-then-are_writable c =
    let memory = c.memory.ensures ∙ ap memory_of c.store.ensures in
    writable_went _ c.args.at c.args.count c.requires.store.sound
    (ap (λ m. are_writable m c.args.at c.args.count) (sym memory) ∙ sym c.are_writable.ensures
    ∙ c.if-are_writable.true)

pub returns-else-are_writable : goal.returns-else-are_writable
returns-else-are_writable c =
    let memory = c.memory.ensures ∙ ap memory_of c.store.ensures in
    writable_none _ c.args.at c.args.count c.requires.store.sound
    (ap (λ m. are_writable m c.args.at c.args.count) (sym memory) ∙ sym c.are_writable.ensures
    ∙ c.if-are_writable.false)
