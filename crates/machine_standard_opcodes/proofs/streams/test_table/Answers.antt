use Rattle.std.proofs.Common.{sym, ◌∙◌}
use Rattle.machine_frames.specs.Contents.{memory_of}
use Rattle.machine_standard_opcodes.proofs.Cuts.{given_fits, given_unfit}
use Rattle.machine_standard_opcodes.proofs.streams.test_table.Goals as goal

pub returns-then-are_writable : goal.returns-then-are_writable
returns-then-are_writable c extra text is =
    let m = memory_of c.args.store.now.store in
    given_fits c.args.store.now extra text c.args.given.now c.args.stream _ c.requires.store.sound is
    c.count_characters-count.ensures.same
    (sym (c.are_writable.ensures m c.requires.store.headed.static_base) ∙ c.if-are_writable.true)

pub returns-else-are_writable : goal.returns-else-are_writable
returns-else-are_writable c extra text is =
    let m = memory_of c.args.store.now.store in
    given_unfit c.args.store.now extra text c.args.given.now c.args.stream _ c.requires.store.sound is
    c.count_characters-count.ensures.same
    (sym (c.are_writable.ensures m c.requires.store.headed.static_base) ∙ c.if-are_writable.false)
