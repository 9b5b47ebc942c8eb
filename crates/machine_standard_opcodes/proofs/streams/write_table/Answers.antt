use Rattle.std.proofs.Common.{sym, ◌∙◌, ◌+◌, arith, refl, length}
use Rattle.std.specs.Prelude.{nat_le}
use Rattle.std.proofs.lemmas.Bool.{and_parts, leb-true}
use Rattle.zcore.specs.Header.{static_base_of}
use Rattle.machine_frames.specs.Contents.{memory_of}
use Rattle.machine_lines.proofs.Lines.{base_kept}
use Rattle.machine_standard_opcodes.proofs.Cuts.{table_written, table_refused}
use Rattle.machine_standard_opcodes.proofs.streams.write_table.Goals as goal

pub returns-then-not-are_writable : goal.returns-then-not-are_writable
returns-then-not-are_writable c =
    let m = memory_of c.args.store.now.store in
    table_refused c.args.store.now c.args.table c.args.characters.now c.requires.store.sound
    (sym (c.are_writable.ensures m c.requires.store.headed.static_base) ∙ c.if-not-are_writable.true)

pub fill-requires-2-clause-room : goal.fill-requires-2-clause-room
fill-requires-2-clause-room c =
    let m = memory_of c.args.store.now.store in
    let parts = and_parts (nat_le 64 c.args.table)
    (nat_le (c.args.table + (length c.args.characters.now + 2)) (static_base_of m))
    (sym (c.are_writable.ensures m c.requires.store.headed.static_base) ∙ c.if-not-are_writable.false) in
    let room = leb-true (c.args.table + (length c.args.characters.now + 2)) (static_base_of m) parts.1 in
    omega (arith, room, base_kept _ _ c.in_ok-fill.ensures.filled.goes_on)

pub returns : goal.returns
returns c =
    let m = memory_of c.args.store.now.store in
    table_written c.args.store.now c.fill.new.store c.fill-2.new.store c.args.table _ _ c.args.characters.now refl refl
    (sym (c.are_writable.ensures m c.requires.store.headed.static_base) ∙ c.if-not-are_writable.false)
    c.in_ok-fill.ensures.filled c.in_ok-fill-2.ensures.filled
