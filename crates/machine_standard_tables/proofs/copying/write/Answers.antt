use Rattle.std.proofs.Common.{arith}
use Rattle.machine_frames.specs.Contents.{memory_of}
use Rattle.machine_frames.proofs.Bytes.{byte_within, writable, writable_inside}
use Rattle.machine_lines.proofs.Lines.{byte_filled}
use Rattle.machine_standard_tables.proofs.copying.write.Goals as goal

pub overflow_add-at : goal.overflow_add-at
overflow_add-at c = omega (arith, writable_inside _ c.args.at c.requires.sound c.requires.writable)

pub put-requires-clause-within : goal.put-requires-clause-within
put-requires-clause-within c = byte_within _ _ (omega arith)

pub returns-clause-filled : goal.returns-clause-filled
returns-clause-filled c =
    let at = writable (memory_of c.args.store.now.store) c.args.at c.requires.writable in
    byte_filled c.args.store.now c.put.new.self c.args.at c.args.byte c.requires.sound at.0 at.1
    c.in_ok-put.ensures.cells c.put.ensures.fixed c.in_ok-put.ensures.beginning
