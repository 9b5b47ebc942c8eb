use Rattle.std.proofs.Common.{◌+◌, ◌*◌, ◌/◌, ◌%◌, ap, ◌∙◌, arith, slice_index, length}
use Rattle.machine_frames.specs.Contents.{memory_of}
use Rattle.machine_frames.proofs.Bytes.{byte_within}
use Rattle.machine_frames.proofs.Kept.{length-memory}
use Rattle.machine_standard_opcodes.proofs.Anew.{flags_restored}
use Rattle.machine_standard_opcodes.proofs.beginning.restore_flags.Goals as goal

pub byte-flags-requires : goal.byte-flags-requires
byte-flags-requires c =
    let e = ap (λ s. length (memory_of s)) c.store.ensures in
    omega (arith, e, length-memory c.args.store.now.store c.requires.sound, c.requires.sound.static_base)

pub put-requires-clause-within : goal.put-requires-clause-within
put-requires-clause-within c = byte_within 72576 _ (omega arith)

pub returns-clause-restored : goal.returns-clause-restored
returns-clause-restored c = flags_restored c.put.result c.args.store.now c.put.new.self c.byte-flags.result
    c.args.dynamic.now c.requires.sound
    (c.byte-flags.ensures ∙ ap (λ m. slice_index m 17) (ap memory_of c.store.ensures))
    c.put.ensures.cells c.put.ensures.fixed c.put.ensures.beginning
