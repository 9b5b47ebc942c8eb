use Rattle.std.proofs.Common.{◌+◌, ◌*◌, ◌/◌, ap, ◌∙◌, arith, slice_index, length}
use Rattle.machine_frames.specs.Contents.{memory_of}
use Rattle.machine_frames.proofs.Bytes.{byte_within}
use Rattle.machine_frames.proofs.Kept.{length-memory}
use Rattle.machine_standard_opcodes.proofs.Cuts.{transcript_as}
use Rattle.machine_standard_opcodes.proofs.streams.set_transcript.Goals as goal

pub byte-flags-requires : goal.byte-flags-requires
byte-flags-requires c =
    let e = ap (λ s. length (memory_of s)) c.store.ensures in
    omega (arith, e, length-memory c.args.store.now.store c.requires.sound, c.requires.sound.static_base)

pub put-requires-clause-within : goal.put-requires-clause-within
put-requires-clause-within c = byte_within 72576 (c.byte-flags.result / 2 * 2 + c.args.bit) (omega arith)

pub returns-clause-told : goal.returns-clause-told
returns-clause-told c = transcript_as c.put.result c.args.store.now c.put.new.self c.byte-flags.result c.args.bit
    c.requires.sound (c.byte-flags.ensures ∙ ap (λ m. slice_index m 17) (ap memory_of c.store.ensures))
    c.put.ensures.cells c.put.ensures.fixed c.put.ensures.beginning
