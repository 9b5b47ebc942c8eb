use Rattle.std.proofs.Common.{arith}
use Rattle.machine_opcodes.proofs.Transcripts.{byte_more}
use Rattle.machine_opcodes.proofs.transcript.transcribe.Goals as goal

pub loop-i-preserved : goal.loop-i-preserved
loop-i-preserved c = record {
  so_far = byte_more c.args.characters.now c.loop-i.characters c.loop-i.i c.transcribed.result (omega arith)
      c.loop-i.invariant.so_far c.transcribed.ensures.byte;
}
